use Rattle.ebr_script.proofs.TextsOfObjects.{stores_computed, one_definition}
use Rattle.ebr_script.proofs.script.one_definition.Goals as goal

pub returns-clause-computed : goal.returns-clause-computed
returns-clause-computed c = stores_computed

pub returns-clause-one : goal.returns-clause-one
returns-clause-one c = one_definition
