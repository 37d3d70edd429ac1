use Rattle.std.proofs.Common.{rules}
use Rattle.ebr_grammar.proofs.Steps.{steps}
use Rattle.ebr_ddlparse.specs.Definitions.{drop_object}
use Rattle.ebr_ddlparse.proofs.drops.drop_object.Goals as goal

pub returns-in_err-name : goal.returns-in_err-name
unfolding drop_object
returns-in_err-name c = simp steps (search rules)

pub returns : goal.returns
unfolding drop_object
returns c = simp steps (search rules)
