use Rattle.std.proofs.Common.{rules}
use Rattle.ebr_grammar.proofs.Steps.{steps}
use Rattle.ebr_ddlparse.specs.Definitions.{drop_edition}
use Rattle.ebr_ddlparse.proofs.drops.drop_edition.Goals as goal

pub returns-in_err-name : goal.returns-in_err-name
unfolding drop_edition
returns-in_err-name c = simp steps (search rules)

pub returns : goal.returns
unfolding drop_edition
returns c = simp steps (search rules)
