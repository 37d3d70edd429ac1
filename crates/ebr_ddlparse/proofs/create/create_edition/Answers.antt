use Rattle.std.proofs.Common.{rules}
use Rattle.ebr_grammar.proofs.Steps.{steps}
use Rattle.ebr_ddlparse.specs.Definitions.{create_edition}
use Rattle.ebr_ddlparse.proofs.create.create_edition.Goals as goal

pub returns-in_err-name : goal.returns-in_err-name
unfolding create_edition
returns-in_err-name c = simp steps (search rules)

pub returns-in_err-parent : goal.returns-in_err-parent
unfolding create_edition
returns-in_err-parent c = simp steps (search rules)

pub returns : goal.returns
unfolding create_edition
returns c = simp steps (search rules)
