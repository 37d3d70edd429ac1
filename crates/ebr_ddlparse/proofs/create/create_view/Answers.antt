use Rattle.std.proofs.Common.{rules}
use Rattle.ebr_ddlparse.specs.Views.{view_reader}
use Rattle.ebr_grammar.proofs.Steps.{steps}
use Rattle.ebr_ddlparse.specs.Definitions.{create_view}
use Rattle.ebr_ddlparse.proofs.create.create_view.Goals as goal

pub returns-in_err-view : goal.returns-in_err-view
unfolding create_view view_reader
returns-in_err-view c = simp steps (search rules)

pub returns : goal.returns
unfolding create_view view_reader
returns c = simp steps (search rules)
