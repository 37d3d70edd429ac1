use Rattle.std.proofs.Common.{rules}
use Rattle.ebr_grammar.proofs.Steps.{steps}
use Rattle.ebr_ddlparse.specs.Base.{closed_names}
use Rattle.ebr_ddlparse.proofs.names.read_closed_names.Goals as goal

pub returns-in_err-found : goal.returns-in_err-found
unfolding closed_names
returns-in_err-found c = simp steps (search rules)

pub returns : goal.returns
unfolding closed_names
returns c = simp steps (search rules)
