use Rattle.std.proofs.Common.{rules}
use Rattle.ebr_grammar.proofs.Steps.{steps}
use Rattle.ebr_ddlparse.specs.Base.{one_name}
use Rattle.ebr_ddlparse.proofs.names.one_name.Goals as goal

pub returns : goal.returns
unfolding one_name
returns c = simp steps (search rules)
