use Rattle.std.proofs.Common.{rules}
use Rattle.ebr_grammar.proofs.Steps.{steps}
use Rattle.ebr_simpleparse.specs.Declarations.{closed_query}
use Rattle.ebr_simpleparse.proofs.declarations.closed_query.Goals as goal

pub returns-in_err-found : goal.returns-in_err-found
unfolding closed_query
returns-in_err-found c = simp steps (search rules)

pub returns : goal.returns
unfolding closed_query
returns c = simp steps (search rules)
