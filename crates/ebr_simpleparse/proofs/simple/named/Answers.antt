use Rattle.std.proofs.Common.{rules}
use Rattle.ebr_grammar.proofs.Steps.{steps}
use Rattle.ebr_simpleparse.specs.Simple.{named_statement}
use Rattle.ebr_simpleparse.proofs.simple.named.Goals as goal

pub returns-in_err-path : goal.returns-in_err-path
unfolding named_statement
returns-in_err-path c = simp steps (search rules)

pub returns : goal.returns
unfolding named_statement
returns c = simp steps (search rules)
