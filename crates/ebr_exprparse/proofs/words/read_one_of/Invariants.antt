use Rattle.std.proofs.Common.{◌≡◌, length}
use Rattle.ebr_exprparse.specs.inside.Words.{read_one}
use Rattle.ebr_exprparse.proofs.words.read_one_of.Given as goal

abbrev pub invariant-loop-words : goal.invariant-loop-words
invariant-loop-words g l = read_one l.words l.tokens ≡ read_one l.initial.words l.initial.tokens

abbrev pub decreases-loop-words : goal.decreases-loop-words
decreases-loop-words g l = length l.words
