use Rattle.std.proofs.Common.{◌≡◌, length}
use Rattle.ebr_grammar.specs.Kinds.{member}
use Rattle.ebr_grammar.proofs.tokens.is_among.Given as goal

abbrev pub invariant-loop-kinds : goal.invariant-loop-kinds
invariant-loop-kinds l = member l.kind l.kinds ≡ member l.kind l.initial.kinds

abbrev pub decreases-loop-kinds : goal.decreases-loop-kinds
decreases-loop-kinds l = length l.kinds
