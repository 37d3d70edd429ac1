use Rattle.std.proofs.Common.{◌≡◌, drop, false}
use Rattle.ebr_lexer.specs.Extents.{comment_length}
use Rattle.ebr_lexer.proofs.extent.comment_length.Given as goal

abbrev pub invariant-loop-i : goal.invariant-loop-i
invariant-loop-i l = comment_length l.star l.i (drop l.i l.bytes) ≡ comment_length false 0 l.bytes
