use Rattle.std.proofs.Common.{◌≡◌, ◌<◌, drop, true, false}
use Rattle.ebr_lexer.specs.Extents.{string_length}
use Rattle.ebr_lexer.proofs.extent.string_length.Given as goal

abbrev pub invariant-loop-i : goal.invariant-loop-i
invariant-loop-i l = record {
  same : string_length l.pending l.i (drop l.i l.bytes) ≡ string_length false 0 l.bytes;
  some : l.pending ≡ true → 0 < l.i;
}
