use Rattle.std.proofs.Common.{◌≡◌, ◌≤◌, ◌+◌, drop, false, length}
use Rattle.ebr_lexer.specs.Reading.{undoubled}
use Rattle.ebr_lexer.proofs.text.content_length.Given as goal

abbrev pub invariant-loop-byte : goal.invariant-loop-byte
invariant-loop-byte l = record {
  same : l.count + length (undoubled l.pending (drop l.byte-index l.spelled)) ≡ length (undoubled false l.spelled);
  small : l.count ≤ l.byte-index;
}
