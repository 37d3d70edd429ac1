use Rattle.std.proofs.Common.{◌≡◌, drop}
use Rattle.ebr_cut.specs.Lines.{rest_is_white}
use Rattle.ebr_cut.proofs.line.rest_is_white.Given as goal

abbrev pub invariant-loop-byte : goal.invariant-loop-byte
invariant-loop-byte l = rest_is_white (drop l.byte-index l.bytes) ≡ rest_is_white l.bytes
