use Rattle.std.proofs.Common.{◌≡◌, ◌<◌, ◌^◌, drop}
use Rattle.ebr_value.specs.Numerals.{decimal, decimal_after}
use Rattle.ebr_value.proofs.numeral.decimal.Given as goal

-- the number so far, and the rest of the digits
abbrev pub invariant-loop-byte : goal.invariant-loop-byte
invariant-loop-byte l = record {
  same : decimal_after l.value (drop l.byte-index l.digits) ≡ decimal l.digits;
  small : l.value < 10 ^ l.byte-index;
}
