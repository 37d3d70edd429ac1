use Rattle.std.proofs.Common.{◌≡◌, ◌≤◌, min, drop}
use Rattle.ebr_order.specs.Order as spec
use Rattle.ebr_order.proofs.number.number_in_front.Given as goal

-- the number so far, cut at the bound, and the digits behind it
abbrev pub invariant-loop-byte : goal.invariant-loop-byte
invariant-loop-byte l = record {
  same : min l.bound (spec.number_after l.number (drop l.byte-index l.bytes)) ≡ min l.bound (spec.number_in_front l.bytes);
  within : l.number ≤ l.bound;
}
