use Rattle.std.proofs.Common.{◌≡◌, ◌≤◌, ◌+◌, ◌-◌, length, drop}
use Rattle.ebr_cut.specs.Reading.{bit_front, passed}
use Rattle.ebr_cut.proofs.statement.statement_length.Given as goal

abbrev pub invariant-loop : goal.invariant-loop
invariant-loop l = record {
  same : l.place + passed bit_front (length l.bytes - l.counter) (drop l.place l.bytes) ≡ passed bit_front (length l.bytes) l.bytes;
  within : l.place ≤ length l.bytes;
}
