use Rattle.std.proofs.Common.{◌≡◌, ◌≤◌, ◌-◌, ◌++◌, drop, length}
use Rattle.ebr_cut.specs.Reading.{cut, read}
use Rattle.ebr_cut.proofs.pieces.read.Given as goal

-- the pieces so far, and those of the rest
abbrev pub invariant-loop : goal.invariant-loop
invariant-loop l = record {
  same : l.spans ++ read (length l.script - l.counter) l.place l.fresh (drop l.place l.script) ≡ cut l.script;
  within : l.place ≤ length l.script;
}
