use Rattle.std.proofs.Common.{◌≡◌, ℕ, ◌<◌, ◌≤◌, ◌+◌, ◌-◌, drop, length, false}
use Rattle.ebr_value.specs.inside.Parts.{fits}
use Rattle.ebr_value.proofs.pattern.first_fit.Given as goal

-- the part fits at no place before
abbrev pub invariant-loop-place : goal.invariant-loop-place
invariant-loop-place l = record {
  below : (k : ℕ) → k < l.place → fits l.part (drop k l.text) ≡ false;
  within : l.place ≤ length l.text + 1;
}

abbrev pub decreases-loop-place : goal.decreases-loop-place
decreases-loop-place l = length l.text + 1 - l.place
