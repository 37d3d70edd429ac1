use Rattle.std.proofs.Common.{◌≡◌, ◌∷◌, ◌≤◌, ◌-◌, drop, length}
use Rattle.ebr_value.specs.Patterns.{like}
use Rattle.ebr_value.proofs.pattern.like_after.Given as goal

-- what is left of the text has to be like `%` and what is left of the pattern
abbrev pub invariant-loop-rest : goal.invariant-loop-rest
invariant-loop-rest l = record {
  same : like (37 ∷ drop l.at l.pattern) (drop l.place l.text) ≡ like (37 ∷ l.pattern) l.text;
  within : l.at ≤ length l.pattern;
  there : l.place ≤ length l.text;
}

abbrev pub decreases-loop-rest : goal.decreases-loop-rest
decreases-loop-rest l = length l.pattern - l.at
