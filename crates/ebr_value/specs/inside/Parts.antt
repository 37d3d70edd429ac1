-- How LIKE is computed.
use Rattle.std.specs.Prelude.{ℕ, ◌≢◌, ◌<◌, ◌≤◌, ◌-◌, Bool, true, not, ◌==◌, List, [], ◌∷◌, length, slice_index}
use Rattle.ebr_value.specs.Patterns.{after_one}

-- a byte of a pattern between its `%`
abbrev pub in_part : ℕ → Bool
in_part p = not (p == 37)

-- whether a part of a pattern, without `%`, fits the front of a text
abbrev pub fits : List ℕ → List ℕ → Bool
fits [] text = true
fits (p ∷ ps) text = after_one p (fits ps) text

-- a stretch of a part, from one place up to another: it has no `_`
pub record IsStretch (part : List ℕ) (start end : ℕ) : Type 0 where
  pub ordered : start ≤ end
  pub within : end ≤ length part
  pub plain : (k : ℕ) → start ≤ k → k < end → slice_index part k ≢ 95

-- the longest one
pub record IsLongest (part : List ℕ) (start end : ℕ) : Type 0 where
  pub stretch : IsStretch part start end
  pub longest : (a b : ℕ) → IsStretch part a b → b - a ≤ end - start
