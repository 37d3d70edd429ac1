-- What a read takes.
use Rattle.std.specs.Prelude.{◌≡◌, ℕ, ◌≤◌, List, [], length, take, drop, Option, Some, None}

-- The first n of the bytes are now the first n of a slice, and the rest is left. That n is 0 only
-- where there were no bytes.
pub record TakesFirst (bytes : List ℕ) (n : ℕ) (into : List ℕ) (left : Option (List ℕ)) : Type 0 where
  pub within : n ≤ length bytes
  pub same : take n into ≡ take n bytes
  pub rest : left ≡ Some (drop n bytes)
  pub at_end : n ≡ 0 → bytes ≡ []

-- the same of a source that tells its bytes; another one tells none afterwards either
abbrev pub Takes : Option (List ℕ) → ℕ → List ℕ → Option (List ℕ) → Type 0
Takes None n into left = left ≡ None
Takes (Some bytes) n into left = TakesFirst bytes n into left
