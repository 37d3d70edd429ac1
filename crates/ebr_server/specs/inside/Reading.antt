-- What one read adds to the bytes read so far.
use Rattle.std.specs.Prelude.{ℕ, ◌≡◌, ◌≤◌, List, [], ◌++◌, length, take, drop, Option, Some, None}

-- The next n bytes were added, and the others are left; none was added only where none was left.
pub record ReadsNext (left : List ℕ) (n : ℕ) (old new : List ℕ) (rest : Option (List ℕ)) : Type 0 where
  pub added : new ≡ old ++ take n left
  pub others : rest ≡ Some (drop n left)
  pub within : n ≤ length left
  pub at_end : n ≡ 0 → left ≡ []

-- the same for a source that tells its bytes
abbrev pub Reads : Option (List ℕ) → ℕ → List ℕ → List ℕ → Option (List ℕ) → Type 0
Reads None n old new rest = rest ≡ None
Reads (Some left) n old new rest = ReadsNext left n old new rest
