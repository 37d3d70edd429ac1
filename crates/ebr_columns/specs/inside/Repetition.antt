-- What a set of names tells of a list of them.
use Rattle.std.specs.Prelude.{◌≡◌, ℕ, true, false, List, Option, Some, None}
use Rattle.std.specs.Str.{bytes_eq}
use Rattle.ebr_tables.specs.Definitions.{has_repetition}

-- the names as they are, where none stands twice
abbrev pub IsDistinct : List (List ℕ) → Option (List (List ℕ)) → Type 0
IsDistinct names None = has_repetition bytes_eq names ≡ true
IsDistinct names (Some keys) = (keys ≡ names) × (has_repetition bytes_eq names ≡ false)
