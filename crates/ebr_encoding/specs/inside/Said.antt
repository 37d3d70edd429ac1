-- How many changes bytes say that their commit has.
use Rattle.std.specs.Prelude.{ℕ, if◌then◌else◌, ◌==◌, List, [], ◌∷◌, Option, Some, None}
use Rattle.std.specs.Int.{w32}
use Rattle.ebr_encoding.specs.Reading.{number}

abbrev pub count_in : Option (ℕ × List ℕ) → ℕ
count_in None = 0
count_in (Some n) = n.0

-- of no other record
unfoldable pub changes_said : List ℕ → ℕ
changes_said [] = 0
changes_said (kind ∷ fields) = if kind == 1 then count_in (number w32 fields) else 0
