-- What stands ahead of a place in a script, counted from its end.
use Rattle.std.specs.Prelude.{◌≡◌, ℕ, ◌+◌, ◌-◌, ◌≤◌, ◌<◌, if◌then◌else◌, List, length, get_or, drop, false, Option, Some, None}
use Rattle.std.specs.List.{prefix_len}
use Rattle.ebr_lexer.specs.Lexis.{in_line, begins}
use Rattle.ebr_lexer.specs.Extents.{comment_length}
use Rattle.ebr_cut.specs.declared.blank.Seen.{Seen}
use Rattle.ebr_cut.specs.Reading.{blanks_length}

-- The list tells how many bytes of blanks stand in front of each rest of the bytes, by how many bytes the rest has.
pub record Knows (lengths bytes : List ℕ) : Type 0 where
  pub long : length bytes < length lengths
  pub each : (k : ℕ) → k ≤ length bytes → get_or lengths k 0 ≡ blanks_length (drop (length bytes - k) bytes)

-- how many bytes stand in front of the line's end, and up to the next `*/` and with it, from the first byte on and
-- from the second one on
pub record Sees (bytes : List ℕ) (seen : Seen) : Type 0 where
  pub line : seen.line ≡ prefix_len in_line bytes
  pub end : seen.end ≡ comment_length false 0 bytes
  pub later : seen.later ≡ comment_length false 0 (drop 1 bytes)

-- how many bytes stand before the line's end, one byte further in front
abbrev pub line_behind : ℕ → ℕ → ℕ
line_behind b line = if in_line b then line + 1 else 0

abbrev pub one_more : Option ℕ → Option ℕ
one_more None = None
one_more (Some n) = Some (n + 1)

-- how many bytes stand up to the next `*/` and with it, one byte further in front
abbrev pub end_behind : List ℕ → Option ℕ → Option ℕ
end_behind bytes end = if begins 42 47 bytes then Some 2 else one_more end
