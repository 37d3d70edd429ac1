-- Lines, and which of them hold `/` alone (own).
use Rattle.std.specs.Prelude.{ℕ, Bool, true, false, not, ◌&&◌, ◌||◌, if◌then◌else◌, ◌==◌, List, [], ◌∷◌}
use Rattle.ebr_base.specs.Word.{is_white}
use Rattle.ebr_lexer.specs.Lexis.{is_slash}

abbrev pub is_line_end : ℕ → Bool
is_line_end b = b == 10

-- nothing but white bytes up to the line's end
abbrev pub rest_is_white : List ℕ → Bool
rest_is_white [] = true
rest_is_white (b ∷ bs) = is_line_end b || is_white b && rest_is_white bs

-- `/`, and nothing but white bytes behind it in its line
abbrev pub begins_slash : List ℕ → Bool
begins_slash [] = false
begins_slash (b ∷ bs) = is_slash b && rest_is_white bs

-- a line that holds `/` alone, white bytes aside
abbrev pub is_slash_line : List ℕ → Bool
is_slash_line [] = false
is_slash_line (b ∷ bs) = if is_slash b then rest_is_white bs else not (is_line_end b) && is_white b && is_slash_line bs

-- whether a line after the first one holds `/` alone
abbrev pub has_slash_line : List ℕ → Bool
has_slash_line [] = false
has_slash_line (b ∷ bs) = is_line_end b && is_slash_line bs || has_slash_line bs

-- Whether only white bytes have come since the line began, behind one more byte ..
abbrev pub fresh_behind : Bool → ℕ → Bool
fresh_behind fresh b = is_line_end b || fresh && is_white b

-- .. and behind more bytes
abbrev pub fresh_after : Bool → List ℕ → Bool
fresh_after fresh [] = fresh
fresh_after fresh (b ∷ bs) = fresh_after (fresh_behind fresh b) bs
