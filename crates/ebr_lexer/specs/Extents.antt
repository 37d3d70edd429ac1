-- How far strings and comments go (Oracle Database PL/SQL Language Reference 19c, Lexical Units, Comments and Literals).
use Rattle.std.specs.Prelude.{ℕ, suc, Bool, not, ◌&&◌, if◌then◌else◌, List, [], ◌∷◌, Option, Some, None}
use Rattle.ebr_lexer.specs.Lexis.{is_quote, is_star, is_slash}

-- How many bytes there are up to the closing quote and with it, and n before them; `pending` tells that a quote
-- stands just before, which is the closing one if no other follows.
abbrev pub string_length : Bool → ℕ → List ℕ → Option ℕ
string_length pending n [] = if pending then Some n else None
string_length pending n (b ∷ bs) =
    if pending && not (is_quote b) then Some n else string_length (is_quote b && not pending) (suc n) bs

-- how many bytes there are up to the next `*/` and with it, and n before them; `star` tells that a `*` stands just before
abbrev pub comment_length : Bool → ℕ → List ℕ → Option ℕ
comment_length star n [] = None
comment_length star n (b ∷ bs) = if star && is_slash b then Some (suc n) else comment_length (is_star b) (suc n) bs
