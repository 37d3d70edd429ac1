-- The symbols (Oracle Database PL/SQL Language Reference 19c, Lexical Units, Delimiters).
use Rattle.std.specs.Prelude.{ℕ, ◌&&◌, if◌then◌else◌, ◌==◌, List, [], ◌∷◌, Option, Some, None}
use Rattle.ebr_lexer.specs.declared.symbol.Symbol.{Symbol}
use Rattle.ebr_lexer.specs.declared.symbol.Symbol.TheVariants.{Assign, Range, NotEqual, AtMost, AtLeast, Concat, LeftParen, RightParen, Comma, Semicolon, Dot, Equal, Less, Greater, Plus, Minus, Star, Slash, Colon, Percent}

-- the symbol that two bytes spell: `:=` `..` `<>` `!=` `<=` `>=` `||`
unfoldable pub double : ℕ → ℕ → Option Symbol
double a b =
    if a == 58 && b == 61 then Some Assign
    else if a == 46 && b == 46 then Some Range
    else if a == 60 && b == 62 then Some NotEqual
    else if a == 33 && b == 61 then Some NotEqual
    else if a == 60 && b == 61 then Some AtMost
    else if a == 62 && b == 61 then Some AtLeast
    else if a == 124 && b == 124 then Some Concat
    else None

-- the symbol that one byte spells: `(` `)` `,` `;` `.` `=` `<` `>` `+` `-` `*` `/` `:` `%`
unfoldable pub single : ℕ → Option Symbol
single a =
    if a == 40 then Some LeftParen
    else if a == 41 then Some RightParen
    else if a == 44 then Some Comma
    else if a == 59 then Some Semicolon
    else if a == 46 then Some Dot
    else if a == 61 then Some Equal
    else if a == 60 then Some Less
    else if a == 62 then Some Greater
    else if a == 43 then Some Plus
    else if a == 45 then Some Minus
    else if a == 42 then Some Star
    else if a == 47 then Some Slash
    else if a == 58 then Some Colon
    else if a == 37 then Some Percent
    else None

-- a symbol, and how many bytes it has
abbrev pub long : ℕ → Option Symbol → Option (Symbol × ℕ)
long n None = None
long n (Some s) = Some (s, n)

abbrev pub alone : ℕ → Option (Symbol × ℕ)
alone a = long 1 (single a)

-- the first, where there is one
abbrev pub first_of_two : Option (Symbol × ℕ) → Option (Symbol × ℕ) → Option (Symbol × ℕ)
first_of_two (Some s) other = Some s
first_of_two None other = other

-- the symbol that stands in front, the longest first, and how many bytes it has
abbrev pub symbol_of : List ℕ → Option (Symbol × ℕ)
symbol_of [] = None
symbol_of (a ∷ []) = alone a
symbol_of (a ∷ b ∷ bs) = first_of_two (long 2 (double a b)) (alone a)
