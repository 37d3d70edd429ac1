-- What a token is to the grammar.
use Rattle.std.specs.Prelude.{◌≡◌, ℕ, Bool, true, false, ◌||◌, if◌then◌else◌, ◌==◌, List, [], ◌∷◌, map, length}
use Rattle.std.specs.Str.{bytes_eq}
use denote.Enum.Bare.{sameb}
use Rattle.ebr_base.specs.Word.{is_reserved}
use Rattle.ebr_lexer.specs.declared.symbol.Symbol.{Symbol}
use Rattle.ebr_lexer.specs.declared.symbol.Symbol.TheVariants as symbol
use Rattle.ebr_lexer.specs.declared.token.Token.{Token}
use Rattle.ebr_lexer.specs.declared.token.TokenKind.{TokenKind}
use Rattle.ebr_lexer.specs.declared.token.TokenKind.TheVariants as token
use Rattle.ebr_grammar.specs.contracts.kind.Kind.{the_type}
use Rattle.ebr_grammar.specs.declared.kind.Kind.{Kind}
use Rattle.ebr_grammar.specs.declared.kind.Kind.TheVariants as k
use Rattle.ebr_grammar.specs.declared.kind.TheConstants.{TWO, THREE, FOUR, FIVE, SIX, SEVEN, EIGHT, NINE, TEN, ELEVEN, TWELVE, FOURTEEN, TWENTY_TWO, TWENTY_THREE, NAME_KINDS}

unfoldable pub same : Kind → Kind → Bool
same = sameb the_type

-- the kind is among these
abbrev pub member : Kind → List Kind → Bool
member k [] = false
member k (x ∷ xs) = same k x || member k xs

-- the kind of a word in a table, or that of a name
abbrev pub lookup : List (List ℕ × Kind) → List ℕ → Kind
lookup [] word = k.Name
lookup (x ∷ xs) word = if bytes_eq x.0 word then x.1 else lookup xs word

-- The kind of a word in upper case: that of the grammar's word that it is, else that of a name.
unfoldable pub word_kind : List ℕ → Kind
word_kind word =
    if length word == 2 then lookup (map (λ x. (x.0.now, x.1)) TWO) word
    else if length word == 3 then lookup (map (λ x. (x.0.now, x.1)) THREE) word
    else if length word == 4 then lookup (map (λ x. (x.0.now, x.1)) FOUR) word
    else if length word == 5 then lookup (map (λ x. (x.0.now, x.1)) FIVE) word
    else if length word == 6 then lookup (map (λ x. (x.0.now, x.1)) SIX) word
    else if length word == 7 then lookup (map (λ x. (x.0.now, x.1)) SEVEN) word
    else if length word == 8 then lookup (map (λ x. (x.0.now, x.1)) EIGHT) word
    else if length word == 9 then lookup (map (λ x. (x.0.now, x.1)) NINE) word
    else if length word == 10 then lookup (map (λ x. (x.0.now, x.1)) TEN) word
    else if length word == 11 then lookup (map (λ x. (x.0.now, x.1)) ELEVEN) word
    else if length word == 12 then lookup (map (λ x. (x.0.now, x.1)) TWELVE) word
    else if length word == 14 then lookup (map (λ x. (x.0.now, x.1)) FOURTEEN) word
    else if length word == 22 then lookup (map (λ x. (x.0.now, x.1)) TWENTY_TWO) word
    else if length word == 23 then lookup (map (λ x. (x.0.now, x.1)) TWENTY_THREE) word
    else k.Name

abbrev pub symbol_kind : Symbol → Kind
symbol_kind symbol.Assign = k.Assign
symbol_kind symbol.Range = k.Range
symbol_kind symbol.NotEqual = k.NotEqual
symbol_kind symbol.AtMost = k.AtMost
symbol_kind symbol.AtLeast = k.AtLeast
symbol_kind symbol.Concat = k.Concat
symbol_kind symbol.LeftParen = k.LeftParen
symbol_kind symbol.RightParen = k.RightParen
symbol_kind symbol.Comma = k.Comma
symbol_kind symbol.Semicolon = k.Semicolon
symbol_kind symbol.Dot = k.Dot
symbol_kind symbol.Equal = k.Equal
symbol_kind symbol.Less = k.Less
symbol_kind symbol.Greater = k.Greater
symbol_kind symbol.Plus = k.Plus
symbol_kind symbol.Minus = k.Minus
symbol_kind symbol.Star = k.Star
symbol_kind symbol.Slash = k.Slash
symbol_kind symbol.Colon = k.Colon
symbol_kind symbol.Percent = k.Percent

abbrev pub what_kind : TokenKind → Kind
what_kind (token.Word word) = word_kind word
what_kind (token.Number n) = k.NumberLiteral
what_kind (token.Text content) = k.TextLiteral
what_kind (token.Symbol s) = symbol_kind s

-- The kind of a token.
unfoldable pub kind_of : Token → Kind
kind_of t = what_kind t.what

-- The kinds of words that are names as well.
unfoldable pub name_kinds : List Kind
name_kinds = NAME_KINDS

-- these kinds but those
abbrev pub without : List Kind → List Kind → List Kind
without left_out [] = []
without left_out (k ∷ kinds) = if member k left_out then without left_out kinds else k ∷ without left_out kinds

-- The kinds of names but these.
unfoldable pub names_but : List Kind → List Kind
names_but left_out = without left_out name_kinds

-- A word that is not reserved is of the kind of a name, so that no name is missed.
abbrev pub UnreservedIsName : Type 0
UnreservedIsName = (word : List ℕ) → is_reserved word ≡ false → member (word_kind word) name_kinds ≡ true
