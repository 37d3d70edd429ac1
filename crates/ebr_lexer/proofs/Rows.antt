-- The definitions, computed on texts: the tokens of one, and the first faults of two.
use Rattle.std.proofs.Common.{ℕ, ◌≡◌, refl, List, [], ◌∷◌, codes, length, Ok, Err}
use Rattle.ebr_base.specs.Word.{is_letter, is_white, is_word_byte}
use Rattle.ebr_base.specs.declared.code.Code.TheVariants.{Ebr}
use Rattle.ebr_lexer.specs.declared.token.Token.{Token}
use Rattle.ebr_lexer.specs.declared.token.TokenKind.TheVariants as kind
use Rattle.ebr_lexer.specs.declared.symbol.Symbol.TheVariants.{Assign, Range, Semicolon}
use Rattle.ebr_lexer.specs.Symbols.{single, double}
use Rattle.ebr_lexer.specs.Lexis.{Tokens, FirstFault}
use Rattle.ebr_lexer.specs.Reading.{front, read}
use Rattle.ebr_lexer.proofs.Agreement.{has}

abbrev script : List ℕ
script = codes "a1:=1..3 /*'*/ ';''';--x"

abbrev tokens : List Token
tokens = record { from = 0; to = 2; what = kind.Word (codes "A1") } ∷ record { from = 2; to = 4; what = kind.Symbol Assign } ∷ record { from = 4; to = 5; what = kind.Number 1 }
    ∷ record { from = 5; to = 7; what = kind.Symbol Range } ∷ record { from = 7; to = 8; what = kind.Number 3 }
    ∷ record { from = 15; to = 20; what = kind.Text (codes ";'") } ∷ record { from = 20; to = 21; what = kind.Symbol Semicolon } ∷ []

script_read : read (length script) 0 script ≡ Ok tokens
unfolding is_letter is_white is_word_byte single double front read
script_read = refl

pub script_row : Tokens script tokens
script_row = has script (Ok tokens) script_read

comment_read : read 6 0 (codes "a /*/ ") ≡ Err (2, Ebr 21)
unfolding is_letter is_white is_word_byte single double front read
comment_read = refl

pub comment_row : FirstFault (codes "a /*/ ") 2 (Ebr 21)
comment_row = has (codes "a /*/ ") (Err (2, Ebr 21)) comment_read

byte_read : read 4 0 (codes "a! '") ≡ Err (1, Ebr 20)
unfolding is_letter is_white is_word_byte single double front read
byte_read = refl

pub byte_row : FirstFault (codes "a! '") 1 (Ebr 20)
byte_row = has (codes "a! '") (Err (1, Ebr 20)) byte_read
