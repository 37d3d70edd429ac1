-- The grammar of types (Oracle Database SQL Language Reference 19c, Data Types; Database PL/SQL Language Reference
-- 19c, %TYPE Attribute; which of their forms there are is this server's own choice). NUMBER, INTEGER, VARCHAR2 and
-- BOOLEAN may name a table before a dot:
--   NUMBER [( k )] | INTEGER | VARCHAR2 ( k [BYTE | CHAR] ) | BOOLEAN | n . n % TYPE
use Rattle.std.specs.Prelude.{ℕ, List, [], ◌∷◌, Some, None}
use Rattle.ebr_lexer.specs.declared.token.Token.{Token}
use Rattle.ebr_grammar.specs.declared.kind.Kind.{Kind}
use Rattle.ebr_grammar.specs.declared.kind.Kind.TheVariants as k
use Rattle.ebr_grammar.specs.Kinds.{names_but}
use Rattle.ebr_grammar.specs.Forms.{Reader}
use Rattle.ebr_grammar.specs.Grammar.{token, nothing, both, made}
use Rattle.ebr_grammar.specs.Outcome.{number_of, named_by}
use Rattle.ebr_grammar.specs.Words.{mark, ◌▸◌, ◌◂◌, ◌∣◌, name}
use Rattle.ebr_ast.specs.declared.statement.DeclaredType.{DeclaredType}
use Rattle.ebr_ast.specs.declared.statement.DeclaredType.TheVariants as t
use Rattle.ebr_ddlparse.specs.Base.{P, reading, SpellsBy}

-- the names that begin no type but that of a table's column
abbrev pub table_names : List Kind
table_names = names_but (k.Number ∷ k.Integer ∷ k.Varchar2 ∷ k.Boolean ∷ [])

-- `n % TYPE`, behind a table's name and the dot
unfoldable pub column_of : P (List ℕ → DeclaredType)
column_of = both (λ column _ table. t.OfColumn table column) name (k.Percent ▸ mark k.TypeWord)

-- behind the parenthesis of NUMBER
unfoldable pub digits : P ℕ
digits = token (k.NumberLiteral ∷ []) number_of ◂ k.RightParen

-- what a length counts, which leaves nothing in the tree
unfoldable pub unit : P (Unit {0})
unit = mark k.Byte ∣ mark k.Char ∣ nothing tt

unfoldable pub closed_unit : P (Unit {0})
closed_unit = unit ◂ k.RightParen

-- behind the parenthesis of VARCHAR2
unfoldable pub size : P ℕ
size = both (λ bytes _. bytes) (token (k.NumberLiteral ∷ []) number_of) closed_unit

-- behind NUMBER
unfoldable pub number_type : P (List ℕ → DeclaredType)
number_type = k.LeftParen ▸ made (λ count _. t.Number (Some count)) digits
    ∣ k.Dot ▸ column_of
    ∣ nothing (λ _. t.Number None)

-- behind INTEGER
unfoldable pub integer_type : P (List ℕ → DeclaredType)
integer_type = k.Dot ▸ column_of ∣ nothing (λ _. t.Integer)

-- behind VARCHAR2
unfoldable pub varchar2_type : P (List ℕ → DeclaredType)
varchar2_type = k.LeftParen ▸ made (λ bytes _. t.Varchar2 bytes) size ∣ k.Dot ▸ column_of

-- behind BOOLEAN
unfoldable pub boolean_type : P (List ℕ → DeclaredType)
boolean_type = k.Dot ▸ column_of ∣ nothing (λ _. t.Boolean)

-- behind another name
unfoldable pub of_column : P (List ℕ → DeclaredType)
of_column = k.Dot ▸ column_of

unfoldable pub declared_type : P DeclaredType
declared_type = both (λ word f. f word) (token (k.Number ∷ []) named_by) number_type
    ∣ both (λ word f. f word) (token (k.Integer ∷ []) named_by) integer_type
    ∣ both (λ word f. f word) (token (k.Varchar2 ∷ []) named_by) varchar2_type
    ∣ both (λ word f. f word) (token (k.Boolean ∷ []) named_by) boolean_type
    ∣ both (λ table f. f table) (token table_names named_by) of_column

-- The tokens spell the type.
abbrev pub SpellsType : List Token → DeclaredType → Type 0
SpellsType = SpellsBy declared_type

-- The reading of a type.
unfoldable pub type_reader : Reader DeclaredType
type_reader ts = reading declared_type ts

-- with what a type may go on
unfoldable pub type_goes_on : List Kind
type_goes_on = k.LeftParen ∷ k.Dot ∷ []
