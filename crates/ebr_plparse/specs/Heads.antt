-- The grammar of subprograms' heads and their parameters (Oracle Database PL/SQL Language Reference 19c, Procedure
-- Declaration and Definition, Function Declaration and Definition, Formal Parameter Declaration; which of their forms there
-- are is this server's own choice), with n a name, [x] optional and {x} repeated:
--   head = PROCEDURE n [params] | FUNCTION n [params] RETURN type
--   params = ( param {, param} )     param = n [IN | OUT | IN OUT] type
--   type = NUMBER | INTEGER | VARCHAR2 | BOOLEAN | n . n % TYPE
-- Words that are not reserved are names as well, so NUMBER, INTEGER, VARCHAR2, BOOLEAN and OUT may name a table before a dot.
-- What begins alike is written once, with what follows as a function of it.
use Rattle.std.specs.Prelude.{ℕ, List, [], ◌∷◌, Option, Some, None}
use Rattle.ebr_grammar.specs.declared.kind.Kind.{Kind}
use Rattle.ebr_grammar.specs.declared.kind.Kind.TheVariants as k
use Rattle.ebr_grammar.specs.Kinds.{names_but}
use Rattle.ebr_grammar.specs.Grammar.{token, nothing, both, many, made}
use Rattle.ebr_grammar.specs.Outcome.{named_by}
use Rattle.ebr_grammar.specs.Words.{mark, ◌▸◌, ◌◂◌, ◌∣◌, name}
use Rattle.ebr_ast.specs.declared.unit.Head.{Head}
use Rattle.ebr_ast.specs.declared.unit.Parameter.{Parameter}
use Rattle.ebr_ast.specs.declared.unit.Mode.{Mode}
use Rattle.ebr_ast.specs.declared.unit.Mode.TheVariants as mode
use Rattle.ebr_ast.specs.declared.unit.ParameterType.{ParameterType}
use Rattle.ebr_ast.specs.declared.unit.ParameterType.TheVariants as t
use Rattle.ebr_plparse.specs.Productions.{P}

-- ---- types

-- the names that begin no type but that of a table's column, and no mode
abbrev pub table_names : List Kind
table_names = names_but (k.Number ∷ k.Integer ∷ k.Varchar2 ∷ k.Boolean ∷ k.Out ∷ [])

-- `n % TYPE`, behind a table's name and the dot
unfoldable pub column_of : P (List ℕ)
column_of = both (λ column _. column) name (k.Percent ▸ mark k.TypeWord)

-- behind the table's name
unfoldable pub of_column : P (List ℕ → ParameterType)
of_column = k.Dot ▸ made (λ column table. t.OfColumn table column) column_of

-- behind a type's word, which names a table before a dot
unfoldable pub word_type : ParameterType → P (List ℕ → ParameterType)
word_type ty = k.Dot ▸ made (λ column word. t.OfColumn word column) column_of ∣ nothing (λ _. ty)

-- a type, but not of a column of the table OUT
unfoldable pub other_type : P ParameterType
other_type = both (λ word f. f word) (token (k.Number ∷ []) named_by) (word_type t.Number)
    ∣ both (λ word f. f word) (token (k.Integer ∷ []) named_by) (word_type t.Integer)
    ∣ both (λ word f. f word) (token (k.Varchar2 ∷ []) named_by) (word_type t.Varchar2)
    ∣ both (λ word f. f word) (token (k.Boolean ∷ []) named_by) (word_type t.Boolean)
    ∣ both (λ table f. f table) (token table_names named_by) of_column

unfoldable pub parameter_type : P ParameterType
parameter_type = both (λ table f. f table) (token (k.Out ∷ []) named_by) of_column ∣ other_type

-- ---- parameters

-- a mode as it is written, and a type
abbrev pub Passing : Type 0
Passing = Option Mode × ParameterType

-- Behind the word OUT: before a dot it is a table's name, and the mode is what stood before it; else it makes this mode.
unfoldable pub behind_out : Option Mode → Mode → P (List ℕ → Passing)
behind_out before with_out = k.Dot ▸ made (λ column out. (before, t.OfColumn out column)) column_of
    ∣ made (λ ty _. (Some with_out, ty)) parameter_type

-- behind IN
unfoldable pub behind_in : P Passing
behind_in = both (λ out f. f out) (token (k.Out ∷ []) named_by) (behind_out (Some mode.In) mode.InOut)
    ∣ made (λ ty. (Some mode.In, ty)) other_type

-- [IN | OUT | IN OUT] type
unfoldable pub passing : P Passing
passing = k.In ▸ behind_in
    ∣ both (λ out f. f out) (token (k.Out ∷ []) named_by) (behind_out None mode.Out)
    ∣ made (λ ty. (None, ty)) other_type

abbrev pub parameter_tree : List ℕ → Passing → Parameter
parameter_tree name passing = record { name = name; mode = passing.0; ty = passing.1 }

unfoldable pub parameter : P Parameter
parameter = both parameter_tree name passing

-- behind the first parameter
unfoldable pub more_parameters : P (Parameter → List Parameter)
more_parameters = many (λ found first. first ∷ found) (k.Comma ▸ parameter)

unfoldable pub parameters : P (List Parameter)
parameters = both (λ first f. f first) parameter more_parameters

-- behind the opening parenthesis
unfoldable pub closed_parameters : P (List Parameter)
closed_parameters = parameters ◂ k.RightParen

-- ---- heads

abbrev pub Signature : Type 0
Signature = List ℕ × List Parameter

abbrev pub head_tree : Signature → Option ParameterType → Head
head_tree signature result = record { name = signature.0; parameters = signature.1; result = result }

-- [params]
unfoldable pub maybe_parameters : P (List Parameter)
maybe_parameters = k.LeftParen ▸ closed_parameters ∣ nothing []

-- n [params]
unfoldable pub signature : P Signature
signature = both (λ name parameters. (name, parameters)) name maybe_parameters

-- behind PROCEDURE
unfoldable pub procedure_head : P Head
procedure_head = made (λ signature. head_tree signature None) signature

-- behind FUNCTION
unfoldable pub function_head : P Head
function_head = both (λ signature result. head_tree signature (Some result)) signature (k.Return ▸ parameter_type)

unfoldable pub head : P Head
head = k.Procedure ▸ procedure_head ∣ k.Function ▸ function_head

abbrev pub head_begins : List Kind
head_begins = k.Procedure ∷ k.Function ∷ []
