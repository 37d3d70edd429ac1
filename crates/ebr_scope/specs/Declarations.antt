-- The types of declarations, and what they make known.
-- Oracle Database PL/SQL Language Reference 19c, Declarations, and PL/SQL Data Types; sizes and `%TYPE` of columns alone are
-- own.
use Rattle.std.specs.Prelude.{Bool, true, false, List, [], ◌∷◌, find, Option, Some, None, Result, Ok, Err}
use Rattle.std.specs.Str.{bytes_eq}
use Rattle.ebr_base.specs.declared.code.Code.{Code}
use Rattle.ebr_ast.specs.declared.statement.Decl.{Decl}
use Rattle.ebr_ast.specs.declared.statement.Decl.TheVariants as decl
use Rattle.ebr_ast.specs.declared.statement.DeclaredType.{DeclaredType}
use Rattle.ebr_ast.specs.declared.statement.DeclaredType.TheVariants as declared
use Rattle.ebr_ast.specs.declared.unit.Head.{Head}
use Rattle.ebr_ast.specs.declared.unit.PackageItem.{PackageItem}
use Rattle.ebr_ast.specs.declared.unit.PackageItem.TheVariants as item
use Rattle.ebr_ast.specs.declared.unit.Parameter.{Parameter}
use Rattle.ebr_ast.specs.declared.unit.ParameterType.{ParameterType}
use Rattle.ebr_ast.specs.declared.unit.ParameterType.TheVariants as parameter
use Rattle.ebr_ast.specs.declared.view.EditionView.{EditionView}
use Rattle.ebr_names.specs.declared.column.ViewColumn.{ViewColumn}
use Rattle.ebr_names.specs.Columns.{columns_named, column_named}
use Rattle.ebr_sqlcheck.specs.declared.value_type.ValueType.TheVariants as type
use Rattle.ebr_sqlcheck.specs.Types.{Known}
use Rattle.ebr_sqlcheck.specs.Targets.{column_type}
use Rattle.ebr_scope.specs.Meanings.{Word, Meaning, Variable, Constant, Exception, Cursor, Subprogram, entry, Parameter as Passed, Scope}

-- ---- types

abbrev pub column_among : Result (List ViewColumn) Code → Word → Option ViewColumn
column_among (Ok columns) m = column_named m columns
column_among (Err code) m = None

-- the column m of the editioning view or table n
abbrev pub column_of : EditionView → Word → Word → Option ViewColumn
column_of v n m = column_among (columns_named v n) m

unfoldable pub column_type_of : EditionView → Word → Word → Known
column_type_of v n m = column_type (column_of v n m)

abbrev pub declared_type : EditionView → DeclaredType → Known
declared_type v (declared.Number size) = Some type.Number
declared_type v declared.Integer = Some type.Number
declared_type v (declared.Varchar2 size) = Some type.Text
declared_type v declared.Boolean = Some type.Boolean
declared_type v (declared.OfColumn n m) = column_type_of v n m

abbrev pub parameter_type : EditionView → ParameterType → Known
parameter_type v parameter.Number = Some type.Number
parameter_type v parameter.Integer = Some type.Number
parameter_type v parameter.Varchar2 = Some type.Text
parameter_type v parameter.Boolean = Some type.Boolean
parameter_type v (parameter.OfColumn n m) = column_type_of v n m

-- what a function gives
abbrev pub result_type : EditionView → Option ParameterType → Known
result_type v None = None
result_type v (Some t) = parameter_type v t

-- ---- the names that are declared

-- a pragma declares no name
abbrev pub decl_name : Decl → Option Word
decl_name (decl.Variable n c t e) = Some n
decl_name (decl.Exception n) = Some n
decl_name (decl.Cursor n q) = Some n
decl_name (decl.ExceptionInit n k) = None
decl_name decl.Autonomous = None

abbrev pub item_name : PackageItem → Option Word
item_name (item.Decl d) = decl_name d
item_name (item.Head h) = Some h.name

abbrev pub variable : Bool → Known → Meaning
variable true t = Constant t
variable false t = Variable t

abbrev pub decl_meaning : EditionView → Decl → Option Meaning
decl_meaning v (decl.Variable n c t e) = Some (variable c (declared_type v t))
decl_meaning v (decl.Exception n) = Some Exception
decl_meaning v (decl.Cursor n q) = Some Cursor
decl_meaning v (decl.ExceptionInit n k) = None
decl_meaning v decl.Autonomous = None

abbrev pub item_meaning : EditionView → PackageItem → Option Meaning
item_meaning v (item.Decl d) = decl_meaning v d
item_meaning v (item.Head h) = Some (Subprogram h)

abbrev pub is_name : Word → Option Word → Bool
is_name n None = false
is_name n (Some m) = bytes_eq n m

-- the item of a specification that declares a name
abbrev pub item_named : Word → List PackageItem → Option PackageItem
item_named n items = find (λ (i : PackageItem). is_name n (item_name i)) items

-- parameters, each inside those before it
abbrev pub with_parameters : EditionView → List Parameter → Scope → Scope
with_parameters v [] scope = scope
with_parameters v (p ∷ ps) scope = with_parameters v ps (entry p.name (Passed p.mode (parameter_type v p.ty)) ∷ scope)

-- subprograms, each inside those before it
abbrev pub with_heads : List Head → Scope → Scope
with_heads [] scope = scope
with_heads (h ∷ hs) scope = with_heads hs (entry h.name (Subprogram h) ∷ scope)
