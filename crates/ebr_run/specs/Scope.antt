-- What names stand for at a place in code, with the place of each variable and cursor.
-- Oracle Database PL/SQL Language Reference 19c, PL/SQL Identifiers: Scope and Visibility, and Name Resolution; that a
-- subprogram of the edition goes last, and that a package is looked up past what else has its name, is own.
use Rattle.std.specs.Prelude.{ℕ, suc, ◌+◌, Bool, true, false, ◌&&◌, nat_le, if◌then◌else◌, codes, List, [], ◌∷◌, ◌++◌, map, find, length, Option, Some, None, option_map, option_and_then}
use Rattle.std.specs.List.{position, filter_map}
use Rattle.std.specs.Option.{option_or, unwrap_or}
use Rattle.std.specs.Str.{bytes_eq}
use Rattle.ebr_base.specs.declared.object.Class.TheVariants as class
use Rattle.ebr_base.specs.declared.object.ObjectKey.{ObjectKey}
use Rattle.ebr_base.specs.declared.value.ColType.TheVariants as column
use Rattle.ebr_exprtree.specs.declared.expression.Path.{Path}
use Rattle.ebr_ast.specs.declared.query.Query.{Query}
use Rattle.ebr_ast.specs.declared.statement.Decl.{Decl}
use Rattle.ebr_ast.specs.declared.statement.Decl.TheVariants as decl
use Rattle.ebr_ast.specs.declared.statement.DeclaredType.{DeclaredType}
use Rattle.ebr_ast.specs.declared.statement.DeclaredType.TheVariants as declared
use Rattle.ebr_ast.specs.declared.unit.Head.{Head}
use Rattle.ebr_ast.specs.declared.unit.PackageItem.{PackageItem}
use Rattle.ebr_ast.specs.declared.unit.PackageItem.TheVariants as item
use Rattle.ebr_ast.specs.declared.unit.Parameter.{Parameter}
use Rattle.ebr_ast.specs.declared.unit.ParameterType.{ParameterType}
use Rattle.ebr_ast.specs.declared.unit.ParameterType.TheVariants as parameter
use Rattle.ebr_ast.specs.declared.unit.Subprogram as written
use Rattle.ebr_ast.specs.declared.unit.UnitTree.{UnitTree}
use Rattle.ebr_ast.specs.declared.unit.UnitTree.TheVariants as unit
use Rattle.ebr_ast.specs.declared.view.EditionView.{EditionView}
use Rattle.ebr_ast.specs.declared.view.Object.{Object}
use Rattle.ebr_ast.specs.Views.{object_of, unit_key}
use Rattle.ebr_names.specs.declared.column.ViewColumn.{ViewColumn}
use Rattle.ebr_sqlcheck.specs.declared.value_type.ValueType.{ValueType}
use Rattle.ebr_sqlcheck.specs.declared.value_type.ValueType.TheVariants as type
use Rattle.ebr_sqlcheck.specs.Types.{Known}
use Rattle.ebr_scope.specs.declared.field.Field.{Field}
use Rattle.ebr_scope.specs.Meanings as known
use Rattle.ebr_scope.specs.Meanings.{Word, Fields, is_out}
use Rattle.ebr_scope.specs.Declarations as known_type
use Rattle.ebr_scope.specs.Declarations.{column_of, decl_name, item_named, is_name}
use Rattle.ebr_scope.specs.Names.{visible_head, visible_items, is_function}
use Rattle.ebr_scope.specs.Around as checked
use Rattle.ebr_validity.specs.Rules.{is_exception_number}
use Rattle.ebr_run.specs.declared.callee.Callee.{Callee}
use Rattle.ebr_run.specs.declared.fault.Exception as declaring
use Rattle.ebr_run.specs.declared.fault.Fault.{Fault}
use Rattle.ebr_run.specs.declared.fault.Fault.TheVariants as fault
use Rattle.ebr_run.specs.declared.place.Location.{Location}
use Rattle.ebr_run.specs.declared.place.Location.TheVariants.{Own, Member}
use Rattle.ebr_run.specs.declared.place.VariableType.{VariableType}
use Rattle.ebr_run.specs.declared.place.VariableType.TheVariants.{Plain, Boolean, Unknown}
use Rattle.ebr_run.specs.declared.place.Bind.{Bind}
use Rattle.ebr_run.specs.Faults.{ora}

-- ---- types

-- the type of a column; that of one that has gone isn't known any more (own)
abbrev pub of_column : Option ViewColumn → VariableType
of_column None = Unknown
of_column (Some c) = Plain c.ty

-- a size or a number; one that is out of range stands in no valid unit
abbrev pub at_most : ℕ → ℕ → ℕ
at_most most n = if nat_le n most then n else most

abbrev pub digits : Option ℕ → ℕ
digits None = 18
digits (Some n) = at_most 18 n

abbrev pub declared_type : EditionView → DeclaredType → VariableType
declared_type v (declared.Number size) = Plain (column.Num (digits size))
declared_type v declared.Integer = Plain (column.Num 18)
declared_type v (declared.Varchar2 size) = Plain (column.Text (at_most 32767 size))
declared_type v declared.Boolean = Boolean
declared_type v (declared.OfColumn n m) = of_column (column_of v n m)

abbrev pub parameter_type : EditionView → ParameterType → VariableType
parameter_type v parameter.Number = Plain (column.Num 18)
parameter_type v parameter.Integer = Plain (column.Num 18)
parameter_type v parameter.Varchar2 = Plain (column.Text 32767)
parameter_type v parameter.Boolean = Boolean
parameter_type v (parameter.OfColumn n m) = of_column (column_of v n m)

-- a type that bounds no value
abbrev pub unbounded : ValueType → VariableType
unbounded type.Number = Plain (column.Num 18)
unbounded type.Text = Plain (column.Text 32767)
unbounded type.Boolean = Boolean

-- ---- what names stand for

-- a field of a loop's record, and the place of its variable
pub record Part : Type 0 where
  pub name : Option Word
  pub variable : ℕ
  pub ty : Known

-- a query whose binds have their sources
pub record Bound (A : Type 0) : Type 0 where
  pub tree : A
  pub binds : List Bind

pub data Denoted : Type 0 where
  Variable : Location → Option VariableType → Denoted
  -- an exception, and the package that declares it
  Exception : Option Word → Fault → Denoted
  Cursor : Location → Bound Query → Fields → Denoted
  Record : List Part → Denoted
  -- a subprogram: the unit that has it, its place there, and its head
  Subprogram : ObjectKey → ℕ → Head → Denoted

-- A declared name: what it is to the checks, and what it stands for.
pub record Named : Type 0 where
  pub entry : known.Entry
  pub denoted : Denoted

-- The declared names, the innermost first.
abbrev pub Scope : Type 0
Scope = List Named

-- ---- where code stands

pub record Env : Type 0 where
  pub view : EditionView
  pub scope : Scope
  pub unit : Option ObjectKey  -- the object in whose text the code stands; none for a block that a session runs
  pub path : List ℕ  -- the way to the code in it
  pub owner : Option Word  -- the package whose declarations these are; none inside a subprogram
  pub variables : ℕ  -- how many variables there are
  pub cursors : ℕ
  pub handlers : ℕ  -- how many handlers the code stands in
  pub result : Option VariableType  -- what the enclosing function gives
  pub columns : List ViewColumn  -- those of what the trigger is on

abbrev pub entry_of : Named → known.Entry
entry_of n = n.entry

-- what the checks know at the same place
abbrev pub to_checks : Env → checked.Env
to_checks env = record (checked.outside env.view) { scope = map entry_of env.scope; columns = env.columns }

-- the part of a tree at a place
abbrev pub part : ℕ → Env → Env
part i env = record env { path = env.path ++ i ∷ [] }

abbrev pub within_handler : Env → Env
within_handler env = record env { handlers = suc env.handlers }

-- where the next variable and the next cursor of a list of declarations are
abbrev pub location : Option Word → ℕ → Location
location None n = Own n
location (Some p) n = Member p n

abbrev pub next_variable : Env → Location
next_variable env = location env.owner env.variables

abbrev pub next_cursor : Env → Location
next_cursor env = location env.owner env.cursors

-- ---- exceptions

-- the code that EXCEPTION_INIT gives an exception among its declarations; of two the last counts
abbrev pub code_given : Word → List Decl → Option ℕ
code_given n [] = None
code_given n (decl.ExceptionInit m k ∷ ds) = option_or (code_given n ds) (if bytes_eq n m then Some k else None)
code_given n (d ∷ ds) = code_given n ds

-- a number that the rules refuse gives an exception no code (own)
abbrev pub fault_of : Option ℕ → declaring.Exception → Fault
fault_of None e = fault.User e
fault_of (Some k) e = if is_exception_number k then ora k else fault.User e

abbrev pub declared_exception : Option ObjectKey → List ℕ → Word → List Decl → Fault
declared_exception u path n ds = fault_of (code_given n ds) (record { unit = u; block = path; name = n })

-- what RAISE_APPLICATION_ERROR raises
abbrev pub application_error : ℕ → Fault
application_error k = ora (at_most 20999 k)

unfoldable pub predefined_code : Word → Option ℕ
predefined_code n =
    if bytes_eq n (codes "NO_DATA_FOUND") then Some 1403
    else if bytes_eq n (codes "TOO_MANY_ROWS") then Some 1422
    else if bytes_eq n (codes "ZERO_DIVIDE") then Some 1476
    else if bytes_eq n (codes "VALUE_ERROR") then Some 6502
    else if bytes_eq n (codes "DUP_VAL_ON_INDEX") then Some 1
    else if bytes_eq n (codes "INVALID_CURSOR") then Some 1001
    else if bytes_eq n (codes "CURSOR_ALREADY_OPEN") then Some 6511
    else if bytes_eq n (codes "INVALID_NUMBER") then Some 1722
    else None

abbrev pub code_denoted : ℕ → Denoted
code_denoted k = Exception None (ora k)

abbrev pub predefined : Word → Option Denoted
predefined n = option_map code_denoted (predefined_code n)

-- ---- subprograms

abbrev pub body_key : Word → ObjectKey
body_key p = record { class = class.Body; name = p }

abbrev pub hands_back : Parameter → Bool
hands_back p = is_out p.mode

-- the shape of a call: how many arguments it gives, and how many values it takes back
abbrev pub callee : ObjectKey → ℕ → ℕ → ℕ → Callee
callee key at arguments results = record { unit = key; place = at; arguments = arguments; results = results }

abbrev pub is_subprogram_named : Word → written.Subprogram → Bool
is_subprogram_named n s = bytes_eq n s.head.name

-- the place of a subprogram in a package's body
abbrev pub place_among : Word → List written.Subprogram → ℕ
place_among n ss = unwrap_or (position (is_subprogram_named n) ss) 0

abbrev pub subprograms_of : UnitTree → List written.Subprogram
subprograms_of (unit.PackageBody b) = b.subprograms
subprograms_of tree = []

abbrev pub subprograms_in : Option Object → List written.Subprogram
subprograms_in None = []
subprograms_in (Some o) = subprograms_of o.tree

abbrev pub visible_subprograms : EditionView → Word → List written.Subprogram
visible_subprograms v p = subprograms_in (object_of (body_key p) v.objects)

-- a subprogram of a package, as its visible body has it
abbrev pub packaged : EditionView → Word → Head → Denoted
packaged v p h = Subprogram (body_key p) (place_among h.name (visible_subprograms v p)) h

abbrev pub alone : Word → Head → Denoted
alone n h = Subprogram (unit_key n) 0 h

-- ---- members of packages

abbrev pub is_variable : Decl → Bool
is_variable (decl.Variable n c t e) = true
is_variable d = false

abbrev pub declaration_in : PackageItem → Option Decl
declaration_in (item.Decl d) = Some d
declaration_in (item.Head h) = None

-- how many variables and constants are declared before a name
abbrev pub variables_before : Word → List Decl → ℕ
variables_before n [] = 0
variables_before n (d ∷ ds) = if is_name n (decl_name d) then 0 else if is_variable d then suc (variables_before n ds) else variables_before n ds

abbrev pub member_of_decl : EditionView → Word → List Decl → Decl → Option Denoted
member_of_decl v p ds (decl.Variable n c t e) = Some (Variable (Member p (variables_before n ds)) (Some (declared_type v t)))
member_of_decl v p ds (decl.Exception n) = Some (Exception (Some p) (declared_exception (Some (unit_key p)) [] n ds))
member_of_decl v p ds d = None

abbrev pub member_of_item : EditionView → Word → List Decl → PackageItem → Option Denoted
member_of_item v p ds (item.Decl d) = member_of_decl v p ds d
member_of_item v p ds (item.Head h) = Some (packaged v p h)

-- `p.m` as a member of the visible package p
unfoldable pub member : EditionView → Word → Word → Option Denoted
member v p m = option_and_then (member_of_item v p (filter_map declaration_in (visible_items v p))) (item_named m (visible_items v p))

-- ---- names

abbrev pub denoted_of : Named → Denoted
denoted_of n = n.denoted

-- the innermost declaration of a name
abbrev pub innermost : Word → Scope → Option Denoted
innermost n scope = option_map denoted_of (find (λ (x : Named). bytes_eq n x.entry.name) scope)

abbrev pub is_part : Word → Part → Bool
is_part n p = is_name n p.name

abbrev pub part_variable : Part → Denoted
part_variable p = Variable (Own p.variable) (option_map unbounded p.ty)

-- `n.m`: a field where n is a loop's record, and else a member of the visible package n
abbrev pub member_meant : Option Denoted → EditionView → Word → Word → Option Denoted
member_meant (Some (Record ps)) v n m = option_map part_variable (find (is_part m) ps)
member_meant d v n m = member v n m

abbrev pub only_function : Word → Head → Option Denoted
only_function n h = if is_function h then Some (alone n h) else None

abbrev pub only_procedure : Word → Head → Option Denoted
only_procedure n h = if is_function h then None else Some (alone n h)

-- A name as an operand, a target or a cursor: what is declared, and last a function that the edition sees.
unfoldable pub meant_at : Env → Word → Option Word → Option Denoted
meant_at env n None = option_or (innermost n env.scope) (option_and_then (only_function n) (visible_head env.view n))
meant_at env n (Some m) = member_meant (innermost n env.scope) env.view n m

abbrev pub meant : Env → Path → Option Denoted
meant env path = meant_at env path.name path.member

-- A name in a call statement without arguments: last a procedure that the edition sees.
unfoldable pub called_at : Env → Word → Option Word → Option Denoted
called_at env n None = option_or (innermost n env.scope) (option_and_then (only_procedure n) (visible_head env.view n))
called_at env n (Some m) = member_meant (innermost n env.scope) env.view n m

abbrev pub called : Env → Path → Option Denoted
called env path = called_at env path.name path.member

abbrev pub is_subprogram : Denoted → Bool
is_subprogram (Subprogram key at h) = true
is_subprogram d = false

abbrev pub is_subprogram_of : Word → Named → Bool
is_subprogram_of n x = bytes_eq n x.entry.name && is_subprogram x.denoted

-- A name with arguments that isn't built in: a subprogram of the enclosing package, and else of the edition.
unfoldable pub applied_at : Env → Word → Option Word → Option Denoted
applied_at env n None = option_or (option_map denoted_of (find (is_subprogram_of n) env.scope)) (option_map (alone n) (visible_head env.view n))
applied_at env n (Some m) = member env.view n m

abbrev pub applied : Env → Path → Option Denoted
applied env path = applied_at env path.name path.member

-- a name behind RAISE or WHEN
unfoldable pub raised_at : Env → Word → Option Word → Option Denoted
raised_at env n None = option_or (innermost n env.scope) (predefined n)
raised_at env n (Some m) = member_meant (innermost n env.scope) env.view n m

abbrev pub raised : Env → Path → Option Denoted
raised env path = raised_at env path.name path.member

-- the place of a column of the trigger's row, and its type
abbrev pub is_column : Word → ViewColumn → Bool
is_column n c = bytes_eq n c.name

abbrev pub column_place : Env → Word → Option ℕ
column_place env n = position (is_column n) env.columns

-- ---- declared names

abbrev pub knows : Named → Env → Env
knows x env = record env { scope = x ∷ env.scope }

abbrev pub named : Word → known.Meaning → Denoted → Named
named n m d = record { entry = known.entry n m; denoted = d }

abbrev pub with_parameter : Parameter → Env → Env
with_parameter p env =
    record (knows (named p.name (known.Parameter p.mode (known_type.parameter_type env.view p.ty)) (Variable (Own env.variables) (Some (parameter_type env.view p.ty)))) env)
    { variables = suc env.variables }

-- parameters are the first variables of their subprogram
abbrev pub with_parameters : List Parameter → Env → Env
with_parameters [] env = env
with_parameters (p ∷ ps) env = with_parameters ps (with_parameter p env)

-- the heads of a specification
abbrev pub with_heads : Word → List Head → Env → Env
with_heads p [] env = env
with_heads p (h ∷ hs) env = with_heads p hs (knows (named h.name (known.Subprogram h) (packaged env.view p h)) env)

-- the subprograms of a body, the first of which has a place
abbrev pub with_subprograms : Word → ℕ → List written.Subprogram → Env → Env
with_subprograms p at [] env = env
with_subprograms p at (s ∷ ss) env =
    with_subprograms p (suc at) ss (knows (named s.head.name (known.Subprogram s.head) (Subprogram (body_key p) at s.head)) env)

-- the variable of a loop over numbers
abbrev pub with_counter : Word → Env → Env
with_counter n env =
    record (knows (named n (known.Constant (Some type.Number)) (Variable (Own env.variables) (Some (Plain (column.Num 18))))) env)
    { variables = suc env.variables }

-- the fields of a loop's record, the first of which is the variable at a place
abbrev pub parts_from : ℕ → List Field → List Part
parts_from at [] = []
parts_from at (f ∷ fs) = record { name = f.name; variable = at; ty = f.ty } ∷ parts_from (suc at) fs

abbrev pub known_fields : Fields → List Field
known_fields None = []
known_fields (Some fs) = fs

abbrev pub with_record : Word → Fields → Env → Env
with_record n fs env =
    record (knows (record { entry = known.with_fields n known.Record fs; denoted = Record (parts_from env.variables (known_fields fs)) }) env)
    { variables = length (known_fields fs) + env.variables }
