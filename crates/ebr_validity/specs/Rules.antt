-- The twelve rules. Each is a test of the places that it speaks of; all other places pass it.
-- Oracle Database PL/SQL Language Reference 19c; what differs from it is own.
use Rattle.std.specs.Prelude.{ℕ, Bool, true, false, ◌&&◌, ◌||◌, not, if◌then◌else◌, nat_eq, nat_le, List, [], ◌∷◌, length, filter_map, flat_map, Option, Some, None, Ok, Err}
use Rattle.std.specs.List.{list_all, list_any}
use Rattle.std.specs.Option.{is_some}
use Rattle.std.specs.Str.{bytes_eq}
use Rattle.ebr_exprtree.specs.declared.expression.Path.{Path}
use Rattle.ebr_ast.specs.declared.statement.Caught.{Caught}
use Rattle.ebr_ast.specs.declared.statement.Caught.TheVariants as caught
use Rattle.ebr_ast.specs.declared.statement.Decl.{Decl}
use Rattle.ebr_ast.specs.declared.statement.Decl.TheVariants as decl
use Rattle.ebr_ast.specs.declared.unit.Head.{Head}
use Rattle.ebr_ast.specs.declared.unit.Mode.{Mode}
use Rattle.ebr_ast.specs.declared.unit.Mode.TheVariants as mode
use Rattle.ebr_ast.specs.declared.unit.PackageItem.{PackageItem}
use Rattle.ebr_ast.specs.declared.unit.PackageItem.TheVariants as item
use Rattle.ebr_ast.specs.declared.unit.Parameter.{Parameter}
use Rattle.ebr_ast.specs.declared.unit.ParameterType.{ParameterType}
use Rattle.ebr_ast.specs.declared.unit.ParameterType.TheVariants as parameter
use Rattle.ebr_ast.specs.declared.unit.UnitTree.{UnitTree}
use Rattle.ebr_ast.specs.declared.unit.UnitTree.TheVariants as unit
use Rattle.ebr_names.specs.Headers.{head_in}
use Rattle.ebr_sqlcheck.specs.declared.relation.Meant.{Meant}
use Rattle.ebr_sqlcheck.specs.declared.relation.Meant.TheVariants as of_sources
use Rattle.ebr_sqlcheck.specs.Types.{Known, alike, is_plain}
use Rattle.ebr_sqlcheck.specs.Checked.{Checked}
use Rattle.ebr_sqlcheck.specs.Functions.{takes_count}
use Rattle.ebr_sqlcheck.specs.Operands.{adds, compares}
use Rattle.ebr_scope.specs.declared.field.Field.{Field}
use Rattle.ebr_scope.specs.Meanings.{Word, Meaning, Variable, Constant, Parameter as Passed, Exception, Cursor, Subprogram, Fields, is_out, is_target}
use Rattle.ebr_scope.specs.Names.{is_function}
use Rattle.ebr_validity.specs.Sites.{Site, Operand, Applies, Calls, Raises, Cursors, Asks, Assigns, Fits, Builtins, Adds, Compares, Prints, RaisesNumber, Passes, SetsNew, Unset, Gives, Leaves, Reraises, Handles, Counts, Loops, Named, Computed, OnlyInCode, Sql, Declares, Sized, OfColumn, Pragmas, Specifies, Implements, OnRows, Images, Fires, Placed}
use Rattle.ebr_validity.specs.Expressions.{is_after}

-- ---- 1: a name in code is found, and is of the kind that stands there

-- a variable, constant, parameter, loop variable, field of a record, or function
abbrev pub is_operand : Option Meaning → Bool
is_operand (Some (Variable t)) = true
is_operand (Some (Constant t)) = true
is_operand (Some (Passed m t)) = true
is_operand (Some (Subprogram h)) = is_function h
is_operand m = false

abbrev pub is_applied : Option Head → Bool
is_applied None = false
is_applied (Some h) = is_function h

abbrev pub is_procedure : Option Meaning → Bool
is_procedure (Some (Subprogram h)) = not (is_function h)
is_procedure m = false

abbrev pub is_exception : Option Meaning → Bool
is_exception (Some Exception) = true
is_exception m = false

abbrev pub is_cursor : Option Meaning → Bool
is_cursor (Some Cursor) = true
is_cursor m = false

abbrev pub names_are_found : Site → Bool
names_are_found (Operand m) = is_operand m
names_are_found (Applies h k) = is_applied h
names_are_found (Calls m k) = is_procedure m
names_are_found (Raises m) = is_exception m
names_are_found (Cursors m) = is_some m
names_are_found (Asks m) = is_cursor m
names_are_found (Assigns m) = is_some m
names_are_found s = true

-- ---- 2: a name in a SQL statement is a column, or else a variable; what code alone has doesn't stand there

abbrev pub is_column_or_variable : Meant → Option Known → Bool
is_column_or_variable of_sources.Nothing t = is_some t
is_column_or_variable (of_sources.Column c) t = true
is_column_or_variable of_sources.Several t = true

abbrev pub names_in_sql_are_found : Site → Bool
names_in_sql_are_found (Named m t) = is_column_or_variable m t
names_in_sql_are_found (Computed f) = is_some f
names_in_sql_are_found OnlyInCode = false
names_in_sql_are_found s = true

-- ---- 3: a SQL statement passes its checks, with binds of their declared types

abbrev pub is_right : Checked → Bool
is_right (Ok done) = true
is_right (Err code) = false

abbrev pub sql_is_right : Site → Bool
sql_is_right (Sql found) = is_right found
sql_is_right s = true

-- ---- 4: operands and arguments have their types, and the number of arguments is that of the parameters

abbrev pub takes : Option Head → ℕ → Bool
takes None k = true
takes (Some h) k = nat_eq (length h.parameters) k

abbrev pub takes_as : Option Meaning → ℕ → Bool
takes_as (Some (Subprogram h)) k = nat_eq (length h.parameters) k
takes_as m k = true

abbrev pub types_fit : Site → Bool
types_fit (Operand m) = takes_as m 0
types_fit (Applies h k) = takes h k
types_fit (Calls m k) = takes_as m k
types_fit (Builtins f k) = takes_count f k
types_fit (Fits t u) = alike t u
types_fit (Adds o t) = adds o t
types_fit (Compares c t u) = compares c t && compares c u && alike t u
types_fit (Prints t) = is_plain t
types_fit (RaisesNumber k) = nat_le 20000 k && nat_le k 20999
types_fit s = true

-- ---- 5: a name is declared once in one scope; a size is one that there is; `n.m%TYPE` names a column

abbrev pub are_distinct : List Word → Bool
are_distinct [] = true
are_distinct (n ∷ ns) = not (list_any (bytes_eq n) ns) && are_distinct ns

abbrev pub declarations_stand : Site → Bool
declarations_stand (Declares ns) = are_distinct ns
declarations_stand (Sized size greatest) = nat_le 1 size && nat_le size greatest
declarations_stand (OfColumn c) = is_some c
declarations_stand s = true

-- ---- 6: what takes a value may take one; a constant has a value

-- a name that isn't found is another rule's
abbrev pub may_be_assigned : Option Meaning → Bool
may_be_assigned None = true
may_be_assigned (Some m) = is_target (Some m)

abbrev pub targets_take_values : Site → Bool
targets_take_values (Assigns m) = may_be_assigned m
targets_take_values (Passes out target) = not out || target
targets_take_values (SetsNew t) = not (is_after t)
targets_take_values (Unset constant) = not constant
targets_take_values s = true

-- ---- 7: a function in an expression has IN parameters alone; RETURN has a value exactly in functions

abbrev pub takes_in : Parameter → Bool
takes_in p = not (is_out p.mode)

abbrev pub only_in : Option Head → Bool
only_in None = true
only_in (Some h) = list_all takes_in h.parameters

abbrev pub only_in_as : Option Meaning → Bool
only_in_as (Some (Subprogram h)) = list_all takes_in h.parameters
only_in_as m = true

abbrev pub is_same : Bool → Bool → Bool
is_same true b = b
is_same false b = not b

abbrev pub functions_give_values : Site → Bool
functions_give_values (Operand m) = only_in_as m
functions_give_values (Applies h k) = only_in h
functions_give_values (Gives value in_function) = is_same value in_function
functions_give_values s = true

-- ---- 8: EXIT and CONTINUE stand in a loop, RAISE without a name in a handler; OTHERS is the last handler; no exception is
-- ---- named twice in one block

abbrev pub is_others : Caught → Bool
is_others caught.Others = true
is_others (caught.Named paths) = false

abbrev pub others_is_last : List Caught → Bool
others_is_last [] = true
others_is_last (c ∷ []) = true
others_is_last (c ∷ d ∷ cs) = not (is_others c) && others_is_last (d ∷ cs)

abbrev pub same_member : Option Word → Option Word → Bool
same_member None None = true
same_member (Some n) (Some m) = bytes_eq n m
same_member n m = false

abbrev pub same_path : Path → Path → Bool
same_path p q = bytes_eq p.name q.name && same_member p.member q.member

abbrev pub caught_paths : Caught → List Path
caught_paths caught.Others = []
caught_paths (caught.Named paths) = paths

abbrev pub are_distinct_paths : List Path → Bool
are_distinct_paths [] = true
are_distinct_paths (p ∷ ps) = not (list_any (same_path p) ps) && are_distinct_paths ps

abbrev pub handlers_stand : List Caught → Bool
handlers_stand cs = others_is_last cs && are_distinct_paths (flat_map caught_paths cs)

abbrev pub statements_stand : Site → Bool
statements_stand (Leaves in_loop) = in_loop
statements_stand (Reraises in_handler) = in_handler
statements_stand (Handles cs) = handlers_stand cs
statements_stand s = true

-- ---- 9: as many targets as columns; a cursor is one; a record's fields have different names

abbrev pub are_as_many : Fields → ℕ → Bool
are_as_many None k = true
are_as_many (Some fs) k = nat_eq (length fs) k

abbrev pub field_name : Field → Option Word
field_name f = f.name

abbrev pub fields_differ : Fields → Bool
fields_differ None = true
fields_differ (Some fs) = are_distinct (filter_map field_name fs)

-- a name that isn't found is another rule's
abbrev pub cursor_if_found : Option Meaning → Bool
cursor_if_found None = true
cursor_if_found (Some m) = is_cursor (Some m)

abbrev pub rows_are_taken : Site → Bool
rows_are_taken (Counts fs k) = are_as_many fs k
rows_are_taken (Cursors m) = cursor_if_found m
rows_are_taken (Loops fs) = fields_differ fs
rows_are_taken s = true

-- ---- 10: AUTONOMOUS_TRANSACTION stands once at most, and in outermost declarations; EXCEPTION_INIT names an exception of the
-- ---- same declarations, and a number that there is

abbrev pub is_autonomous : Decl → Bool
is_autonomous decl.Autonomous = true
is_autonomous d = false

abbrev pub has_autonomous : List Decl → Bool
has_autonomous ds = list_any is_autonomous ds

-- whether it stands so often as it may: once at most, and not at all where it may not stand
abbrev pub autonomous_stands : Bool → List Decl → Bool
autonomous_stands outermost [] = true
autonomous_stands outermost (d ∷ ds) =
    if is_autonomous d then outermost && not (has_autonomous ds) else autonomous_stands outermost ds

abbrev pub is_exception_named : Word → Decl → Bool
is_exception_named n (decl.Exception m) = bytes_eq n m
is_exception_named n d = false

abbrev pub is_exception_number : ℕ → Bool
is_exception_number k = nat_le 1 k && nat_le k 20999 && not (nat_eq k 1403)

-- a pragma among these declarations
abbrev pub init_stands : List Decl → Decl → Bool
init_stands ds (decl.ExceptionInit n k) = is_exception_number k && list_any (is_exception_named n) ds
init_stands ds d = true

abbrev pub pragmas_stand : Site → Bool
pragmas_stand (Pragmas outermost ds) = autonomous_stands outermost ds && list_all (init_stands ds) ds
pragmas_stand s = true

-- ---- 11: a specification has no cursor; a body has a visible specification, and each of its subprograms with an equal head

abbrev pub is_no_cursor : PackageItem → Bool
is_no_cursor (item.Decl (decl.Cursor n q)) = false
is_no_cursor i = true

abbrev pub same_mode : Option Mode → Option Mode → Bool
same_mode None None = true
same_mode (Some mode.In) (Some mode.In) = true
same_mode (Some mode.Out) (Some mode.Out) = true
same_mode (Some mode.InOut) (Some mode.InOut) = true
same_mode m n = false

abbrev pub same_parameter_type : ParameterType → ParameterType → Bool
same_parameter_type parameter.Number parameter.Number = true
same_parameter_type parameter.Integer parameter.Integer = true
same_parameter_type parameter.Varchar2 parameter.Varchar2 = true
same_parameter_type parameter.Boolean parameter.Boolean = true
same_parameter_type (parameter.OfColumn n m) (parameter.OfColumn n' m') = bytes_eq n n' && bytes_eq m m'
same_parameter_type t u = false

-- word for word: a mode that is left out isn't IN, and INTEGER isn't NUMBER
abbrev pub same_parameter : Parameter → Parameter → Bool
same_parameter p q = bytes_eq p.name q.name && same_mode p.mode q.mode && same_parameter_type p.ty q.ty

abbrev pub same_parameters : List Parameter → List Parameter → Bool
same_parameters [] [] = true
same_parameters (p ∷ ps) (q ∷ qs) = same_parameter p q && same_parameters ps qs
same_parameters ps qs = false

abbrev pub same_result : Option ParameterType → Option ParameterType → Bool
same_result None None = true
same_result (Some t) (Some u) = same_parameter_type t u
same_result t u = false

abbrev pub same_head : Head → Head → Bool
same_head h g = bytes_eq h.name g.name && same_parameters h.parameters g.parameters && same_result h.result g.result

abbrev pub is_defined : List Head → Head → Bool
is_defined heads h = list_any (same_head h) heads

abbrev pub implements : Option UnitTree → List Head → Bool
implements (Some (unit.Package n items)) heads = list_all (is_defined heads) (filter_map head_in items)
implements tree heads = false

abbrev pub packages_agree : Site → Bool
packages_agree (Specifies items) = list_all is_no_cursor items
packages_agree (Implements tree heads) = implements tree heads
packages_agree s = true

-- ---- 12: what triggers alone have stands in triggers; what a trigger is on is there, and the columns that it names; a place of
-- ---- a row and a bind at a place stand nowhere

abbrev pub triggers_stand : Site → Bool
triggers_stand (OnRows there) = there
triggers_stand (Images t c) = is_some t && is_some c
triggers_stand (Fires t) = is_some t
triggers_stand Placed = false
triggers_stand s = true

-- ---- the rules

abbrev pub Rule : Type 0
Rule = ℕ × (Site → Bool)

-- the rules by their numbers, in ascending order
abbrev pub rules : List Rule
rules =
    (1, names_are_found) ∷ (2, names_in_sql_are_found) ∷ (3, sql_is_right) ∷ (4, types_fit) ∷ (5, declarations_stand)
    ∷ (6, targets_take_values) ∷ (7, functions_give_values) ∷ (8, statements_stand) ∷ (9, rows_are_taken) ∷ (10, pragmas_stand)
    ∷ (11, packages_agree) ∷ (12, triggers_stand) ∷ []

-- a rule holds where each place passes it
abbrev pub holds : Rule → List Site → Bool
holds r sites = list_all r.1 sites

-- the first rule that doesn't hold
abbrev pub first_broken : List Rule → List Site → Option ℕ
first_broken [] sites = None
first_broken (r ∷ rs) sites = if holds r sites then first_broken rs sites else Some r.0
