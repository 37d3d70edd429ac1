-- What names in code stand for: what is declared around them, from the innermost outward, and then what the edition sees.
-- Oracle Database PL/SQL Language Reference 19c, Name Resolution, and Predefined Exceptions; that a subprogram of the
-- edition goes last, and that a package is looked up past what else has its name, is own.
use Rattle.std.specs.Prelude.{Bool, true, false, ◌||◌, if◌then◌else◌, codes, List, [], Option, Some, None, option_map, option_and_then}
use Rattle.std.specs.Option.{is_some, option_or}
use Rattle.std.specs.Str.{bytes_eq}
use Rattle.ebr_exprtree.specs.declared.expression.Path.{Path}
use Rattle.ebr_ast.specs.declared.unit.Head.{Head}
use Rattle.ebr_ast.specs.declared.unit.PackageItem.{PackageItem}
use Rattle.ebr_ast.specs.declared.unit.UnitTree.{UnitTree}
use Rattle.ebr_ast.specs.declared.unit.UnitTree.TheVariants as unit
use Rattle.ebr_ast.specs.declared.view.EditionView.{EditionView}
use Rattle.ebr_ast.specs.declared.view.Object.{Object}
use Rattle.ebr_ast.specs.Views.{unit_named}
use Rattle.ebr_scope.specs.Meanings.{Word, Meaning, Constant, Exception, Record, Subprogram, Entry, Scope, Fields, innermost, subprogram, head_in, field}
use Rattle.ebr_scope.specs.Declarations.{item_named, item_meaning}

-- ---- what the edition sees

abbrev pub head_of : UnitTree → Option Head
head_of (unit.Subprogram s) = Some s.head
head_of tree = None

-- the head of the visible procedure or function of a name
abbrev pub visible_head : EditionView → Word → Option Head
visible_head v n = option_and_then (λ (o : Object). head_of o.tree) (unit_named n v.objects)

abbrev pub items_of : UnitTree → List PackageItem
items_of (unit.Package n items) = items
items_of tree = []

abbrev pub items_in : Option Object → List PackageItem
items_in None = []
items_in (Some o) = items_of o.tree

-- what the specification of the visible package of a name has
abbrev pub visible_items : EditionView → Word → List PackageItem
visible_items v n = items_in (unit_named n v.objects)

-- `n.m` as a member of the visible package n
unfoldable pub member : EditionView → Word → Word → Option Meaning
member v n m = option_and_then (item_meaning v) (item_named m (visible_items v n))

abbrev pub is_function : Head → Bool
is_function h = is_some h.result

abbrev pub only_function : Head → Option Meaning
only_function h = if is_function h then Some (Subprogram h) else None

abbrev pub only_procedure : Head → Option Meaning
only_procedure h = if is_function h then None else Some (Subprogram h)

-- ---- names without arguments

abbrev pub entry_meaning : Entry → Meaning
entry_meaning e = e.meaning

abbrev pub entry_fields : Option Entry → Fields
entry_fields None = None
entry_fields (Some e) = e.fields

-- what is declared, and else what the edition has
abbrev pub declared_or : Option Entry → Option Meaning → Option Meaning
declared_or e other = option_or (option_map entry_meaning e) other

abbrev pub field_meaning : Fields → Word → Option Meaning
field_meaning fs m = option_map Constant (field fs m)

abbrev pub is_record : Option Meaning → Bool
is_record (Some Record) = true
is_record m = false

-- `n.m`: a field of the record n where the innermost n is one, and else a member of the visible package n
abbrev pub member_meant : EditionView → Scope → Word → Word → Option Meaning
member_meant v scope n m =
    if is_record (option_map entry_meaning (innermost n scope)) then field_meaning (entry_fields (innermost n scope)) m else member v n m

-- A name as an operand, a target, a cursor: what is declared, and last a function that the edition sees.
unfoldable pub meant_at : EditionView → Scope → Word → Option Word → Option Meaning
meant_at v scope n None = declared_or (innermost n scope) (option_and_then only_function (visible_head v n))
meant_at v scope n (Some m) = member_meant v scope n m

abbrev pub meant : EditionView → Scope → Path → Option Meaning
meant v scope path = meant_at v scope path.name path.member

-- A name in a call statement without arguments: last a procedure that the edition sees.
unfoldable pub called_at : EditionView → Scope → Word → Option Word → Option Meaning
called_at v scope n None = declared_or (innermost n scope) (option_and_then only_procedure (visible_head v n))
called_at v scope n (Some m) = member_meant v scope n m

abbrev pub called : EditionView → Scope → Path → Option Meaning
called v scope path = called_at v scope path.name path.member

-- ---- names with arguments, which aren't built in

-- a subprogram of the enclosing package, and else of the edition; `n.m` is a member of the visible package n
unfoldable pub applied_at : EditionView → Scope → Word → Option Word → Option Head
applied_at v scope n None = option_or (subprogram n scope) (visible_head v n)
applied_at v scope n (Some m) = option_and_then head_in (member v n m)

abbrev pub applied : EditionView → Scope → Path → Option Head
applied v scope path = applied_at v scope path.name path.member

-- ---- exceptions

-- the exceptions that have a name everywhere
unfoldable pub is_predefined : Word → Bool
is_predefined n =
    bytes_eq n (codes "NO_DATA_FOUND") || bytes_eq n (codes "TOO_MANY_ROWS") || bytes_eq n (codes "ZERO_DIVIDE")
    || bytes_eq n (codes "VALUE_ERROR") || bytes_eq n (codes "DUP_VAL_ON_INDEX") || bytes_eq n (codes "INVALID_CURSOR")
    || bytes_eq n (codes "CURSOR_ALREADY_OPEN") || bytes_eq n (codes "INVALID_NUMBER")

abbrev pub predefined : Word → Option Meaning
predefined n = if is_predefined n then Some Exception else None

unfoldable pub raised_at : EditionView → Scope → Word → Option Word → Option Meaning
raised_at v scope n None = declared_or (innermost n scope) (predefined n)
raised_at v scope n (Some m) = member_meant v scope n m

-- a name behind RAISE or WHEN
abbrev pub raised : EditionView → Scope → Path → Option Meaning
raised v scope path = raised_at v scope path.name path.member
