-- What variables and cursors hold, and what they take.
-- Oracle Database PL/SQL Language Reference 19c, Assigning Values to Variables, and SQL%ROWCOUNT Attribute.
use Rattle.std.specs.Prelude.{ℕ, pos, nat_lt, Bool, true, false, not, slice_get, slice_set, Option, Some, None, Ok, Err}
use Rattle.ebr_base.specs.declared.code.Code.{Code}
use Rattle.ebr_base.specs.declared.code.Code.TheVariants.{Ora}
use Rattle.ebr_base.specs.declared.value.Value.{Value}
use Rattle.ebr_base.specs.declared.value.Value.TheVariants as value
use Rattle.ebr_exprtree.specs.declared.expression.Attribute.{Attribute}
use Rattle.ebr_exprtree.specs.declared.expression.Attribute.TheVariants as attribute
use Rattle.ebr_exprtree.specs.declared.op.Op.{Op}
use Rattle.ebr_exprtree.specs.declared.op.Op.TheVariants as op
use Rattle.ebr_value.specs.declared.form.Place.TheVariants.{Code as InCode}
use Rattle.ebr_value.specs.Outcomes.{Outcome as Computed}
use Rattle.ebr_value.specs.Forms.{fits}
use Rattle.ebr_sqlcheck.specs.declared.value_type.ValueType.TheVariants as type
use Rattle.ebr_sqlcheck.specs.Types.{Known, type_of_column}
use Rattle.ebr_run.specs.declared.fault.Fault.{Fault}
use Rattle.ebr_run.specs.declared.fault.Fault.TheVariants as fault
use Rattle.ebr_run.specs.declared.place.Location.{Location}
use Rattle.ebr_run.specs.declared.place.Location.TheVariants.{Own, Member}
use Rattle.ebr_run.specs.declared.place.VariableType.{VariableType}
use Rattle.ebr_run.specs.declared.place.VariableType.TheVariants.{Plain, Boolean, Unknown}
use Rattle.ebr_run.specs.Faults.{sqlcode}
use Rattle.ebr_run.specs.Cursors.{Cursor, Closed, after_fetch}
use Rattle.ebr_run.specs.Packages.{PackageState, state_of, change, put, at}
use Rattle.ebr_run.specs.State.{State, Runs, Row, Normal, ended, broken, raises, done}

-- ---- types

abbrev pub fits_boolean : Value → Option Code
fits_boolean value.Null = None
fits_boolean (value.Bool b) = None
fits_boolean v = Some (Ora 932)

-- the code that the assignment of a value to a variable raises; one whose type isn't known takes every value
abbrev pub unfit : Option VariableType → Value → Option Code
unfit None v = None
unfit (Some (Plain ty)) v = fits v ty InCode
unfit (Some Boolean) v = fits_boolean v
unfit (Some Unknown) v = None

-- the type of a variable's values
abbrev pub known_of : Option VariableType → Known
known_of None = None
known_of (Some (Plain ty)) = Some (type_of_column ty)
known_of (Some Boolean) = Some type.Boolean
known_of (Some Unknown) = None

abbrev pub when_fit : Option Code → Runs → Runs
when_fit None k σ = k σ
when_fit (Some c) k σ = raises (fault.Code c) σ

-- ---- computed values

-- what is done with a computed value, unless it raised a code
abbrev pub on_value : Computed → (Value → Runs) → Runs
on_value (Ok v) k σ = k v σ
on_value (Err c) k σ = raises (fault.Code c) σ

abbrev pub on_some : Option Value → Fault → (Value → Runs) → Runs
on_some (Some v) f k σ = k v σ
on_some None f k σ = raises f σ

abbrev pub is_true : Value → Bool
is_true (value.Bool b) = b
is_true v = false

-- ---- variables and cursors

abbrev pub or_null : Option Value → Value
or_null None = value.Null
or_null (Some v) = v

abbrev pub variable : ℕ → State → Value
variable k σ = at value.Null k σ.memory.variables

abbrev pub with_variable : ℕ → Value → State → State
with_variable k v σ = record σ { memory = record σ.memory { variables = put value.Null k v σ.memory.variables } }

abbrev pub on_member : Option PackageState → (PackageState → Runs) → Runs
on_member None k σ = broken σ
on_member (Some s) k σ = k s σ

-- the value of a variable; that of a package is there when the package was referred to
abbrev pub read : Location → (Value → Runs) → Runs
read (Own k) next σ = next (variable k σ) σ
read (Member p k) next σ = on_member (state_of p σ.packages) (λ s. next (at value.Null k s.members)) σ

abbrev pub set_member : ℕ → Value → PackageState → PackageState
set_member k v s = record s { members = put value.Null k v s.members }

abbrev pub write : Location → Value → State → State
write (Own k) v σ = with_variable k v σ
write (Member p k) v σ = record σ { packages = change p (set_member k v) σ.packages }

-- an assignment: ORA-06502 where the value is too large
abbrev pub assign : Location → Option VariableType → Value → Runs
assign l ty v σ = when_fit (unfit ty v) (λ τ. done (write l v τ)) σ

abbrev pub cursor_in : Option PackageState → ℕ → Cursor
cursor_in None k = Closed
cursor_in (Some s) k = at Closed k s.cursors

abbrev pub cursor_at : Location → State → Cursor
cursor_at (Own k) σ = at Closed k σ.memory.cursors
cursor_at (Member p k) σ = cursor_in (state_of p σ.packages) k

abbrev pub set_cursor_member : ℕ → Cursor → PackageState → PackageState
set_cursor_member k c s = record s { cursors = put Closed k c s.cursors }

abbrev pub with_cursor : Location → Cursor → State → State
with_cursor (Own k) c σ = record σ { memory = record σ.memory { cursors = put Closed k c σ.memory.cursors } }
with_cursor (Member p k) c σ = record σ { packages = change p (set_cursor_member k c) σ.packages }

-- behind a fetch
abbrev pub moved_on : Location → State → State
moved_on l σ = with_cursor l (after_fetch (cursor_at l σ)) σ

-- ---- what handlers handle

abbrev pub with_fault : ℕ → Fault → State → State
with_fault k f σ = record σ { memory = record σ.memory { faults = put f k f σ.memory.faults } }

abbrev pub on_fault : Option Fault → (Fault → Runs) → Runs
on_fault None k σ = broken σ
on_fault (Some f) k σ = k f σ

-- the fault that a handler handles
abbrev pub handled_at : ℕ → (Fault → Runs) → Runs
handled_at k next σ = on_fault (slice_get σ.memory.faults k) next σ

abbrev pub number_of : Fault → Value
number_of f = value.Num (sqlcode f)

-- ---- the row of a trigger's body

abbrev pub on_row : Option Row → (Row → Runs) → Runs
on_row None k σ = broken σ
on_row (Some r) k σ = k r σ

abbrev pub in_row : (Row → Runs) → Runs
in_row k σ = on_row σ.row k σ

abbrev pub new_at : ℕ → (Value → Runs) → Runs
new_at k next σ = in_row (λ r. next (or_null (slice_get r.new k))) σ

abbrev pub old_at : ℕ → (Value → Runs) → Runs
old_at k next σ = in_row (λ r. next (or_null (slice_get r.old k))) σ

-- `:NEW.c := v`
abbrev pub set_new : ℕ → Value → Runs
set_new k v σ = in_row (λ r τ. ended Normal (record τ { row = Some (record r { new = slice_set r.new k v }) })) σ

abbrev pub same_op : Op → Op → Bool
same_op op.Insert op.Insert = true
same_op op.Update op.Update = true
same_op op.Delete op.Delete = true
same_op a b = false

-- INSERTING, UPDATING and DELETING
abbrev pub firing : Op → (Value → Runs) → Runs
firing o next σ = in_row (λ r. next (value.Bool (same_op o r.op))) σ

-- ---- `SQL%`

abbrev pub is_above_zero : ℕ → Bool
is_above_zero n = nat_lt 0 n

abbrev pub affected_attribute : Attribute → Option ℕ → Value
affected_attribute a None = value.Null
affected_attribute attribute.RowCount (Some n) = value.Num (pos n)
affected_attribute attribute.Found (Some n) = value.Bool (is_above_zero n)
affected_attribute attribute.NotFound (Some n) = value.Bool (not (is_above_zero n))
affected_attribute attribute.IsOpen (Some n) = value.Bool false

abbrev pub affecting : ℕ → State → State
affecting n σ = record σ { affected = Some n }
