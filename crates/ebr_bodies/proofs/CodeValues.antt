-- Variables, cursors and rows: reading and writing them asks nothing.
use Rattle.std.proofs.Common.{ℕ, Option, Some, None, Result, Ok, Err}
use Rattle.std.specs.Prelude.{slice_get, slice_set}
use Rattle.ebr_base.specs.declared.code.Code.{Code}
use Rattle.ebr_base.specs.declared.value.Value.{Value}
use Rattle.ebr_base.specs.declared.value.Value.TheVariants as value
use Rattle.ebr_exprtree.specs.declared.op.Op.{Op}
use Rattle.ebr_run.specs.declared.fault.Fault.{Fault}
use Rattle.ebr_run.specs.declared.place.Location.{Location}
use Rattle.ebr_run.specs.declared.place.Location.TheVariants.{Own, Member}
use Rattle.ebr_run.specs.declared.place.VariableType.{VariableType}
use Rattle.ebr_run.specs.Cursors.{Cursor, after_fetch}
use Rattle.ebr_run.specs.Packages.{PackageState, state_of, at}
use Rattle.ebr_run.specs.State.{State, Runs, Row, Normal, ended, done}
use Rattle.ebr_run.specs.Values.{unfit, when_fit, on_value, on_some, or_null, variable, on_member, read, write, assign, cursor_at, with_cursor, moved_on, on_fault, handled_at, on_row, in_row, new_at, old_at, set_new, same_op, firing}
use Rattle.ebr_bodies.proofs.CodeStates.{Keep, Keeps, FaultsKeep}

abbrev pub ThenKeeps : (Value → Runs) → Type 0
ThenKeeps next = (v : Value) → Keeps (next v)

pub when_fit_keeps : (c : Option Code) (k : Runs) → Keeps k → Keeps (when_fit c k)
when_fit_keeps None k n σ h = n σ h
when_fit_keeps (Some c) k n σ h = h

pub on_value_keeps : (r : Result Value Code) (k : Value → Runs) → ThenKeeps k → Keeps (on_value r k)
on_value_keeps (Ok v) k n σ h = n v σ h
on_value_keeps (Err c) k n σ h = h

pub on_some_keeps : (v : Option Value) (f : Fault) (k : Value → Runs) → ThenKeeps k → Keeps (on_some v f k)
on_some_keeps (Some v) f k n σ h = n v σ h
on_some_keeps None f k n σ h = h

-- ---- variables and cursors

on_member_keeps : (s : Option PackageState) (k : PackageState → Runs) → ((s : PackageState) → Keeps (k s)) → Keeps (on_member s k)
on_member_keeps None k n σ h = h
on_member_keeps (Some s) k n σ h = n s σ h

pub read_keeps : (l : Location) (next : Value → Runs) → ThenKeeps next → Keeps (read l next)
read_keeps (Own k) next n σ h = n (variable k σ) σ h
read_keeps (Member p k) next n σ h = on_member_keeps (state_of p σ.packages) (λ s. next (at value.Null k s.members)) (λ s. n (at value.Null k s.members)) σ h

write_keep : (l : Location) (v : Value) (σ : State) → Keep σ → Keep (write l v σ)
write_keep (Own k) v σ h = h
write_keep (Member p k) v σ h = h

pub assign_keeps : (l : Location) (ty : Option VariableType) (v : Value) → Keeps (assign l ty v)
assign_keeps l ty v σ h = when_fit_keeps (unfit ty v) (λ τ. done (write l v τ)) (λ τ k. write_keep l v τ k) σ h

pub with_cursor_keep : (l : Location) (c : Cursor) (σ : State) → Keep σ → Keep (with_cursor l c σ)
with_cursor_keep (Own k) c σ h = h
with_cursor_keep (Member p k) c σ h = h

pub moved_on_keep : (l : Location) (σ : State) → Keep σ → Keep (moved_on l σ)
moved_on_keep l σ h = with_cursor_keep l (after_fetch (cursor_at l σ)) σ h

-- ---- what handlers handle

on_fault_keeps : (f : Option Fault) (k : Fault → Runs) → FaultsKeep k → Keeps (on_fault f k)
on_fault_keeps None k n σ h = h
on_fault_keeps (Some f) k n σ h = n f σ h

pub handled_at_keeps : (k : ℕ) (next : Fault → Runs) → FaultsKeep next → Keeps (handled_at k next)
handled_at_keeps k next n σ h = on_fault_keeps (slice_get σ.memory.faults k) next n σ h

-- ---- the row of a trigger's body

on_row_keeps : (r : Option Row) (k : Row → Runs) → ((r : Row) → Keeps (k r)) → Keeps (on_row r k)
on_row_keeps None k n σ h = h
on_row_keeps (Some r) k n σ h = n r σ h

in_row_keeps : (k : Row → Runs) → ((r : Row) → Keeps (k r)) → Keeps (in_row k)
in_row_keeps k n σ h = on_row_keeps σ.row k n σ h

pub new_at_keeps : (k : ℕ) (next : Value → Runs) → ThenKeeps next → Keeps (new_at k next)
new_at_keeps k next n σ h = in_row_keeps (λ r. next (or_null (slice_get r.new k))) (λ r. n (or_null (slice_get r.new k))) σ h

pub old_at_keeps : (k : ℕ) (next : Value → Runs) → ThenKeeps next → Keeps (old_at k next)
old_at_keeps k next n σ h = in_row_keeps (λ r. next (or_null (slice_get r.old k))) (λ r. n (or_null (slice_get r.old k))) σ h

pub set_new_keeps : (k : ℕ) (v : Value) → Keeps (set_new k v)
set_new_keeps k v σ h = in_row_keeps (λ r τ. ended Normal (record τ { row = Some (record r { new = slice_set r.new k v }) })) (λ r τ l. l) σ h

pub firing_keeps : (o : Op) (next : Value → Runs) → ThenKeeps next → Keeps (firing o next)
firing_keeps o next n σ h = in_row_keeps (λ r. next (value.Bool (same_op o r.op))) (λ r. n (value.Bool (same_op o r.op))) σ h
