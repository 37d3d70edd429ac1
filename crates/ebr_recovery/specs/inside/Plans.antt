-- What the parts of recovery answer.
use Rattle.std.specs.Prelude.{◌≡◌, ℕ, ◌&&◌, not, Bool, true, false, is_some, find, List, Result, Ok, Err}
use Rattle.ebr_base.specs.declared.numbers.EditionNo.{EditionNo}
use Rattle.ebr_base.specs.declared.object.ObjectKey.{ObjectKey}
use Rattle.ebr_base.specs.declared.row.Change.{Change}
use Rattle.ebr_base.specs.declared.table.TableDef.{TableDef}
use Rattle.ebr_ast.specs.declared.definition.ObjectKind.{ObjectKind}
use Rattle.ebr_ast.specs.declared.definition.ObjectKind.TheVariants as kind
use Rattle.ebr_tables.specs.Tables.{has_id}
use Rattle.ebr_cross.specs.declared.record.CatalogueRecord.{CatalogueRecord}
use Rattle.ebr_cross.specs.Catalogue.{Lists, visible}
use Rattle.ebr_cross.specs.Definitions.{is_object_of}
use Rattle.ebr_cross.specs.Records.{with_record}
use Rattle.ebr_record.specs.declared.record.DroppedClass.{DroppedClass}
use Rattle.ebr_record.specs.declared.record.DroppedClass.TheVariants as dropped
use Rattle.ebr_record.specs.declared.record.Record.{Record}
use Rattle.ebr_record.specs.declared.record.Record.TheVariants as left
use Rattle.ebr_integrity.specs.Commits.{suits_table}
use Rattle.ebr_core.specs.Records.{after_record, record_of}
use Rattle.ebr_core.specs.inside.Tables.{HasNextId}
use Rattle.ebr_allowed.specs.Allowed.{allows}
use Rattle.ebr_recovery.specs.declared.fault.RecoveryFault.{RecoveryFault}
use Rattle.ebr_recovery.specs.declared.fault.RecoveryFault.TheVariants.{NotAllowed, NoMemory}
use Rattle.ebr_recovery.specs.declared.fault.ListFault.{ListFault}
use Rattle.ebr_recovery.specs.declared.fault.ListFault.TheVariants as list

-- ---- definitions

abbrev pub IsDefinition : Record → Type 0
IsDefinition (left.Commit changes) = ⊥
IsDefinition r = Unit {0}

-- Where a test passes, this is what a record changes.
abbrev pub PlansBy : Bool → CatalogueRecord → Result CatalogueRecord RecoveryFault → Type 0
PlansBy test m (Ok r) = (test ≡ true) × (r ≡ m)
PlansBy test m (Err NotAllowed) = test ≡ false
PlansBy test m (Err NoMemory) = Unit {0}

-- The record is of this, which leaves these lists.
pub record IsPlan (c after : Lists) (r : Record) (m : CatalogueRecord) : Type 0 where
  pub is : record_of m ≡ r
  pub next : HasNextId c m
  pub leaves : after ≡ with_record c m

-- so it is where a test passes
abbrev pub Plans : Bool → Lists → Lists → Record → Result CatalogueRecord RecoveryFault → Type 0
Plans test c after r (Ok m) = (test ≡ true) × IsPlan c after r m
Plans test c after r (Err NotAllowed) = test ≡ false
Plans test c after r (Err NoMemory) = Unit {0}

-- what a record behind these lists changes, where it is allowed
abbrev pub PlansRecord : Lists → Record → Result CatalogueRecord RecoveryFault → Type 0
PlansRecord c r result = Plans (allows c r) c (after_record c r) r result

-- ---- drops

-- a kind of object whose key is dropped
abbrev pub kind_dropped : DroppedClass → ObjectKind
kind_dropped dropped.Unit = kind.Procedure
kind_dropped dropped.Body = kind.PackageBody
kind_dropped dropped.Trigger = kind.Trigger
kind_dropped dropped.Package = kind.Package

-- what is dropped under a key is visible
abbrev pub may_hide_key : Lists → EditionNo → DroppedClass → ObjectKey → Bool
may_hide_key c e dropped.Unit key = is_some (visible c e key) && not (is_object_of kind.Package (visible c e key))
may_hide_key c e dropped.Body key = is_some (visible c e key)
may_hide_key c e dropped.Trigger key = is_some (visible c e key)
may_hide_key c e dropped.Package key = is_object_of kind.Package (visible c e key)

-- ---- lists

-- the fault of a list whose record at a place has this one
abbrev pub fault_at : RecoveryFault → ℕ → ListFault
fault_at NotAllowed at = list.NotAllowed at
fault_at NoMemory at = list.NoMemory

-- a value, where what was done with it was done
abbrev pub if_done : {T : Type 0} → T → Result (Unit {0}) ListFault → Result T ListFault
if_done held (Ok u) = Ok held
if_done held (Err fault) = Err fault

-- ---- commits

-- the change is of a table that lives, and what the row becomes fits the table's columns
abbrev pub suits : List TableDef → Change → Bool
suits living c = suits_table (find (has_id c.row.table) living) c.values
