-- What a call does, beside what is defined.
use Rattle.std.specs.Prelude.{◌≡◌, ℕ, ◌≤◌, ◌+◌, ◌⊎◌, true, IsTrue, List, [], ◌∷◌, ◌++◌, sum_by, Option, Some, None, IfSome, Result, Ok, Err}
use Rattle.ebr_base.specs.declared.code.Code.{Code}
use Rattle.ebr_base.specs.declared.code.Stop.{Stop}
use Rattle.ebr_base.specs.declared.code.Stop.TheVariants as stop
use Rattle.ebr_faults.specs.Faults.{Rises}
use Rattle.ebr_tx.specs.Data.{Data}
use Rattle.ebr_record.specs.declared.record.Record.{Record}
use Rattle.ebr_record.specs.Keeper.{Keeper, share}
use Rattle.ebr_database.specs.declared.failure.Failure.{Failure}
use Rattle.ebr_database.specs.declared.failure.Failure.TheVariants.{Refused, Halted}
use Rattle.ebr_database.specs.declared.failure.Halt.{Halt}
use Rattle.ebr_database.specs.declared.failure.Halt.TheVariants.{DiskFault, Stopped, NoMemory}
use Rattle.ebr_database.specs.Base.{Base}
use Rattle.ebr_database.specs.Outcome.{Outcome, gives}

-- what statements stand on in the code: the data of the transactions, and the bytes that the keeper counts
abbrev pub base_of : Data → Keeper → Base
base_of d k = record { data_now = d; used = k.used }

-- ---- what becomes of the keeper

-- the kept list with more records, where it is told
abbrev pub with_records : Option (List Record) → List Record → Option (List Record)
with_records None made = None
with_records (Some records) made = Some (records ++ made)

-- these records and the first of those made
abbrev pub Between : Option (List Record) → List Record → List Record → Type 0
Between None made l = Unit {0}
Between (Some records) made l = (x y : List Record) × (l ≡ records ++ x) × (made ≡ x ++ y)

-- At every moment from the old keeper to the new one a stop leaves the old records and the first of those made; and what a stop
-- might have left before.
abbrev pub Holds : Keeper → Keeper → List Record → Type 0
Holds old new made = (t : ℕ) (l : List Record) → t ≤ old.moment → new.may_leave t l → old.may_leave t l ⊎ Between old.records made l

-- a stop now leaves the kept list and nothing else, where both are told
abbrev pub JustKept : Keeper → Type 0
JustKept k = IsTrue k.tells → IfSome k.records (λ records. (l : List Record) → k.may_leave k.moment l → l ≡ records)

-- These records were kept.
pub record Grew (old new : Keeper) (made : List Record) : Type 0 where
  pub records : new.records ≡ with_records old.records made
  pub used : new.used ≡ old.used + sum_by share made
  pub faults : old.faults ≤ new.faults
  pub stopped : new.stopped ≡ old.stopped
  pub moment : old.moment ≤ new.moment
  pub tells : new.tells ≡ old.tells
  pub holds : IsTrue old.tells → Holds old new made
  pub rest : JustKept old → JustKept new

-- the kept list, or with it the next one of the records that were left
abbrev pub OneMore : Option (List Record) → List Record → List Record → Type 0
OneMore None left l = Unit {0}
OneMore (Some records) left l = (l ≡ records) ⊎ ((r : Record) × (more : List Record) × (left ≡ r ∷ more) × (l ≡ records ++ r ∷ []))

-- why the engine gives up: the disk's count rose; the keeper had found a fault or no memory before; want of memory is free
abbrev pub Cause : Halt → Keeper → Keeper → Type 0
Cause DiskFault old new = Rises old.faults new.faults
Cause Stopped old new = old.stopped ≡ true
Cause NoMemory old new = Unit {0}

-- The engine gave up while these records were to be kept. The first of them were kept, and at each moment of the call a stop
-- leaves some of the first; a stop now leaves those that were kept, and of the others at most the next one.
pub record GaveUp (old new : Keeper) (made : List Record) (why : Halt) : Type 0 where
  pub kept : List Record
  pub left : List Record
  pub made_is : made ≡ kept ++ left
  pub records : new.records ≡ with_records old.records kept
  pub used : new.used ≡ old.used + sum_by share kept
  pub faults : old.faults ≤ new.faults
  pub moment : old.moment ≤ new.moment
  pub tells : new.tells ≡ old.tells
  pub holds : IsTrue old.tells → Holds old new made
  pub now : IsTrue old.tells → JustKept old → (l : List Record) → new.may_leave new.moment l → OneMore new.records left l
  pub cause : Cause why old new

-- ---- what a call says

-- The outcome leaves this state and has this value, and the records that it made were kept.
pub record Said {S A : Type 0} (o : Outcome S A) (s : S) (old new : Keeper) (v : A) : Type 0 where
  pub state : o.state ≡ s
  pub grew : Grew old new o.made
  pub value : o.value ≡ v

-- the same of a call that may give up
abbrev pub Tells : {S A : Type 0} → Outcome S A → S → Keeper → Keeper → Result A Halt → Type 0
Tells o s old new (Ok a) = Said o s old new a
Tells o s old new (Err why) = GaveUp old new o.made why

-- the same of a call that may be refused too
abbrev pub Shows : {S A : Type 0} → Outcome S (Result A Code) → S → Keeper → Keeper → Result A Failure → Type 0
Shows o s old new (Ok a) = Said o s old new (Ok a)
Shows o s old new (Err (Refused code)) = Said o s old new (Err code)
Shows o s old new (Err (Halted why)) = GaveUp old new o.made why

-- A call that keeps no record: whatever the records take, this is the outcome.
pub record Leaves {A : Type 0} (step : Base → Outcome Base A) (old new : Data) (a : A) : Type 0 where
  pub is : (used : ℕ) → step (record { data_now = old; used = used }) ≡ gives (record { data_now = new; used = used }) a

-- the same of a call that may be refused, or find no memory
abbrev pub LeavesOr : {A : Type 0} → (Base → Outcome Base (Result A Code)) → Data → Data → Result A Stop → Type 0
LeavesOr step old new (Ok a) = Leaves step old new (Ok a)
LeavesOr step old new (Err (stop.Raised code)) = Leaves step old new (Err code)
LeavesOr step old new (Err stop.NoMemory) = Unit {0}
