-- What comes of going through the records that were found.
use Rattle.std.specs.Prelude.{◌≡◌, ◌⊎◌, ℕ, ◌<◌, All, List, length, take, Result, Ok, Err}
use Rattle.ebr_record.specs.declared.keep.JournalFault.{JournalFault}
use Rattle.ebr_record.specs.declared.keep.JournalFault.TheVariants as fault
use Rattle.ebr_record.specs.declared.record.Record.{Record}
use Rattle.ebr_record.specs.Payload.{HasPayload}
use Rattle.ebr_journal.specs.declared.found.Found.{Found}
use Rattle.ebr_allowed.specs.Allowed.{AreAllowed}
use Rattle.ebr_recovery.specs.declared.fault.ListFault.{ListFault}
use Rattle.ebr_recovery.specs.declared.fault.ListFault.TheVariants as list
use Rattle.ebr_recovery.specs.declared.recovery.Recovery.{Recovery}
use Rattle.ebr_recovery.specs.Recovery.{StandsAt}
use Rattle.ebr_startup.specs.declared.why.OpenWhy.{OpenWhy}
use Rattle.ebr_startup.specs.declared.why.OpenWhy.TheVariants.{DiskFault, Damaged, NoMemory}
use Rattle.ebr_startup.specs.Damage.{IsFirstUnallowed, gate_behind}

-- the record that is told is one of these
abbrev pub IsWithin : List Record → Result (Unit {0}) ListFault → Type 0
IsWithin records (Ok u) = Unit {0}
IsWithin records (Err (list.NotAllowed count)) = count < length records
IsWithin records (Err list.NoMemory) = Unit {0}

-- the same, with the place of its gate
abbrev pub Places : Found → Result (Unit {0}) ListFault → Result (Unit {0}) OpenWhy → Type 0
Places found (Ok u) done = done ≡ Ok tt
Places found (Err (list.NotAllowed count)) done = done ≡ Err (Damaged (gate_behind found.short (take count found.records)))
Places found (Err list.NoMemory) done = done ≡ Err NoMemory

-- the same of a recovery that is made for it
abbrev pub WalkedTo : ℕ → Found → Result Recovery OpenWhy → Type 0
WalkedTo sessions found (Ok recovery) = AreAllowed found.records × StandsAt sessions found.records recovery
WalkedTo sessions found (Err (Damaged at)) = IsFirstUnallowed found at
WalkedTo sessions found (Err DiskFault) = ⊥
WalkedTo sessions found (Err NoMemory) = Unit {0}

-- the records that were found, where each is allowed behind those before it
abbrev pub IsTested : Found → Result (List Record) OpenWhy → Type 0
IsTested found (Ok records) = (records ≡ found.records) × AreAllowed records × All HasPayload records
IsTested found (Err (Damaged at)) = IsFirstUnallowed found at
IsTested found (Err DiskFault) = ⊥
IsTested found (Err NoMemory) = Unit {0}

-- The smallest place of a damage behind records that were found, one of which may not be allowed.
abbrev pub Damages : Found → ℕ → OpenWhy → Type 0
Damages before place (Damaged at) = IsFirstUnallowed before at ⊎ (AreAllowed before.records × (at ≡ place))
Damages before place DiskFault = ⊥
Damages before place NoMemory = Unit {0}

-- the value, where it was done
abbrev pub IsDone : {T E : Type 0} → T → Result (Unit {0}) E → Result T E → Type 0
IsDone value done (Ok v) = (v ≡ value) × (done ≡ Ok tt)
IsDone value done (Err e) = done ≡ Err e

-- why no engine is opened over a journal that got no mark; `Stopped` and `Full` never come there
abbrev pub why_of : JournalFault → OpenWhy
why_of fault.DiskFault = DiskFault
why_of f = NoMemory
