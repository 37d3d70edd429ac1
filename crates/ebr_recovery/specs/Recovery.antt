-- What records leave, one after the other.
use Rattle.std.specs.Prelude.{◌≡◌, ℕ, zero, suc, ◌+◌, ◌≤◌, List, [], ◌∷◌, ◌++◌, length, Result, Ok, Err}
use Rattle.ebr_record.specs.declared.record.Record.{Record}
use Rattle.ebr_record.specs.declared.record.Record.TheVariants as left
use Rattle.ebr_record.specs.Payload.{max_payload}
use Rattle.ebr_core.specs.Engine.{EngineState, no_books}
use Rattle.ebr_core.specs.Recovered.{AreRecovered}
use Rattle.ebr_allowed.specs.Allowed.{Allowed, AllowedBehind, AreAllowed}
use Rattle.ebr_recovery.specs.declared.fault.RecoveryFault.{RecoveryFault}
use Rattle.ebr_recovery.specs.declared.fault.RecoveryFault.TheVariants.{NotAllowed, NoMemory}
use Rattle.ebr_recovery.specs.declared.fault.ListFault.{ListFault}
use Rattle.ebr_recovery.specs.declared.fault.ListFault.TheVariants as list
use Rattle.ebr_recovery.specs.declared.begin.Unbegun.{Unbegun}
use Rattle.ebr_recovery.specs.declared.recovery.Recovery.{Recovery}

-- The catalogue and the data are those of these records, with so many sessions.
abbrev pub StandsAt : ℕ → List Record → Recovery → Type 0
StandsAt sessions records now = AreRecovered records sessions now.catalogue now.transactions.contents

-- There are such records.
pub record IsRecovery (now : Recovery) : Type 0 where
  pub sessions : ℕ
  pub records : List Record
  pub stands : StandsAt sessions records now

-- This is so of whichever records it stands at.
abbrev pub ForRecords : Recovery → (ℕ → List Record → Type 0) → Type 0
ForRecords now P = (sessions : ℕ) (records : List Record) → StandsAt sessions records now → P sessions records

-- A stored text has room in a record, as that of each record with a payload.
abbrev pub HasRoom : Record → Type 0
HasRoom (left.Object e enabled text) = length text + 10 ≤ max_payload
HasRoom r = Unit {0}

-- ---- one record

-- The record is allowed behind these, and was carried out; or it isn't, and they stand as before. Want of memory alone is free.
abbrev pub Recovers : ℕ → List Record → Record → Recovery → Result (Unit {0}) RecoveryFault → Type 0
Recovers sessions records r now (Ok u) = Allowed records r × StandsAt sessions (records ++ r ∷ []) now
Recovers sessions records r now (Err NotAllowed) = (Allowed records r → ⊥) × StandsAt sessions records now
Recovers sessions records r now (Err NoMemory) = Unit {0}

-- ---- a list of records

-- The record at this place, counted from 0, isn't allowed, and those before it are, each behind others and those before it.
abbrev pub IsFirstRefused : List Record → List Record → ℕ → Type 0
IsFirstRefused before [] at = ⊥
IsFirstRefused before (r ∷ rest) zero = Allowed before r → ⊥
IsFirstRefused before (r ∷ rest) (suc at) = Allowed before r × IsFirstRefused (before ++ r ∷ []) rest at

-- why not all were carried out: want of memory alone is free
abbrev pub IsRefused : List Record → List Record → ListFault → Type 0
IsRefused before records (list.NotAllowed at) = IsFirstRefused before records at
IsRefused before records list.NoMemory = Unit {0}

-- All were carried out, each allowed behind those before it; or the first one that isn't allowed is told.
abbrev pub Extends : ℕ → List Record → List Record → Recovery → Result (Unit {0}) ListFault → Type 0
Extends sessions before records now (Ok u) = AllowedBehind before records × StandsAt sessions (before ++ records) now
Extends sessions before records now (Err fault) = IsRefused before records fault

-- the recovery of these records, where all are allowed
abbrev pub RecoversAll : ℕ → List Record → Result Recovery ListFault → Type 0
RecoversAll sessions records (Ok now) = AreAllowed records × StandsAt sessions records now
RecoversAll sessions records (Err fault) = IsRefused [] records fault

-- An engine begins with these records, where all are allowed; else the keeper comes back.
abbrev pub Begins : {K : Type 0} → K → List Record → ℕ → Result (EngineState K) (Unbegun K) → Type 0
Begins keeper records sessions (Ok e) = AreAllowed records × (e ≡ record { history = []; recovered = records; books = no_books sessions; keeper = keeper })
Begins keeper records sessions (Err u) = (u.keeper ≡ keeper) × IsRefused [] records u.why
