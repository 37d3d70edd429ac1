-- Records that were read off a disk.
use Rattle.std.proofs.Common.{◌≡◌, inl, inr, ℕ, List, Ok, Err, Result}
use Rattle.std.specs.Prelude.{All, IfOk}
use Rattle.ebr_record.specs.declared.record.Record.{Record}
use Rattle.ebr_record.specs.Payload.{HasPayload}
use Rattle.ebr_journal.specs.declared.found.Found.{Found}
use Rattle.ebr_journal.specs.Found.{Holds, IsDamaged}
use Rattle.ebr_allowed.specs.Allowed.{AreAllowed}
use Rattle.ebr_startup.specs.declared.why.OpenWhy.{OpenWhy}
use Rattle.ebr_startup.specs.declared.why.OpenWhy.TheVariants.{DiskFault, Damaged, NoMemory}
use Rattle.ebr_startup.specs.Read.{Reads}
use Rattle.ebr_startup.specs.inside.Walk.{Damages, IsTested, WalkedTo}

abbrev no_records : OpenWhy → Result (List Record) OpenWhy
no_records why = Err why

-- the records of a file, where each is allowed
pub tested_reads : (bytes : List ℕ) (found : Found) (r : Result (List Record) OpenWhy) → Holds bytes found → IsTested found r → Reads bytes r
tested_reads bytes found (Ok records) holds tested = record { found = found; holds = holds; records_are = tested.0; allowed = tested.1 }
tested_reads bytes found (Err (Damaged at)) holds tested = inl (record { found = found; holds = holds; first = tested })
tested_reads bytes found (Err DiskFault) holds tested = tt
tested_reads bytes found (Err NoMemory) holds tested = tt

pub tested_payloads : (found : Found) (r : Result (List Record) OpenWhy) → IsTested found r → IfOk r (λ records. All HasPayload records)
tested_payloads found (Ok records) tested = tested.2
tested_payloads found (Err why) tested = tt

pub tested_allowed : (found : Found) (r : Result (List Record) OpenWhy) → IsTested found r → IfOk r AreAllowed
tested_allowed found (Ok records) tested = tested.1
tested_allowed found (Err why) tested = tt

pub tested_no_fault : (found : Found) (r : Result (List Record) OpenWhy) → IsTested found r → r ≡ Err DiskFault → ⊥
tested_no_fault found (Ok records) tested is = cc
tested_no_fault found (Err (Damaged at)) tested is = cc
tested_no_fault found (Err DiskFault) tested is = tested
tested_no_fault found (Err NoMemory) tested is = cc

-- a damage
pub damage_reads : (bytes : List ℕ) (place : ℕ) (before : Found) (why : OpenWhy) → IsDamaged bytes place before → Damages before place why → Reads bytes (Err why)
damage_reads bytes place before (Damaged at) damaged is = inr (record { place = place; before = before; damaged = damaged; smallest = is })
damage_reads bytes place before DiskFault damaged is = tt
damage_reads bytes place before NoMemory damaged is = tt

pub damage_no_fault : (before : Found) (place : ℕ) (why : OpenWhy) → Damages before place why → no_records why ≡ no_records DiskFault → ⊥
damage_no_fault before place (Damaged at) is e = cc
damage_no_fault before place DiskFault is e = is
damage_no_fault before place NoMemory is e = cc

pub none_tested : (found : Found) (why : OpenWhy) → WalkedTo 0 found (Err why) → IsTested found (Err why)
none_tested found (Damaged at) walked = walked
none_tested found DiskFault walked = walked
none_tested found NoMemory walked = tt

pub walked_damage : (found : Found) (place : ℕ) (why : OpenWhy) → WalkedTo 0 found (Err why) → Damages found place why
walked_damage found place (Damaged at) walked = inl walked
walked_damage found place DiskFault walked = walked
walked_damage found place NoMemory walked = tt
