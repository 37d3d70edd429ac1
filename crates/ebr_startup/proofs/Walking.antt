-- Records that were gone through, one after the other.
use Rattle.std.proofs.Common.{◌≡◌, ℕ, zero, suc, ◌<◌, List, [], ◌∷◌, ◌++◌, length, take, get_or, refl, sym, ap, subst, arith, append_assoc, append-nil, length-append}
use Rattle.std.specs.Prelude.{All, Ok, Err, Result}
use Rattle.std.specs.Int.{w32, to_be_bytes}
use Rattle.ebr_record.specs.declared.record.Record.{Record}
use Rattle.ebr_record.specs.declared.record.Record.TheVariants as left
use Rattle.ebr_record.specs.Payload.{HasPayload, flag, text_bytes}
use Rattle.ebr_journal.specs.declared.found.Found.{Found}
use Rattle.ebr_allowed.specs.Allowed.{Allowed, AllowedBehind}
use Rattle.ebr_recovery.specs.declared.recovery.Recovery.{Recovery}
use Rattle.ebr_recovery.specs.declared.fault.ListFault.{ListFault}
use Rattle.ebr_recovery.specs.declared.fault.ListFault.TheVariants as list
use Rattle.ebr_recovery.specs.Recovery.{Extends, HasRoom, IsFirstRefused, StandsAt}
use Rattle.ebr_startup.specs.declared.why.OpenWhy.{OpenWhy}
use Rattle.ebr_startup.specs.declared.why.OpenWhy.TheVariants.{Damaged, NoMemory}
use Rattle.ebr_startup.specs.Damage.{IsFirstUnallowed, gate_behind}
use Rattle.ebr_startup.specs.inside.Walk.{IsDone, IsWithin, Places, WalkedTo}

abbrev nothing : Unit {0}
nothing = tt

abbrev no_value : OpenWhy → Result (Unit {0}) OpenWhy
no_value why = Err why

-- of those that are all allowed, one behind the first ones
pub allowed_there : (start before : List Record) (r : Record) (behind : List Record) → AllowedBehind start (before ++ r ∷ behind) → Allowed (start ++ before) r
allowed_there start [] r behind h = subst (λ l. Allowed l r) (sym (append-nil start)) h.0
allowed_there start (x ∷ before) r behind h = subst (λ l. Allowed l r) (append_assoc start (x ∷ []) before) (allowed_there (start ++ x ∷ []) before r behind h.1)

-- The record at a place isn't allowed, and those before it are.
record RefusedAt (before records : List Record) (at : ℕ) : Type 0 where
  first : Record
  behind : List Record
  records_are : records ≡ take at records ++ first ∷ behind
  within : at < length records
  allowed : AllowedBehind before (take at records)
  unallowed : Allowed (before ++ take at records) first → ⊥

refused_at : (before records : List Record) (at : ℕ) → IsFirstRefused before records at → RefusedAt before records at
refused_at before [] at refused = absurd refused
refused_at before (x ∷ rest) zero refused = record { first = x; behind = rest; records_are = refl; within = omega arith; allowed = tt; unallowed = λ a. refused (subst (λ l. Allowed l x) (append-nil before) a) }
refused_at before (x ∷ rest) (suc at) refused =
    let r = refused_at (before ++ x ∷ []) rest at refused.1 in
    record {
      first = r.first;
      behind = r.behind;
      records_are = ap (λ l. x ∷ l) r.records_are;
      within = omega (arith, r.within);
      allowed = (refused.0, r.allowed);
      unallowed = λ a. r.unallowed (subst (λ l. Allowed l r.first) (sym (append_assoc before (x ∷ []) (take at rest))) a);
    }

-- .. with the place of its gate
first_unallowed : (found : Found) (count : ℕ) → IsFirstRefused [] found.records count → IsFirstUnallowed found (gate_behind found.short (take count found.records))
first_unallowed found count refused =
    let r = refused_at [] found.records count refused in
    record { before = take count found.records; first = r.first; behind = r.behind; records_are = r.records_are; allowed = r.allowed; unallowed = r.unallowed; gate = refl }

-- the record that was told is one of them
pub told_within : (sessions : ℕ) (records : List Record) (now : Recovery) (result : Result (Unit {0}) ListFault) → Extends sessions [] records now result → IsWithin records result
told_within sessions records now (Ok u) walks = tt
told_within sessions records now (Err (list.NotAllowed count)) walks = (refused_at [] records count walks).within
told_within sessions records now (Err list.NoMemory) walks = tt

-- a record with a payload has room
has_room : (r : Record) → HasPayload r → HasRoom r
has_room (left.Object e enabled text) h =
    let short = h.short in
    omega (arith, short, length-append (to_be_bytes w32 e.0) (flag enabled ∷ text_bytes text), length-append (to_be_bytes w32 (length text)) text)
has_room r h = tt

pub have_room : (records : List Record) → All HasPayload records → All HasRoom records
have_room records all = λ i d within. has_room (get_or records i d) (all i d within)

abbrev place_of : Found → ℕ → ℕ
place_of found count = gate_behind found.short (take count found.records)

-- what comes of all this
pub walked_to : (sessions : ℕ) (found : Found) (now : Recovery) (walked : Result (Unit {0}) ListFault) (done : Result (Unit {0}) OpenWhy) (result : Result Recovery OpenWhy)
    → Extends sessions [] found.records now walked → Places found walked done → IsDone now done result → WalkedTo sessions found result
walked_to sessions found now (Ok u) done result walks places is = by result (subst (λ d. IsDone now d result) places is)
  where
    by : (r : Result Recovery OpenWhy) → IsDone now (Ok tt) r → WalkedTo sessions found r
    by (Ok v) is = (walks.0, subst (StandsAt sessions found.records) (sym is.0) walks.1)
    by (Err e) is = absurd cc
walked_to sessions found now (Err (list.NotAllowed count)) done result walks places is = by result (subst (λ d. IsDone now d result) places is)
  where
    by : (r : Result Recovery OpenWhy) → IsDone now (Err (Damaged (place_of found count))) r → WalkedTo sessions found r
    by (Ok v) is = absurd cc
    by (Err e) is = subst (λ w. WalkedTo sessions found (Err w)) (same_err is) (first_unallowed found count walks)
      where
        same_err : no_value (Damaged (place_of found count)) ≡ no_value e → Damaged (place_of found count) ≡ e
        same_err e = cc
walked_to sessions found now (Err list.NoMemory) done result walks places is = by result (subst (λ d. IsDone now d result) places is)
  where
    by : (r : Result Recovery OpenWhy) → IsDone now (Err NoMemory) r → WalkedTo sessions found r
    by (Ok v) is = absurd cc
    by (Err e) is = subst (λ w. WalkedTo sessions found (Err w)) (same_err is) nothing
      where
        same_err : no_value NoMemory ≡ no_value e → NoMemory ≡ e
        same_err e = cc
