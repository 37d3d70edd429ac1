-- A keeper in memory.
use Rattle.std.specs.Prelude.{◌≡◌, ℕ, ◌+◌, ◌==◌, nat_lt, ◌≤◌, Bool, true, false, if◌then◌else◌, List, [], ◌∷◌, ◌++◌, length, take, Some, Result, Ok, Err}
use Rattle.std.specs.List.{list_any}
use native.Mathlib.Nat.{le_trans}
use Rattle.ebr_faults.specs.Faults.{one_more}
use Rattle.ebr_record.specs.declared.keep.JournalFault.{JournalFault}
use Rattle.ebr_record.specs.declared.keep.JournalFault.TheVariants.{DiskFault, Stopped, Full, NoMemory}
use Rattle.ebr_record.specs.declared.record.Record.{Record}
use Rattle.ebr_record.specs.Keeper.{Keeper, max_journal, share, used_by}

-- What it has kept; the numbers of the calls of `keep` that are to fail, how many calls there were, and how many failed; and
-- whether one found a fault or no memory.
pub record ListState : Type 0 where
  pub records : List Record
  pub failing : List ℕ
  pub calls : ℕ
  pub faults : ℕ
  pub stopped : Bool

-- before the first call
abbrev pub none_kept : List ℕ → ListState
none_kept failing = record { records = []; failing = failing; calls = 0; faults = 0; stopped = false }

-- the next call is named
abbrev pub fails_next : ListState → Bool
fails_next s = list_any (λ n. n == one_more s.calls) s.failing

-- what a call answers where there is memory
abbrev pub answer_to : ListState → Record → Result (Unit {0}) JournalFault
answer_to s r =
    let len = used_by s.records + share r in
    if s.stopped then Err Stopped else if nat_lt max_journal len then Err (Full len) else if fails_next s then Err DiskFault else Ok tt

-- it is answered so, or where it would be kept there is no memory
abbrev pub AnswersTo : ListState → Record → Result (Unit {0}) JournalFault → Type 0
AnswersTo s r (Err NoMemory) = answer_to s r ≡ Ok tt
AnswersTo s r answer = answer_to s r ≡ answer

-- after a call
abbrev pub after_call : ListState → Record → Result (Unit {0}) JournalFault → ListState
after_call s r (Ok x) = record s { records = s.records ++ r ∷ []; calls = one_more s.calls }
after_call s r (Err DiskFault) = record s { calls = one_more s.calls; faults = one_more s.faults; stopped = true }
after_call s r (Err NoMemory) = record s { calls = one_more s.calls; stopped = true }
after_call s r (Err fault) = record s { calls = one_more s.calls }

-- a stop at the n-th moment leaves the first n records, so since a moment one of the lists from there on
abbrev pub LeftSince : List Record → ℕ → List Record → Type 0
LeftSince records t l = (n : ℕ) × (t ≤ n) × (n ≤ length records) × (l ≡ take n records)

-- what is left since a later moment is left since an earlier one
pub left_since_earlier : (records : List Record) (t u : ℕ) (l : List Record) → t ≤ u → LeftSince records u l → LeftSince records t l
left_since_earlier records t u l earlier left = (left.0, le_trans earlier left.1, left.2, left.3)

-- what it tells as a keeper: all of it
abbrev pub as_keeper : ListState → Keeper
as_keeper s = record {
  records = Some s.records;
  used = used_by s.records;
  faults = s.faults;
  stopped = s.stopped;
  moment = length s.records;
  tells = true;
  may_leave = LeftSince s.records;
}
