-- What comes of scripts that are run.
use Rattle.std.specs.Prelude.{ℕ, ◌≡◌, ◌+◌, true, false, IsSome, IfSome, List, [], length, Option, Some, slice_get}
use Rattle.ebr_base.specs.declared.numbers.SessionId.{SessionId}
use Rattle.ebr_asks.specs.declared.entry.Entry.{Entry}
use Rattle.ebr_report.specs.declared.ends.EndKind.TheVariants as ending
use Rattle.ebr_report.specs.declared.ends.SessionEnd.{SessionEnd}
use Rattle.ebr_core.specs.Machine.{Build}
use Rattle.ebr_core.specs.History.{Legal}
use Rattle.ebr_worker.specs.Matches.{has_fault, has_stop}
use Rattle.ebr_worker.specs.Ends.{IsEnd, Job}

-- the sessions are numbered in the order of their jobs
abbrev pub nth_session : ℕ → SessionId
nth_session i = record { 0 = i + 1 }

-- the sink holds nothing, where it tells, and no write of it has failed
abbrev pub IsUnwritten : {S : Type 0} → (S → Option (List ℕ)) → (S → ℕ) → S → Type 0
IsUnwritten held faults s = IfSome (held s) (λ bytes. bytes ≡ []) × (faults s ≡ 0)

-- The history is legal from the empty database with so many sessions, and no entry of it is that the disk failed.
pub record IsHistory (n : ℕ) (history : List Entry) : Type 0 where
  pub legal : Legal (Build [] n) history
  pub no_fault : has_fault history ≡ false

-- Each job was run as one session, in order, with the sink of its word.
pub record AreEnds {S : Type 0} (held : S → Option (List ℕ)) (faults : S → ℕ) (word : S → List ℕ) (jobs : List Job) (history : List Entry) (ends : List (SessionEnd S)) : Type 0 where
  pub count : length ends ≡ length jobs
  pub each : (i : ℕ) (job : Job) (e : SessionEnd S) → slice_get jobs i ≡ Some job → slice_get ends i ≡ Some e → IsEnd held faults word history job (nth_session i) e
  pub sinks : (i : ℕ) (e : SessionEnd S) → slice_get ends i ≡ Some e → IsSome e.sink

-- A job was run as the one session of an empty database. Only where it found no memory for one of its asks may its Leave be answered that the engine has
-- stopped, and no other ask is.
pub record RanAlone {S : Type 0} (held : S → Option (List ℕ)) (faults : S → ℕ) (word : S → List ℕ) (job : Job) (history : List Entry) (e : SessionEnd S) : Type 0 where
  pub is_history : IsHistory 1 history
  pub is_end : IsEnd held faults word history job (nth_session 0) e
  pub sink : IsSome e.sink
  pub stop : has_stop history ≡ true → e.end ≡ ending.NoMemory
