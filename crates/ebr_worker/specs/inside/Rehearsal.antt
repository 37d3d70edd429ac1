-- A rehearsal at work.
use Rattle.std.specs.Prelude.{ℕ, ◌≡◌, ◌+◌, ◌≤◌, Bool, true, List, [], ◌++◌, length, map, sum_by, ◌-◌, slice_get, slice_set, Option, Some, None, IsSome, is_none}
use Rattle.ebr_base.specs.declared.numbers.SessionId.{SessionId}
use Rattle.ebr_worker.specs.declared.limits.TheConstants.{MAX_ASKS}
use Rattle.ebr_asks.specs.declared.entry.Entry.{Entry}
use Rattle.ebr_record.specs.Keeper.{Keeper}
use Rattle.ebr_report.specs.declared.ends.EndKind.{EndKind}
use Rattle.ebr_report.specs.declared.ends.SessionEnd.{SessionEnd}
use Rattle.ebr_session.specs.Has.{Follows, Progress, begun}
use Rattle.ebr_core.specs.Engine.{EngineState, first_of, has_given_up}
use Rattle.ebr_core.specs.History.{is_short}
use Rattle.ebr_core.specs.Kept.{Kept}
use Rattle.ebr_worker.specs.Matches.{has_stop}
use Rattle.ebr_worker.specs.Paced.{Turns}
use Rattle.ebr_worker.specs.Ends.{IsEnd, Job}
use Rattle.ebr_worker.specs.Runs.{nth_session}
use Rattle.ebr_worker.specs.Work.{Over, Stands, Turned, Work, job_of}
use Rattle.ebr_worker.specs.Rehearsal.{AllStand, jobs_of}

-- One worker has made a turn.
pub record TurnedAt {K : Type 0} (as_keeper : K → Keeper) (at : ℕ) (old new : List Work) (e e' : EngineState K) : Type 0 where
  pub before : Work
  pub after : Work
  pub was : slice_get old at ≡ Some before
  pub now : new ≡ slice_set old at after
  pub turned : Turned as_keeper before after e e'

-- How far a rehearsal has come, of whose order these turns are left: whatever makes the rest of the history by what is left makes the whole
-- by the order.
pub record Rehearses {K : Type 0} (as_keeper : K → Keeper) (order left : List SessionId) (first_ws ws : List Work) (first e : EngineState K) : Type 0 where
  pub all_stand : AllStand ws e
  pub jobs : jobs_of ws ≡ jobs_of first_ws
  pub books : length e.books ≡ length first.books
  pub recovered : e.recovered ≡ first.recovered
  pub paced : (rest : List Entry) → Turns (length e.books) left e.history rest → Turns (length e.books) order [] (e.history ++ rest)
  pub kept : Kept (as_keeper first.keeper) (as_keeper e.keeper) (first_of e) e.history

-- the session hasn't ended
abbrev pub goes_on : Work → Bool
goes_on w = is_none w.end

-- how many asks all sessions may still make
abbrev pub asks_left : List Work → ℕ
asks_left ws = sum_by (λ (w : Work). MAX_ASKS - length w.session.transcript) ws

-- A session that has just begun.
pub record IsNew (n : ℕ) (s : Progress) : Type 0 where
  pub is : s ≡ begun (record { 0 = n }) s.script
  pub follows : Follows s

abbrev pub script_of : Progress → List ℕ
script_of s = s.script

-- The sessions of these scripts, in order, which have just begun.
pub record AreNew (scripts : List (List ℕ)) (ss : List Progress) : Type 0 where
  pub scripts_are : map script_of ss ≡ scripts
  pub each : (i : ℕ) (s : Progress) → slice_get ss i ≡ Some s → IsNew (i + 1) s

-- A worker whose session has just begun.
pub record IsBegun (n : ℕ) (w : Work) : Type 0 where
  pub session : w.session ≡ begun (record { 0 = n }) w.session.script
  pub follows : Follows w.session
  pub written : w.written ≡ []
  pub unfailed : w.faults ≡ 0
  pub no_why : w.why ≡ None
  pub no_end : w.end ≡ None

-- The workers of these jobs, in order, whose sessions have just begun.
pub record AreBegun (jobs : List Job) (ws : List Work) : Type 0 where
  pub jobs_are : jobs_of ws ≡ jobs
  pub each : (i : ℕ) (w : Work) → slice_get ws i ≡ Some w → IsBegun (i + 1) w

-- The workers of sessions that have just begun, and room for their ends, of which there is none yet, and for their sinks.
pub record AreReady {E S : Type 0} (ws : List Work) (ends : List E) (room : ℕ) (sinks : List S) (room_for_sinks : ℕ) : Type 0 where
  pub begun : AreBegun (jobs_of ws) ws
  pub no_end : ends ≡ []
  pub fits : length ws ≤ room
  pub no_sink : sinks ≡ []
  pub sinks_fit : length ws ≤ room_for_sinks

-- Each element, by its place, which is counted from a number on.
abbrev pub AllFrom : {X : Type 0} → (ℕ → X → Type 0) → ℕ → List X → Type 0
AllFrom {X} P n xs = (i : ℕ) (x : X) → slice_get xs i ≡ Some x → P (n + i) x

-- The session of a place has ended, whose job is that of the place.
pub record EndsAt {K : Type 0} (jobs : List Job) (e : EngineState K) (i : ℕ) (w : Work) : Type 0 where
  pub number : w.session.session ≡ nth_session i
  pub end : EndKind
  pub ended : w.end ≡ Some end
  pub over : Over end w e
  pub job : (job : Job) → slice_get jobs i ≡ Some job → job_of w ≡ job

-- what is told of the end at a place
pub record IsEndAt {S : Type 0} (held : S → Option (List ℕ)) (faults : S → ℕ) (word : S → List ℕ) (jobs : List Job) (history : List Entry) (i : ℕ) (e : SessionEnd S) : Type 0 where
  pub sink : IsSome e.sink
  pub is_end : (job : Job) → slice_get jobs i ≡ Some job → IsEnd held faults word history job (nth_session i) e

-- How far the one session has come: where an ask was answered that the engine has stopped, or the engine has given up while the session
-- runs, the session was answered that there is no memory.
pub record RunsAlone {K : Type 0} (as_keeper : K → Keeper) (first_w w : Work) (first e : EngineState K) : Type 0 where
  pub stands : Stands w e
  pub session : w.session.session ≡ first_w.session.session
  pub job : job_of w ≡ job_of first_w
  pub recovered : e.recovered ≡ first.recovered
  pub books : length e.books ≡ length first.books
  pub kept : Kept (as_keeper first.keeper) (as_keeper e.keeper) (first_of e) e.history
  pub stop : has_stop e.history ≡ true → is_short e.history w.session.session ≡ true
  pub goes : w.end ≡ None → has_given_up e.history ≡ true → is_short e.history w.session.session ≡ true
