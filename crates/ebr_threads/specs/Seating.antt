-- Workers at their chairs.
use Rattle.std.specs.Prelude.{◌≡◌, ℕ, ◌+◌, ◌<◌, IsSome, List, [], ◌∷◌, ◌++◌, length, map, Option, Some, None, slice_get, slice_index_or}
use Rattle.ebr_asks.specs.declared.entry.Exchange.{Exchange}
use Rattle.ebr_report.specs.declared.ends.EndKind.{EndKind}
use Rattle.ebr_worker.specs.Matches.{as_recorded}
use Rattle.ebr_worker.specs.Paced.{IsSession}
use Rattle.ebr_worker.specs.Work.{HasCome, Runs, Work, job_of}
use Rattle.ebr_turn.specs.Chairs.{ChairState, TurnId}
use Rattle.ebr_threads.specs.Booking.{chair_of}

-- a session's exchanges, as the history has them, with its number
abbrev pub list_by : Work → ℕ × List Exchange
list_by w = (w.session.session.0, map as_recorded w.session.transcript)

-- the session runs, or has ended so
abbrev pub StandsBy : Option EndKind → Work → Type 0
StandsBy None w = Runs w
StandsBy (Some k) w = HasCome k w

-- A worker at a chair that tells its session's exchanges.
pub record Sits (z : TurnId) (sessions : ℕ) (w : Work) (c : ChairState Exchange) : Type 0 where
  pub turn : c.turn ≡ z
  pub is_session : IsSession sessions w.session.session
  pub stands : StandsBy w.end w
  pub chair : c.view ≡ chair_of w.session.session w.session.transcript

-- .. whose session runs
pub record IsReady (z : TurnId) (sessions : ℕ) (w : Work) (c : ChairState Exchange) : Type 0 where
  pub sits : Sits z sessions w c
  pub no_end : w.end ≡ None

-- .. whose session has ended
pub record HasSat (z : TurnId) (sessions : ℕ) (w : Work) (c : ChairState Exchange) : Type 0 where
  pub sits : Sits z sessions w c
  pub ended : IsSome w.end

-- A session went on.
pub record WentOn (old new : Work) : Type 0 where
  pub session : new.session.session ≡ old.session.session
  pub job : job_of new ≡ job_of old

-- the worker of a place, whose session has made no ask
pub record IsFresh (i : ℕ) (w : Work) : Type 0 where
  pub number : w.session.session ≡ record { 0 = i + 1 }
  pub runs : Runs w
  pub no_end : w.end ≡ None
  pub none : w.session.transcript ≡ []

-- There is one worker for each session, in the order of their numbers, and none has made an ask.
pub record AllReady (sessions : ℕ) (ws : List Work) : Type 0 where
  pub count : length ws ≡ sessions
  pub each : (i : ℕ) (w : Work) → slice_get ws i ≡ Some w → IsFresh i w

-- A session has ended.
pub record HasEnded (w : Work) : Type 0 where
  pub end : EndKind
  pub ended : w.end ≡ Some end
  pub come : HasCome end w

module _ {A : Type 0} (worker : A → Work) where
  -- the workers, from the last one on
  abbrev pub workers_of : List A → List Work
  workers_of [] = []
  workers_of (x ∷ xs) = workers_of xs ++ worker x ∷ []

  -- Each went on.
  abbrev pub AllWent : List A → List A → Type 0
  AllWent old new = (k : ℕ) (d : A) → k < length old → WentOn (worker (slice_index_or old k d)) (worker (slice_index_or new k d))
