-- A session at work: how it stands over its engine, what a turn does, and what it comes to.
use Rattle.std.specs.Prelude.{ℕ, ◌≡◌, ◌<◌, ◌≤◌, Bool, true, false, List, [], ◌∷◌, ◌++◌, length, map, Option, Some, None, IfSome}
use Rattle.std.specs.List.{count_by}
use Rattle.ebr_base.specs.declared.numbers.SessionId.{SessionId}
use Rattle.ebr_worker.specs.declared.limits.TheConstants.{MAX_ASKS}
use Rattle.ebr_asks.specs.declared.ask.Ask.{Ask}
use Rattle.ebr_asks.specs.declared.answer.Answer.{Answer}
use Rattle.ebr_asks.specs.declared.entry.Entry.{Entry}
use Rattle.ebr_asks.specs.declared.entry.Exchange.{Exchange}
use Rattle.ebr_record.specs.Keeper.{Keeper}
use Rattle.ebr_report.specs.declared.ends.EndKind.{EndKind}
use Rattle.ebr_report.specs.declared.ends.EndKind.TheVariants as ending
use Rattle.ebr_report.specs.declared.ends.SessionEnd.{SessionEnd}
use Rattle.ebr_session.specs.Has.{Follows, Progress, is_short}
use Rattle.ebr_core.specs.Engine.{EngineState, Gives, database_of, entry_of, has_given_up}
use Rattle.ebr_core.specs.History.{IsLive}
use Rattle.ebr_core.specs.Machine.{Reply}
use Rattle.ebr_worker.specs.Matches.{Matches, as_recorded}
use Rattle.ebr_worker.specs.Paced.{IsSession, has_ended}
use Rattle.ebr_worker.specs.Ends.{Came, Job, failed_writes, is_refused}

-- Where the session stands, what it printed that is written, the sink's word, what the sink holds, if it tells, its count of faults, why it
-- leaves before its script has ended, if it does, and how it has ended, if it has.
pub record Work : Type 0 where
  pub session : Progress
  pub written : List ℕ
  pub word : List ℕ
  pub held : Option (List ℕ)
  pub faults : ℕ
  pub why : Option EndKind
  pub end : Option EndKind

-- what it is there to do
abbrev pub job_of : Work → Job
job_of w = record { script = w.session.script; word = w.word }

-- ---- the session by itself

-- why it leaves where it has an answer that there is no memory, or none
abbrev pub why_short : Bool → Option EndKind
why_short true = Some ending.NoMemory
why_short false = None

-- The session runs, or was answered that there is no memory and is to leave. All that it printed is written, and no write has failed.
pub record Runs (w : Work) : Type 0 where
  pub goes_on : w.session.ended ≡ false
  pub no_quit : w.session.quit ≡ None
  pub no_ask : w.session.out ≡ None
  pub follows : Follows w.session
  pub not_over : has_ended w.session.transcript ≡ false
  pub few : length w.session.transcript < MAX_ASKS
  pub written : w.written ≡ w.session.printed
  pub unfailed : w.faults ≡ 0
  pub why : w.why ≡ why_short (is_short w.session.transcript)

-- The session has ended so. A write failed exactly where that ended it, and none was made behind it.
pub record HasCome (k : EndKind) (w : Work) : Type 0 where
  pub ended : w.session.ended ≡ true
  pub over : has_ended w.session.transcript ≡ true
  pub few : length w.session.transcript ≤ MAX_ASKS
  pub came : Came k w.session.script (map as_recorded w.session.transcript) w.written
  pub failed : w.faults ≡ failed_writes k

-- ---- over its engine

-- A session that has had these exchanges may make its next ask of the engine: it has a place there and lives, and the exchanges are
-- those of the history.
pub record MayAsk {K : Type 0} (e : EngineState K) (s : SessionId) (before : List Exchange) : Type 0 where
  pub is_session : IsSession (length e.books) s
  pub matches : Matches before e.history s
  pub live : IsLive (database_of e) s

-- The session has a place in the engine, and its exchanges are those of the history.
pub record Seated {K : Type 0} (s : Progress) (e : EngineState K) : Type 0 where
  pub is_session : IsSession (length e.books) s.session
  pub matches : Matches s.transcript e.history s.session

-- It runs, and lives.
pub record Works {K : Type 0} (w : Work) (e : EngineState K) : Type 0 where
  pub runs : Runs w
  pub seated : Seated w.session e
  pub live : IsLive (database_of e) w.session.session

-- It has ended so.
pub record Over {K : Type 0} (k : EndKind) (w : Work) (e : EngineState K) : Type 0 where
  pub come : HasCome k w
  pub seated : Seated w.session e

abbrev pub StandsBy : {K : Type 0} → Option EndKind → Work → EngineState K → Type 0
StandsBy None w e = Works w e
StandsBy (Some k) w e = Over k w e

-- The session runs or has ended.
abbrev pub Stands : {K : Type 0} → Work → EngineState K → Type 0
Stands w e = StandsBy w.end w e

-- ---- a turn

-- An entry of a session was added: its ask was answered, by the reply in the database that the entries before it leave, and what became
-- of the keeper goes by that. Other sessions that live stay so.
pub record Adds {K : Type 0} (as_keeper : K → Keeper) (s : SessionId) (x : Entry) (old new : EngineState K) : Type 0 where
  pub ask : Ask
  pub answer : Answer
  pub entry : x ≡ entry_of s ask answer
  pub of : x.session ≡ s
  pub is : new.history ≡ old.history ++ x ∷ []
  pub recovered : new.recovered ≡ old.recovered
  pub books : length new.books ≡ length old.books
  pub others : (r : SessionId) → (r.0 ≡ s.0 → ⊥) → IsLive (database_of old) r → IsLive (database_of new) r
  pub gives : Gives as_keeper (has_given_up old.history) old.keeper new.keeper ask answer (Reply (database_of old) s ask)

-- The turn of a session that has ended does nothing, and any other one makes an entry.
abbrev pub Makes : {K : Type 0} → (K → Keeper) → Option EndKind → Work → Work → EngineState K → EngineState K → Type 0
Makes as_keeper None old new e e' = (x : Entry) × Adds as_keeper old.session.session x e e'
Makes as_keeper (Some k) old new e e' = (new ≡ old) × (e' ≡ e)

-- What a turn does.
pub record Turned {K : Type 0} (as_keeper : K → Keeper) (old new : Work) (e e' : EngineState K) : Type 0 where
  pub session : new.session.session ≡ old.session.session
  pub job : job_of new ≡ job_of old
  pub stands : Stands new e'
  pub makes : Makes as_keeper old.end old new e e'

-- ---- its end

-- what a worker's session came to, with its sink
pub record IsEndOf {S : Type 0} (held : S → Option (List ℕ)) (faults : S → ℕ) (word : S → List ℕ) (w : Work) (e : SessionEnd S) : Type 0 where
  pub session : e.session ≡ w.session.session
  pub requests : e.requests ≡ length w.session.transcript
  pub refused : e.refused ≡ count_by is_refused w.session.transcript
  pub end : w.end ≡ Some e.end
  pub holds : IfSome e.sink (λ sink. IfSome (held sink) (λ bytes. bytes ≡ w.written))
  pub counted : IfSome e.sink (λ sink. faults sink ≡ w.faults)
  pub asked : IfSome e.sink (λ sink. word sink ≡ w.word)
