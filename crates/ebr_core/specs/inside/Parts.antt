-- The parts of the engine, and what holds of them between two asks.
use Rattle.std.specs.Prelude.{◌≡◌, ℕ, ◌+◌, ◌-◌, ◌<◌, ◌≤◌, suc, zero, Bool, true, false, is_some, List, [], ◌∷◌, ◌++◌, length, map, Option, Some, None, slice_get, slice_set, replicate, vec_len, vec_capacity}
use Rattle.ebr_base.specs.declared.numbers.EditionNo.{EditionNo}
use Rattle.ebr_base.specs.declared.numbers.SessionId.{SessionId}
use Rattle.ebr_ast.specs.declared.view.EditionView.{EditionView}
use Rattle.ebr_asks.specs.declared.ask.Ask.{Ask}
use Rattle.ebr_asks.specs.declared.answer.Answer.{Answer}
use Rattle.ebr_asks.specs.declared.answer.Answer.TheVariants as answer
use Rattle.ebr_asks.specs.declared.entry.Entry.{Entry}
use Rattle.ebr_record.specs.Keeper.{Keeper}
use Rattle.ebr_database.specs.declared.failure.Halt.{Halt}
use Rattle.ebr_database.specs.declared.failure.Halt.TheVariants as why
use Rattle.ebr_database.specs.Database.{Session, Database}
use Rattle.ebr_seats.specs.Seats.{Begin}
use Rattle.ebr_core.specs.declared.parts.Parts.{Parts}
use Rattle.ebr_core.specs.declared.parts.Places.{Places}
use Rattle.ebr_core.specs.Asked.{AreFit}
use Rattle.ebr_core.specs.History.{Legal, AllStopped, is_short}
use Rattle.ebr_core.specs.Engine.{EngineState, database_of, first_of, has_given_up, no_books}
use Rattle.ebr_core.specs.inside.Held.{Holds}

-- whether each session lives
abbrev pub is_there : Session → Bool
is_there x = is_some x.edition

abbrev pub lives : Database → List Bool
lives db = map is_there db.sessions

-- how many live
abbrev pub live_count : List Bool → ℕ
live_count [] = 0
live_count (true ∷ bs) = suc (live_count bs)
live_count (false ∷ bs) = live_count bs

-- how many entries a session may still make without memory: an idle one and its Leave; Leave alone where it has an idle one
abbrev pub last_entries : Bool → Bool → ℕ
last_entries false short = 0
last_entries true true = 1
last_entries true false = 2

-- those of sessions that are numbered from this one on
abbrev pub needs : (ℕ → Bool) → ℕ → List Bool → ℕ
needs short n [] = 0
needs short n (b ∷ bs) = last_entries b (short n) + needs short (suc n) bs

-- those of all sessions
abbrev pub room_needed : List Entry → List Bool → ℕ
room_needed history living = needs (λ n. is_short history (record { 0 = n })) 1 living

-- Whether the session of a number is there, and hasn't left. None has the number 0.
abbrev pub lives_in : Option Bool → Bool
lives_in None = false
lives_in (Some b) = b

abbrev pub lives_at : List Bool → ℕ → Bool
lives_at bs zero = false
lives_at bs (suc n) = lives_in (slice_get bs n)

abbrev pub entry : SessionId → Ask → Answer → Entry
entry s ask a = record { session = s; ask = ask; answer = a }

-- the answer with which the engine gives up
abbrev pub last_answer : Halt → Answer
last_answer why.DiskFault = answer.DiskFault
last_answer why.Stopped = answer.NoMemory
last_answer why.NoMemory = answer.NoMemory

-- The places of so many sessions that live, in an edition: their seats, no book set aside, and an empty history with room for two
-- entries of each.
pub record ArePlaces (p : Places) (sessions : ℕ) (e : EditionNo) : Type 0 where
  pub seats : Begin sessions e p.seats.items
  pub living : p.living.items ≡ replicate sessions true
  pub books : p.books.items ≡ no_books sessions
  pub history : p.history.items ≡ []
  pub room : vec_len p.history + (sessions + sessions) ≤ vec_capacity p.history

module _ {K : Type 0} (as_keeper : K → Keeper) where
  abbrev pub state_of : Parts K → EngineState K
  state_of p = record { history = p.history.items; recovered = p.recovered; books = p.books.items; keeper = p.current.world.keeper }

  abbrev pub database : Parts K → Database
  database p = database_of (state_of p)

  abbrev pub first : Parts K → Database
  first p = first_of (state_of p)

  -- Any history that is legal behind this one goes on with it, the database is held, and there is room for the last entries of all
  -- sessions.
  pub record Runs (p : Parts K) : Type 0 where
    pub legal : (more : List Entry) → Legal (database p) more → Legal (first p) (p.history.items ++ more)
    pub holds : Holds as_keeper p.current (database p)
    pub goes : (as_keeper p.current.world.keeper).stopped ≡ false
    pub room : vec_len p.history + room_needed p.history.items p.living.items ≤ vec_capacity p.history

  -- Behind this history all asks are answered Stopped, and there is room for one entry for each live session.
  pub record HasStopped (p : Parts K) : Type 0 where
    pub legal : (more : List Entry) → AllStopped (database p) more → Legal (first p) (p.history.items ++ more)
    pub room : vec_len p.history + live_count p.living.items ≤ vec_capacity p.history

  abbrev pub Stands : Bool → Parts K → Type 0
  Stands false p = Runs p
  Stands true p = HasStopped p

  -- what holds between two asks
  pub record IsSound (p : Parts K) : Type 0 where
    pub living : p.living.items ≡ lives (database p)
    pub books : length p.books.items ≡ length p.living.items
    pub stopped : p.stopped ≡ has_given_up p.history.items
    pub stands : Stands p.stopped p

  -- An engine between two asks: it is sound, and each ask of its history was fit.
  pub record IsEngine (p : Parts K) : Type 0 where
    pub sound : IsSound p
    pub fit : AreFit p.history.items

  -- One entry was added, and a book set aside; these sessions live then.
  pub record Adds (old new : Parts K) (s : SessionId) (x : Entry) (book : Option EditionView) (living : List Bool) : Type 0 where
    pub entry : new.history.items ≡ old.history.items ++ x ∷ []
    pub books : new.books.items ≡ slice_set old.books.items (s.0 - 1) book
    pub len : vec_len new.history ≡ vec_len old.history + 1
    pub room : vec_capacity new.history ≡ vec_capacity old.history
    pub living_is : new.living.items ≡ living
    pub stopped : new.stopped ≡ old.stopped
    pub recovered : new.recovered ≡ old.recovered

  -- It gave up with one entry, and no book is set aside.
  pub record GivesUp (old new : Parts K) (s : SessionId) (x : Entry) : Type 0 where
    pub entry : new.history.items ≡ old.history.items ++ x ∷ []
    pub books : new.books.items ≡ slice_set old.books.items (s.0 - 1) None
    pub len : vec_len new.history ≡ vec_len old.history + 1
    pub room : vec_capacity new.history ≡ vec_capacity old.history
    pub living : new.living.items ≡ old.living.items
    pub stopped : new.stopped ≡ true
    pub recovered : new.recovered ≡ old.recovered

  -- what the calls that add an entry need
  pub record HasRoom (p : Parts K) (s : SessionId) : Type 0 where
    pub first : 1 ≤ s.0
    pub last : s.0 ≤ length p.living.items
    pub books : length p.books.items ≡ length p.living.items
    pub room : vec_len p.history < vec_capacity p.history

  -- All but the database and the room for the history stays.
  pub record Keeps (old new : Parts K) : Type 0 where
    pub entries : new.history.items ≡ old.history.items
    pub len : vec_len new.history ≡ vec_len old.history
    pub room : vec_capacity old.history ≤ vec_capacity new.history
    pub living : new.living.items ≡ old.living.items
    pub books : new.books.items ≡ old.books.items
    pub stopped : new.stopped ≡ old.stopped
    pub recovered : new.recovered ≡ old.recovered
