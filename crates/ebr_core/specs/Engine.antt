-- The engine as its callers see it, and what its answers are.
use Rattle.std.specs.Prelude.{◌≡◌, ◌≢◌, ℕ, zero, suc, ◌||◌, ◌&&◌, not, Bool, true, false, List, [], ◌∷◌, ◌++◌, Option, Some, None, length, slice_get, slice_set, replicate}
use Rattle.ebr_base.specs.declared.numbers.SessionId.{SessionId}
use Rattle.ebr_ast.specs.declared.view.EditionView.{EditionView}
use Rattle.ebr_ast.specs.Views.{IsInOrder}
use Rattle.ebr_asks.specs.declared.ask.Ask.{Ask}
use Rattle.ebr_asks.specs.declared.ask.Ask.TheVariants.{Leave}
use Rattle.ebr_asks.specs.declared.answer.Answer.{Answer}
use Rattle.ebr_asks.specs.declared.answer.Answer.TheVariants.{View, Done, DiskFault, NoMemory, Stopped}
use Rattle.ebr_asks.specs.declared.entry.Entry.{Entry}
use Rattle.ebr_laws.specs.Served.{HasCodeOf}
use Rattle.ebr_record.specs.declared.record.Record.{Record}
use Rattle.ebr_record.specs.Keeper.{Keeper}
use Rattle.ebr_database.specs.declared.failure.Halt.TheVariants as why
use Rattle.ebr_database.specs.Database.{Database, Replied}
use Rattle.ebr_database.specs.Shows.{Grew, GaveUp}
use Rattle.ebr_units.specs.Served.{served}
use Rattle.ebr_core.specs.Machine.{Build, Reply}
use Rattle.ebr_core.specs.History.{After, IsLive, Legal, is_idle, is_light, wants}
use Rattle.ebr_core.specs.Recovered.{IsReady}

-- The history, the records of the database with which it began, for each session the book that is set aside, by what its edition sees,
-- and the keeper. The sessions are numbered from 1, and there are as many as books.
pub record EngineState (K : Type 0) : Type 0 where
  pub history : List Entry
  pub recovered : List Record
  pub books : List (Option EditionView)
  pub keeper : K

-- no book for any session
abbrev pub no_books : ℕ → List (Option EditionView)
no_books n = replicate n None

-- The book of a session, where one is set aside. No session has the number 0.
abbrev pub set_aside : Option (Option EditionView) → Option EditionView
set_aside None = None
set_aside (Some book) = book

abbrev pub book_at : List (Option EditionView) → ℕ → Option EditionView
book_at books zero = None
book_at books (suc n) = set_aside (slice_get books n)

abbrev pub with_book : List (Option EditionView) → ℕ → Option EditionView → List (Option EditionView)
with_book books zero book = books
with_book books (suc n) book = slice_set books n book

module _ {K : Type 0} where
  -- the database with which the history began
  abbrev pub first_of : EngineState K → Database
  first_of e = Build e.recovered (length e.books)

  -- the database that the history leaves
  abbrev pub database_of : EngineState K → Database
  database_of e = After (first_of e) e.history

  -- the history is legal
  abbrev pub HasLegalHistory : EngineState K → Type 0
  HasLegalHistory e = Legal (first_of e) e.history

-- a keeper that has kept nothing
abbrev pub IsEmpty : Keeper → Type 0
IsEmpty k = IsReady [] k

-- ---- answers

-- an answer that is no reply
abbrev pub is_last : Answer → Bool
is_last DiskFault = true
is_last NoMemory = true
is_last a = false

-- an entry with which the engine gives up
abbrev pub gives_up : Entry → Bool
gives_up x = is_last x.answer && not (is_idle x)

-- it has given up
abbrev pub has_given_up : List Entry → Bool
has_given_up [] = false
has_given_up (x ∷ history) = gives_up x || has_given_up history

-- The entry of an ask. One that is answered Stopped holds Leave.
abbrev pub entry_of : SessionId → Ask → Answer → Entry
entry_of s ask Stopped = record { session = s; ask = Leave; answer = Stopped }
entry_of s ask a = record { session = s; ask = ask; answer = a }

-- With a view the book of it is set aside, which has the code of what it shows; with any other answer none.
abbrev pub HasBook : Answer → Option EditionView → Type 0
HasBook (View v) book = (book ≡ Some v) × IsInOrder v × HasCodeOf v (served v)
HasBook a book = book ≡ None

-- The answer is the reply, and its records were kept; or the engine gives up with it, for a fault of the disk only where the
-- keeper's count of them rose.
abbrev pub IsAnswer : Answer → Replied → Keeper → Keeper → Type 0
IsAnswer DiskFault r old new = GaveUp old new r.records why.DiskFault
IsAnswer NoMemory r old new = GaveUp old new r.records why.NoMemory
IsAnswer Stopped r old new = ⊥
IsAnswer a r old new = (a ≡ r.answer) × Grew old new r.records

-- by whether the entry is idle, for which nothing is kept
abbrev pub Replies : Bool → Answer → Replied → Keeper → Keeper → Type 0
Replies true a r old new = Grew old new []
Replies false a r old new = IsAnswer a r old new

-- Before it gave up it answers as the machine does, or without memory leaves all as it was; and from then on that it has stopped, and
-- keeps nothing.
abbrev pub Gives : {K : Type 0} → (K → Keeper) → Bool → K → K → Ask → Answer → Replied → Type 0
Gives as_keeper false old new q a r = Replies (wants a && is_light q) a r (as_keeper old) (as_keeper new)
Gives as_keeper true old new q a r = (a ≡ Stopped) × (new ≡ old)

-- What comes of an ask: its answer and one entry, in a history that is legal with it. Leave always finds its memory. Other sessions
-- that live stay so, and the session itself unless it leaves or is answered Stopped.
pub record AnswersAsk {K : Type 0} (as_keeper : K → Keeper) (old new : EngineState K) (s : SessionId) (ask : Ask) (a : Answer) : Type 0 where
  pub entry : new.history ≡ old.history ++ entry_of s ask a ∷ []
  pub legal : HasLegalHistory new
  pub recovered : new.recovered ≡ old.recovered
  pub book : Option EditionView
  pub books : new.books ≡ with_book old.books s.0 book
  pub has_book : HasBook a book
  pub leaves : ask ≡ Leave → has_given_up old.history ≡ false → a ≡ Done
  pub others : (r : SessionId) → (r.0 ≡ s.0 → ⊥) → IsLive (database_of old) r → IsLive (database_of new) r
  pub stays : a ≢ Stopped → ask ≢ Leave → IsLive (database_of new) s
  pub gives : Gives as_keeper (has_given_up old.history) old.keeper new.keeper ask a (Reply (database_of old) s ask)
