-- The database as the engine holds it, and what its calls leave.
use Rattle.std.specs.Prelude.{◌≡◌, Bool, true, false, List, [], Option, Some, None, Result, Ok, Err}
use Rattle.ebr_base.specs.declared.code.Code.{Code}
use Rattle.ebr_base.specs.declared.code.Stop.{Stop}
use Rattle.ebr_base.specs.declared.code.Stop.TheVariants.{Raised, NoMemory}
use Rattle.ebr_database.specs.declared.failure.Halt.TheVariants as why
use Rattle.ebr_base.specs.declared.numbers.EditionNo.{EditionNo}
use Rattle.ebr_base.specs.declared.numbers.SessionId.{SessionId}
use Rattle.ebr_ast.specs.declared.view.EditionView.{EditionView}
use Rattle.ebr_ast.specs.Views.{IsInOrder}
use Rattle.ebr_asks.specs.declared.ask.Ask.{Ask}
use Rattle.ebr_seats.specs.Tests.{is_misplaced}
use Rattle.ebr_asks.specs.declared.ask.Ask.TheVariants.{Begin, Sql, Ddl, EndCall, Leave}
use Rattle.ebr_asks.specs.declared.answer.Answer.{Answer}
use Rattle.ebr_asks.specs.declared.answer.Answer.TheVariants.{View, Done, Refused as refused}
use Rattle.ebr_cross.specs.Catalogue.{HaveOwnKeys, as_catalogue}
use Rattle.ebr_record.specs.declared.record.Record.{Record}
use Rattle.ebr_record.specs.Keeper.{Keeper}
use Rattle.ebr_database.specs.declared.failure.Failure.{Failure}
use Rattle.ebr_database.specs.declared.failure.Failure.TheVariants.{Refused, Halted}
use Rattle.ebr_database.specs.declared.failure.Halt.{Halt}
use Rattle.ebr_database.specs.Shows.{Grew, GaveUp}
use Rattle.ebr_database.specs.Database.{Session, Database, Replied, session_at}
use Rattle.ebr_seats.specs.Seats.{Holds as Seated}
use Rattle.ebr_units.specs.Living.{AreCurrent}
use Rattle.ebr_levels.specs.Beginnings.{HasEarly}
use Rattle.ebr_core.specs.declared.current.Current.{Current}
use Rattle.ebr_core.specs.Machine.{lists_of}
use Rattle.ebr_core.specs.inside.Reached.{AreReached}

-- what is done or refused, as an answer
abbrev pub answered : Result (Unit {0}) Failure → Result Answer Halt
answered (Ok u) = Ok Done
answered (Err (Refused code)) = Ok (refused code 0 [])
answered (Err (Halted why)) = Err why

-- with no book
abbrev pub with_nothing : Result Answer Halt → Result (Answer × Option EditionView) Halt
with_nothing (Ok a) = Ok (a, None)
with_nothing (Err why) = Err why

-- what is given again, with a copy of its first part, or no memory for one
abbrev pub Copies : {T B : Type 0} → T × B → Result ((T × B) × T) Halt → Type 0
Copies given (Ok pair) = (pair.0 ≡ given) × (pair.1 ≡ given.0)
Copies given (Err e) = e ≡ why.NoMemory

-- the same of what may not be given
abbrev pub CopiesGiven : {T B : Type 0} → Result (T × B) Halt → Result ((T × B) × T) Halt → Type 0
CopiesGiven (Ok given) result = Copies given result
CopiesGiven (Err e) result = result ≡ Err e

-- a refusal, or want of memory, with which the engine gives up
abbrev pub failed : Result (Unit {0}) Stop → Result (Unit {0}) Failure
failed (Ok u) = Ok u
failed (Err (Raised code)) = Err (Refused code)
failed (Err NoMemory) = Err (Halted why.NoMemory)

-- a refusal as a failure
abbrev pub refused_by : Result (Unit {0}) Code → Result (Unit {0}) Failure
refused_by (Ok u) = Ok u
refused_by (Err code) = Err (Refused code)

-- an ask that is no statement, is answered without a view, and is no Leave
abbrev pub IsPlain : Ask → Type 0
IsPlain Begin = ⊥
IsPlain (Sql stmt binds left) = ⊥
IsPlain Leave = ⊥
IsPlain ask = Unit {0}

-- an ask that is done or refused
abbrev pub IsDone : Ask → Type 0
IsDone (Ddl what text) = ⊥
IsDone (EndCall failed) = ⊥
IsDone ask = IsPlain ask

-- with a view the book of it
abbrev pub IsBookOf : Answer → Option EditionView → Type 0
IsBookOf (View v) book = (book ≡ Some v) × IsInOrder v
IsBookOf answer book = book ≡ None

-- what comes with the answer to an ask
abbrev pub ComesWith : Ask → Answer → Option EditionView → Type 0
ComesWith Begin answer book = IsBookOf answer book
ComesWith ask answer book = book ≡ None

module _ {K : Type 0} (as_keeper : K → Keeper) where
  -- The catalogue is kept of the lists of the database, in which objects stand under their own keys; the views and the books are of
  -- what their editions see; the transactions, the seats and the keeper are those of the database; its records are such as the
  -- machine makes; and none of its transactions began later than now.
  pub record Holds (now : Current K) (db : Database) : Type 0 where
    pub catalogue_is : now.world.catalogue ≡ as_catalogue (lists_of db)
    pub own_keys : HaveOwnKeys (lists_of db)
    pub views_are : AreCurrent (lists_of db) now.views
    pub books_are : AreCurrent (lists_of db) now.world.book
    pub seated : Seated (as_keeper now.world.keeper).used now.world.tx.contents now.seats.items db
    pub reached : AreReached db.records
    pub early : HasEarly db

  -- the keeper at a moment
  abbrev pub keeper_of : Current K → Keeper
  keeper_of now = as_keeper now.world.keeper

  -- The session is this one, in this edition.
  pub record HasSession (db : Database) (s : SessionId) (e : EditionNo) (x : Session) : Type 0 where
    pub there : session_at db.sessions s.0 ≡ Some x
    pub edition : x.edition ≡ Some e

  -- This is so of whichever database is held, in which the session is this one.
  abbrev pub ForSession : Current K → SessionId → (Database → EditionNo → Session → Type 0) → Type 0
  ForSession now s P = (db : Database) (e : EditionNo) (x : Session) → Holds now db → HasSession db s e x → P db e x

  -- There is such a database.
  pub record IsHeld (now : Current K) (s : SessionId) : Type 0 where
    pub database : Database
    pub edition : EditionNo
    pub session : Session
    pub holds : Holds now database
    pub has : HasSession database s edition session

  -- The answer is the reply's, its records were kept, and its database is held.
  pub record IsReplied (old new : Current K) (a : Answer) (r : Replied) : Type 0 where
    pub answer : a ≡ r.answer
    pub grew : Grew (keeper_of old) (keeper_of new) r.records
    pub holds : Holds new r.database

  -- what a call replies that may give up
  abbrev pub Replies : Current K → Current K → Result Answer Halt → Replied → Type 0
  Replies old new (Ok a) r = IsReplied old new a r
  Replies old new (Err why) r = GaveUp (keeper_of old) (keeper_of new) r.records why

  abbrev pub RepliesGiven : Current K → Current K → Result (Answer × Option EditionView) Halt → Replied → Type 0
  RepliesGiven old new (Ok given) r = IsReplied old new given.0 r
  RepliesGiven old new (Err why) r = GaveUp (keeper_of old) (keeper_of new) r.records why

  -- All is held as before, and nothing was kept.
  pub record IsUntouched (old new : Current K) (db : Database) : Type 0 where
    pub holds : Holds new db
    pub grew : Grew (keeper_of old) (keeper_of new) []

  -- What becomes of an ask without memory for it, or with a fault of the disk: a light one leaves all as it was, and with any other one
  -- the engine gives up.
  abbrev pub Fails : Bool → Current K → Current K → Database → List Record → Halt → Type 0
  Fails true old new db made why = IsUntouched old new db
  Fails false old new db made why = GaveUp (keeper_of old) (keeper_of new) made why

  -- what a try to reply gives, with a copy of the answer
  abbrev pub Tries : Bool → Current K → Current K → Database → Result ((Answer × Option EditionView) × Answer) Halt → Replied → Type 0
  Tries light old new db (Ok told) r = IsReplied old new told.0.0 r × (told.1 ≡ told.0.0)
  Tries light old new db (Err why) r = Fails light old new db r.records why

  -- The ask stands in the right place.
  abbrev pub IsPlaced : Current K → SessionId → Ask → Type 0
  IsPlaced now s ask = (db : Database) (e : EditionNo) (x : Session) → Holds now db → HasSession db s e x → is_misplaced db s x ask ≡ false
