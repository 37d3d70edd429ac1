-- Where sessions stand, as the code has it.
use Rattle.std.specs.Prelude.{◌≡◌, ◌≤◌, Bool, true, false, length, option_map, ℕ, zero, suc, min, ◌+◌, List, [], ◌∷◌, ◌++◌, Option, Some, None, IfSome, slice_get, slice_set, replicate, ◌-◌, Result, Ok, Err}
use Rattle.ebr_base.specs.declared.code.Stop.{Stop}
use Rattle.ebr_base.specs.declared.code.Stop.TheVariants.{Raised, NoMemory}
use Rattle.ebr_tx.specs.declared.savepoints.TxMark.{TxMark}
use Rattle.ebr_base.specs.declared.numbers.EditionNo.{EditionNo}
use Rattle.ebr_base.specs.declared.numbers.SessionId.{SessionId}
use Rattle.ebr_base.specs.declared.row.TxId.{TxId}
use Rattle.ebr_asks.specs.declared.answer.Answer.{Answer}
use Rattle.ebr_tx.specs.Data.{Data, names_of, stack_of, named_at}
use Rattle.ebr_tx.specs.Calls.{IsMarkOf, first_transactions}
use Rattle.ebr_record.specs.Keeper.{Keeper, used_by}
use Rattle.ebr_database.specs.declared.failure.Failure.{Failure}
use Rattle.ebr_database.specs.declared.failure.Failure.TheVariants.{Refused, Halted}
use Rattle.ebr_database.specs.Storable.{AllStorable}
use Rattle.ebr_database.specs.Shows.{Grew, GaveUp}
use Rattle.ebr_database.specs.Database.{Session, Database, Replied, data_of, session_at, as_answer, empty_mark, moved_back}
use Rattle.ebr_seats.specs.declared.seat.Seat.{Seat}
use Rattle.ebr_seats.specs.Tests.{max_asks}
use Rattle.ebr_seats.specs.Ends.{begun_in}

-- where a weight isn't counted further, since it is more than a session carries
abbrev pub too_much : ℕ
too_much = 16777217

-- the seat of a session that has done nothing
abbrev pub first_seat : EditionNo → Seat
first_seat e = record { edition = Some e; call = None; levels = 0; asks = 0; carried = 0 }

-- the seat of a number; none has the number 0
abbrev pub seat_at : List Seat → ℕ → Option Seat
seat_at seats zero = None
seat_at seats (suc n) = slice_get seats n

-- the seats with another one of a session
abbrev pub with_seat : List Seat → SessionId → Seat → List Seat
with_seat seats s seat = slice_set seats (s.0 - 1) seat

-- the names of a session's own transaction and of so many autonomous ones above it
abbrev pub stack_to : SessionId → ℕ → List TxId
stack_to s zero = named_at s 0 ∷ []
stack_to s (suc n) = stack_to s n ++ named_at s (suc n) ∷ []

-- the seat is there
pub record HasSeat (seats : List Seat) (s : SessionId) : Type 0 where
  pub first : 1 ≤ s.0
  pub last : s.0 ≤ length seats

-- where the session's own transaction ended, the mark of an open call is the empty one
abbrev pub ended_if : Bool → Seat → Seat
ended_if true seat = record seat { call = option_map (λ m. empty_mark) seat.call }
ended_if false seat = seat

-- where the session's own transaction went back, a mark that lies later moves back
abbrev pub moved_if : Bool → TxMark → Seat → Seat
moved_if true now seat = record seat { call = option_map (moved_back now) seat.call }
moved_if false now seat = seat

-- one ask more, which weighs so much with its answer
abbrev pub counted_seat : ℕ → ℕ → Seat → Seat
counted_seat asked answered seat = record seat {
  asks = min seat.asks 49999 + 1;
  carried = min (min seat.carried too_much + min asked too_much + min answered too_much) too_much;
}

-- The seat is that of the session. Its numbers are counted no further than what is tested of them.
pub record IsSeatOf (d : Data) (s : SessionId) (seat : Seat) (x : Session) : Type 0 where
  pub edition : seat.edition ≡ x.edition
  pub call : seat.call ≡ x.call
  pub asks : seat.asks ≡ min max_asks x.asks
  pub carried : seat.carried ≡ min too_much x.carried
  pub stack : stack_of (names_of d.live) s ≡ stack_to s seat.levels
  pub mark : IfSome x.call (IsMarkOf d (named_at s 0))
  pub closed : x.call ≡ None → seat.levels ≡ 0

abbrev pub Sits : Data → SessionId → Option Seat → Option Session → Type 0
Sits d s None None = Unit {0}
Sits d s (Some seat) (Some x) = IsSeatOf d s seat x
Sits d s seat x = ⊥

-- The data are those of the database, its records take so many bytes, and the seats are those of its sessions.
pub record Holds (used : ℕ) (d : Data) (seats : List Seat) (db : Database) : Type 0 where
  pub data_is : d ≡ data_of db
  pub used_is : used ≡ used_by db.records
  pub storable : AllStorable d
  pub sit : (s : SessionId) → Sits d s (seat_at seats s.0) (session_at db.sessions s.0)

-- This is so of whichever database is held, in which the session is this one.
abbrev pub ForSession : Data → List Seat → SessionId → (ℕ → Database → Session → Type 0) → Type 0
ForSession d seats s P = (used : ℕ) (db : Database) (x : Session) → Holds used d seats db → session_at db.sessions s.0 ≡ Some x → P used db x

-- The seats are those of the first sessions of whatever database has no transaction that has begun.
abbrev pub Begin : ℕ → EditionNo → List Seat → Type 0
Begin n e seats = (db : Database) → db.live ≡ first_transactions n → db.sessions ≡ replicate n (begun_in e) → Holds (used_by db.records) (data_of db) seats db

-- There is such a database.
pub record IsHeld (d : Data) (seats : List Seat) (s : SessionId) : Type 0 where
  pub used : ℕ
  pub database : Database
  pub session : Session
  pub holds : Holds used d seats database
  pub there : session_at database.sessions s.0 ≡ Some session

-- The answer is that of the reply, which makes no record, and its database is held.
pub record Leaves (used : ℕ) (d : Data) (seats : List Seat) (a : Answer) (r : Replied) : Type 0 where
  pub answer : a ≡ r.answer
  pub none : r.records ≡ []
  pub holds : Holds used d seats r.database

-- The answer is that of the reply, its records were kept, and its database is held.
pub record Goes (old new : Keeper) (d : Data) (seats : List Seat) (a : Answer) (r : Replied) : Type 0 where
  pub answer : a ≡ r.answer
  pub grew : Grew old new r.records
  pub holds : Holds new.used d seats r.database

-- by what a call answers that may find no memory
abbrev pub LeavesOr : ℕ → Data → List Seat → Result (Unit {0}) Stop → Replied → Type 0
LeavesOr used d seats (Ok u) r = Leaves used d seats (as_answer (Ok u)) r
LeavesOr used d seats (Err (Raised code)) r = Leaves used d seats (as_answer (Err code)) r
LeavesOr used d seats (Err NoMemory) r = Unit {0}

-- by what a call answers
abbrev pub Finishes : Keeper → Keeper → Data → List Seat → Result (Unit {0}) Failure → Replied → Type 0
Finishes old new d seats (Ok u) r = Goes old new d seats (as_answer (Ok u)) r
Finishes old new d seats (Err (Refused code)) r = Goes old new d seats (as_answer (Err code)) r
Finishes old new d seats (Err (Halted why)) r = GaveUp old new r.records why
