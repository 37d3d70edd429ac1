-- What holds of a database at all times, so that the next record that it makes is allowed.
use Rattle.std.specs.Prelude.{◌≡◌, ◌++◌, ℕ, true, IfSome, List, None, length, Some}
use Rattle.ebr_base.specs.declared.numbers.SessionId.{SessionId}
use Rattle.ebr_base.specs.declared.table.TableDef.{TableDef}
use Rattle.ebr_asks.specs.declared.ask.Ask.{Ask}
use Rattle.ebr_asks.specs.declared.entry.Entry.{Entry}
use Rattle.ebr_editions.specs.declared.entry.EditionEntry.{EditionEntry}
use Rattle.ebr_editions.specs.Editions.{is_living}
use Rattle.ebr_tx.specs.declared.savepoints.TxMark.{TxMark}
use Rattle.ebr_tx.specs.Data.{Data, names_of, stack_of}
use Rattle.ebr_record.specs.declared.record.Record.{Record}
use Rattle.ebr_database.specs.Database.{Database, Session, data_of, session_at}
use Rattle.ebr_seats.specs.Seats.{stack_to}
use Rattle.ebr_levels.specs.Keeps.{AreEarly, IsEarly}
use Rattle.ebr_integrity.specs.Integrity.{IsIntact}
use Rattle.ebr_core.specs.Asked.{AreFit, IsFit}
use Rattle.ebr_core.specs.History.{After, Records}
use Rattle.ebr_core.specs.Machine.{Build, Reply, lists_of}
use Rattle.ebr_allowed.specs.Allowed.{AreAllowed}

-- A mark of a call: of a transaction that had begun at no more commits than so many, or had no change.
pub record MarkStands (count : ℕ) (m : TxMark) : Type 0 where
  pub early : IsEarly m.begun count
  pub first : m.begun ≡ None → m.changes ≡ 0

-- A session's own transaction is at the bottom of its stack, alone where no call is open; its edition lives.
pub record SessionStands (editions : List EditionEntry) (d : Data) (s : SessionId) (x : Session) : Type 0 where
  pub depth : ℕ
  pub stack : stack_of (names_of d.live) s ≡ stack_to s depth
  pub closed : x.call ≡ None → depth ≡ 0
  pub mark : IfSome x.call (MarkStands (length d.commits))
  pub lives : IfSome x.edition (λ e. is_living editions e ≡ true)

abbrev pub living_in : Database → List TableDef
living_in db = (lists_of db).tables.living

-- The records are allowed, the data have their integrity, and the sessions stand.
pub record IsConsistent (db : Database) : Type 0 where
  pub records : AreAllowed db.records
  pub fit : IsIntact (living_in db) (data_of db)
  pub early : AreEarly (data_of db)
  pub sessions : (s : SessionId) (x : Session) → session_at db.sessions s.0 ≡ Some x → SessionStands (lists_of db).editions.made (data_of db) s x

-- So is a database of allowed records in which nothing was asked, ..
abbrev pub FirstIsConsistent : Type 0
FirstIsConsistent = (records : List Record) (n : ℕ) → AreAllowed records → IsConsistent (Build records n)

-- .. and whatever it is asked leaves it so. The reply's records stand behind those that there were.
pub record RepliesWell (db : Database) (s : SessionId) (ask : Ask) : Type 0 where
  pub consistent : IsConsistent (Reply db s ask).database
  pub records : (Reply db s ask).database.records ≡ db.records ++ (Reply db s ask).records

abbrev pub RepliesAreAllowed : Type 0
RepliesAreAllowed = (db : Database) (s : SessionId) (ask : Ask) → IsFit ask → IsConsistent db → RepliesWell db s ask

-- ---- histories

-- Whatever a history asks, the database that it leaves is consistent, and the records stand behind those that there were.
pub record LeavesConsistent (db : Database) (history : List Entry) : Type 0 where
  pub consistent : IsConsistent (After db history)
  pub records : (After db history).records ≡ db.records ++ Records db history

abbrev pub HistoriesAreAllowed : Type 0
HistoriesAreAllowed = (db : Database) (history : List Entry) → AreFit history → IsConsistent db → LeavesConsistent db history

-- What a stop leaves of all these records, the first of them, is allowed, so a database is made of it again.
abbrev pub FirstRecordsAreAllowed : Type 0
FirstRecordsAreAllowed = (recovered : List Record) (n : ℕ) (history : List Entry) (kept more : List Record) → AreAllowed recovered → AreFit history
    → recovered ++ Records (Build recovered n) history ≡ kept ++ more → AreAllowed kept
