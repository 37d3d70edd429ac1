-- The database: the records that were made, the sessions with their live transactions and locks. The catalogue and the data are
-- read off the records in order. And what the asks for transactions do in it.
use Rattle.std.specs.Prelude.{ℕ, zero, suc, ◌-◌, ◌+◌, ◌==◌, nat_lt, ◌||◌, ◌&&◌, Bool, true, false, if◌then◌else◌, List, [], ◌∷◌, ◌++◌, Option, Some, None, option_map, slice_get, slice_set, Ok, Err}
use Rattle.std.specs.List.{filter_map}
use Rattle.ebr_base.specs.declared.numbers.EditionNo.{EditionNo}
use Rattle.ebr_base.specs.declared.numbers.SessionId.{SessionId}
use Rattle.ebr_base.specs.declared.row.Change.{Change}
use Rattle.ebr_base.specs.declared.row.TxId.{TxId}
use Rattle.ebr_asks.specs.declared.ask.Ask.{Ask}
use Rattle.ebr_asks.specs.declared.answer.Answer.{Answer}
use Rattle.ebr_asks.specs.declared.answer.Answer.TheVariants as answer
use Rattle.ebr_versions.specs.declared.table.Table.{Table as Added}
use Rattle.ebr_locks.specs.Locks.{Lock}
use Rattle.ebr_tx.specs.declared.savepoints.TxMark.{TxMark}
use Rattle.ebr_tx.specs.Data.{Transaction, Data, named_at}
use Rattle.ebr_tx.specs.Calls.{mark_of, levels, top}
use Rattle.ebr_record.specs.declared.record.Record.{Record}
use Rattle.ebr_record.specs.declared.record.Record.TheVariants as made
use Rattle.ebr_record.specs.Keeper.{used_by}
use Rattle.ebr_database.specs.Base.{Base}
use Rattle.ebr_database.specs.Carried.{ask_weight, answer_weight}
use Rattle.ebr_database.specs.Outcome.{Question, Outcome}
use Rattle.ebr_database.specs.Transact.{Done, commit, roll_back, savepoint, back_to, push, pop}

-- A session: its edition, or none where it has left; the mark of the call that is open, where one is: what its own transaction
-- was when the call began; how many asks it has made, and what it carries.
pub record Session : Type 0 where
  pub edition : Option EditionNo
  pub call : Option TxMark
  pub asks : ℕ
  pub carried : ℕ

-- Sessions are numbered from 1. The transactions of all sessions stand in one list, in the order in which they were opened; those
-- of one session are its stack, its own the lowest.
pub record Database : Type 0 where
  pub records : List Record
  pub live : List Transaction
  pub locks : List Lock
  pub sessions : List Session

-- ---- what is read off the records

abbrev pub commit_in : Record → Option (List Change)
commit_in (made.Commit changes) = Some changes
commit_in r = None

-- tables are numbered in the order in which they were made, and gone ones are among them
abbrev pub tables_from : ℕ → List Record → List Added
tables_from n [] = []
tables_from n (made.Table name columns key ∷ rest) = record { id = record { 0 = suc n }; key = key } ∷ tables_from (suc n) rest
tables_from n (r ∷ rest) = tables_from n rest

abbrev pub data_of : Database → Data
data_of db = record { commits = filter_map commit_in db.records; tables = tables_from 0 db.records; live = db.live; locks = db.locks }

-- what statements and transactions stand on
abbrev pub base_in : Database → Base
base_in db = record { data_now = data_of db; used = used_by db.records }

-- the database after an outcome: the records that it made are there, and the transactions and locks are those that it left
abbrev pub after_outcome : {A : Type 0} → Database → Outcome Base A → Database
after_outcome db o = record db { records = db.records ++ o.made; live = o.state.data_now.live; locks = o.state.data_now.locks }

-- ---- the sessions

-- the session of a number; none has the number 0
abbrev pub session_at : List Session → ℕ → Option Session
session_at sessions zero = None
session_at sessions (suc n) = slice_get sessions n

abbrev pub with_session : Database → SessionId → Session → Database
with_session db s x = record db { sessions = slice_set db.sessions (s.0 - 1) x }

-- Whatever the answer is, the ask is counted, and what it and its answer carry.
abbrev pub counted : Ask → Answer → Session → Session
counted ask a x = record x { asks = x.asks + 1; carried = x.carried + (ask_weight ask + answer_weight a) }

-- ---- the mark of a call

-- the mark of a transaction that has done nothing
abbrev pub empty_mark : TxMark
empty_mark = record { begun = None; changes = 0; locks = 0; savepoints = [] }

-- no autonomous transaction is above the session's own
abbrev pub own_on_top : Data → SessionId → Bool
own_on_top d s = levels d s == 0

-- where its own transaction ended, the mark is the empty one
abbrev pub at_end : Bool → Session → Session
at_end true x = record x { call = option_map (λ m. empty_mark) x.call }
at_end false x = x

abbrev pub is_done : Done → Bool
is_done (Ok u) = true
is_done (Err code) = false

-- a mark that lies later than where the transaction now is moves back to there
abbrev pub moved_back : TxMark → TxMark → TxMark
moved_back now m = if nat_lt now.changes m.changes || nat_lt now.locks m.locks then now else m

abbrev pub at_back : Bool → TxMark → Session → Session
at_back true now x = record x { call = option_map (moved_back now) x.call }
at_back false now x = x

-- ---- the asks for transactions

-- the new database, the answer, the records made, and what was asked of the catalogue and the keeper
pub record Replied : Type 0 where
  pub database : Database
  pub answer : Answer
  pub records : List Record
  pub questions : List Question

-- done, or refused
abbrev pub as_answer : Done → Answer
as_answer (Ok u) = answer.Done
as_answer (Err code) = answer.Refused code 0 []

-- what an outcome replies, where the session is then this
abbrev pub replied : Database → SessionId → Session → Outcome Base Done → Replied
replied db s x o = record { database = with_session (after_outcome db o) s x; answer = as_answer o.value; records = o.made; questions = o.asked }

abbrev pub on_top : Database → SessionId → TxId
on_top db s = top (data_of db) s

abbrev pub ended_by : Database → SessionId → Session → Outcome Base Done → Replied
ended_by db s x o = replied db s (at_end (own_on_top (data_of db) s && is_done o.value) x) o

abbrev pub reply_commit : Database → SessionId → Session → Replied
reply_commit db s x = ended_by db s x (commit (on_top db s) (base_in db))

abbrev pub reply_rollback : Database → SessionId → Session → Replied
reply_rollback db s x = ended_by db s x (roll_back (on_top db s) (base_in db))

abbrev pub reply_savepoint : Database → SessionId → Session → List ℕ → Replied
reply_savepoint db s x name = replied db s x (savepoint (on_top db s) name (base_in db))

abbrev pub went_back : Database → SessionId → Session → Outcome Base Done → Replied
went_back db s x o = replied db s (at_back (own_on_top (data_of db) s) (mark_of o.state.data_now (named_at s 0)) x) o

abbrev pub reply_back_to : Database → SessionId → Session → List ℕ → Replied
reply_back_to db s x name = went_back db s x (back_to (on_top db s) name (base_in db))

abbrev pub reply_push : Database → SessionId → Session → Replied
reply_push db s x = replied db s x (push s (base_in db))

-- an autonomous transaction is open
abbrev pub reply_pop : Database → SessionId → Session → Bool → Replied
reply_pop db s x failed = replied db s x (pop s failed (base_in db))
