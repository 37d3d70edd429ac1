-- The beginning and the end of a call, and the end of a session.
use Rattle.std.specs.Prelude.{ℕ, zero, suc, Bool, true, [], Option, Some, None}
use Rattle.ebr_base.specs.declared.numbers.EditionNo.{EditionNo}
use Rattle.ebr_base.specs.declared.numbers.SessionId.{SessionId}
use Rattle.ebr_base.specs.declared.row.TxId.{TxId}
use Rattle.ebr_asks.specs.declared.answer.Answer.{Answer}
use Rattle.ebr_asks.specs.declared.answer.Answer.TheVariants.{Done}
use Rattle.ebr_tx.specs.declared.savepoints.TxMark.{TxMark}
use Rattle.ebr_tx.specs.Data.{Data, named_at}
use Rattle.ebr_tx.specs.Calls.{levels, mark_of, after_mark, after_pop, after_rollback}
use Rattle.ebr_database.specs.Database.{Session, Database, Replied, data_of, with_session}

-- a session that has done nothing, in an edition
abbrev pub begun_in : EditionNo → Session
begun_in e = record { edition = Some e; call = None; asks = 0; carried = 0 }

-- the session's own transaction, at the bottom of its stack
abbrev pub own_of : SessionId → TxId
own_of s = named_at s 0

-- an answer that leaves this database, and no record
abbrev pub unchanged : Database → Answer → Replied
unchanged db a = record { database = db; answer = a; records = []; questions = [] }

-- the database with other transactions and locks
abbrev pub with_live : Database → Data → Database
with_live db d = record db { live = d.live; locks = d.locks }

-- A call is open, whose mark is what the session's transaction is.
abbrev pub call_opened : Database → SessionId → Session → Database
call_opened db s x = with_session db s (record x { call = Some (mark_of (data_of db) (own_of s)) })

-- where the call failed, the session's transaction goes back to the mark
abbrev pub back_where : Bool → Option TxMark → TxId → Data → Data
back_where true (Some m) t d = after_mark d t m
back_where failed m t d = d

abbrev pub reply_end : Database → SessionId → Session → Bool → Replied
reply_end db s x failed =
    unchanged (with_session (with_live db (back_where failed x.call (own_of s) (data_of db))) s (record x { call = None })) Done

-- so many autonomous transactions are closed, from the top down, and what they left is undone
abbrev pub closed_from_top : ℕ → SessionId → Data → Data
closed_from_top zero s d = d
closed_from_top (suc n) s d = closed_from_top n s (after_pop d s)

-- All that the session's transactions have done is undone.
abbrev pub all_undone : SessionId → Data → Data
all_undone s d = after_rollback (closed_from_top (levels d s) s d) (own_of s)

abbrev pub reply_leave : Database → SessionId → Session → Replied
reply_leave db s x =
    unchanged (with_session (with_live db (all_undone s (data_of db))) s (record x { edition = None; call = None })) Done
