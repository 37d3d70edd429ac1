-- The asks for transactions, for the transaction on top of a session's stack: what each answers, and what it leaves.
-- Oracle Database SQL Language Reference 19c, COMMIT, ROLLBACK, SAVEPOINT; Database PL/SQL Language Reference 19c,
-- Autonomous Transactions. The limits are own.
use Rattle.std.specs.Prelude.{ℕ, ◌+◌, nat_le, Bool, true, false, List, [], ◌∷◌, Option, Some, None, Result, Ok, Err}
use Rattle.ebr_base.specs.declared.code.Code.{Code}
use Rattle.ebr_base.specs.declared.code.Code.TheVariants.{Ebr}
use Rattle.ebr_base.specs.declared.numbers.SessionId.{SessionId}
use Rattle.ebr_base.specs.declared.row.Change.{Change}
use Rattle.ebr_base.specs.declared.row.TxId.{TxId}
use Rattle.ebr_tx.specs.Data.{Data, own}
use Rattle.ebr_tx.specs.Calls.{unless_refused, after_settle, after_rollback, after_savepoint, back_to_answer, after_back_to, push_refusal, after_push, pop_refusal, after_pop}
use Rattle.ebr_record.specs.declared.record.Record.{Record}
use Rattle.ebr_record.specs.declared.record.Record.TheVariants.{Commit}
use Rattle.ebr_record.specs.Keeper.{share, max_journal}
use Rattle.ebr_database.specs.Base.{Base, with_data}
use Rattle.ebr_database.specs.Outcome.{Outcome, gives, and_then}
use Rattle.ebr_database.specs.Outcome.Question.{Full}

-- done, or refused
abbrev pub Done : Type 0
Done = Result (Unit {0}) Code

abbrev pub done : Done
done = Ok tt

-- ---- what is kept

abbrev pub kept_if : Bool → Record → ℕ → Outcome ℕ Done
kept_if true r used = record { state = used + share r; made = r ∷ []; asked = []; value = done }
kept_if false r used = record { state = used; made = []; asked = Full ∷ []; value = Err (Ebr 42) }

-- A record is made, where the records take so many bytes already; EBR-0042 where it has no room.
abbrev pub keep_record : Record → ℕ → Outcome ℕ Done
keep_record r used = kept_if (nat_le (used + share r) max_journal) r used

-- Of no changes there is no record.
abbrev pub keep_changes : List Change → ℕ → Outcome ℕ Done
keep_changes [] used = gives used done
keep_changes (c ∷ cs) used = keep_record (Commit (c ∷ cs)) used

-- ---- COMMIT

abbrev pub settled : TxId → Data → Done → ℕ → Outcome Base Done
settled t d (Ok u) used = gives (record { data_now = after_settle d t; used = used }) done
settled t d (Err code) used = gives (record { data_now = d; used = used }) (Err code)

-- The record is made and the transaction ends; or it is refused, and stays. A commit without changes makes no record.
abbrev pub commit : TxId → Base → Outcome Base Done
commit t b = and_then (keep_changes (own b.data_now t).changes b.used) (settled t b.data_now)

-- ---- ROLLBACK and savepoints

abbrev pub roll_back : TxId → Base → Outcome Base Done
roll_back t b = gives (with_data (after_rollback b.data_now t) b) done

abbrev pub savepoint : TxId → List ℕ → Base → Outcome Base Done
savepoint t name b = gives (with_data (after_savepoint b.data_now t name) b) done

-- ORA-01086 where there is no savepoint of that name
abbrev pub back_to : TxId → List ℕ → Base → Outcome Base Done
back_to t name b = gives (with_data (after_back_to b.data_now t name) b) (back_to_answer b.data_now t name)

-- ---- autonomous transactions

abbrev pub pushed : Option Code → SessionId → Base → Outcome Base Done
pushed None s b = gives (with_data (after_push b.data_now s) b) done
pushed (Some code) s b = gives b (Err code)

-- A new empty transaction is on top; EBR-0014 where 50 are open.
abbrev pub push : SessionId → Base → Outcome Base Done
push s b = pushed (push_refusal b.data_now s) s b

-- The transaction on top is gone with what it had left; ORA-06519 where it hasn't failed and had something left.
abbrev pub pop : SessionId → Bool → Base → Outcome Base Done
pop s failed b = gives (with_data (after_pop b.data_now s) b) (unless_refused (pop_refusal b.data_now s failed) tt)
