-- What a statement answers, and what it leaves: its tests in order, and then its rows one after the other, with the bodies of its
-- triggers.
-- Oracle Database SQL Language Reference 19c, SELECT, INSERT, UPDATE, DELETE; Database PL/SQL Language Reference 19c, Triggers, and
-- Mutating-Table Restriction. The order of the tests, APPLY TRIGGER, and the codes of this server (EBR), are own.
use Rattle.std.specs.Prelude.{ℕ, zero, suc, Bool, true, not, List, [], ◌∷◌, ◌++◌, map, is_some, Result, Ok, Err}
use Rattle.std.specs.List.{list_any}
use Rattle.ebr_base.specs.declared.code.Code.{Code}
use Rattle.ebr_base.specs.declared.code.Code.TheVariants.{Ora}
use Rattle.ebr_base.specs.declared.numbers.TableId.{TableId}
use Rattle.ebr_base.specs.declared.row.TxId.{TxId}
use Rattle.ebr_base.specs.declared.table.TableDef.{TableDef}
use Rattle.ebr_base.specs.declared.value.Value.{Value}
use Rattle.ebr_ast.specs.declared.kinds.Timing.TheVariants as timing
use Rattle.ebr_ast.specs.declared.sql.SqlTree.{SqlTree}
use Rattle.ebr_ast.specs.declared.sql.SqlTree.TheVariants as sql
use Rattle.ebr_ast.specs.declared.view.EditionView.{EditionView}
use Rattle.ebr_asks.specs.declared.answer.Answer.{Answer}
use Rattle.ebr_asks.specs.declared.answer.Answer.TheVariants.{Count, Refused}
use Rattle.ebr_sqlcheck.specs.Checked.{must, on}
use Rattle.ebr_sqlcheck.specs.Statements.{checked_with}
use Rattle.ebr_tx.specs.Data.{Data}
use Rattle.ebr_tx.specs.Calls.{after_begin, after_mark, mark_of}
use Rattle.ebr_query.specs.Queries.{Query}
use Rattle.ebr_dml.specs.Plans.{trigger_table}
use Rattle.ebr_dml.specs.Steps.{DmlState, started}
use Rattle.ebr_database.specs.Base.{Base, with_data}
use Rattle.ebr_database.specs.Outcome.{Outcome, gives, after, and_then, go_on}
use Rattle.ebr_exec.specs.Places.{Names, Place, Under, id_of, is_changing, touched, target, questions_on}
use Rattle.ebr_exec.specs.Statements.{Statements, ended, query_ran, refused}
use Rattle.ebr_bodies.specs.Ready.{Ready, applied, operation, ready_at}
use Rattle.ebr_bodies.specs.Bodies.{Site, Doing}
use Rattle.ebr_bodies.specs.Rows.{Work, rows_of}

-- ---- its tables

abbrev pub written_by : Result TableDef Code → List TableId
written_by (Ok table) = id_of table ∷ []
written_by (Err code) = []

-- The tables that a statement reads or writes. APPLY TRIGGER writes the table of its trigger.
abbrev pub tables_of : EditionView → SqlTree → List TableId
tables_of v (sql.Apply name) = written_by (trigger_table v name)
tables_of v s = touched v s

-- A statement of the same transaction is changing a table that this one reads or writes.
abbrev pub is_mutating : EditionView → Place → SqlTree → Bool
is_mutating v p s = list_any (is_changing p.tx (tables_of v s)) p.changing

abbrev pub under : TxId → TableId → Under
under t table = record { table = table; tx = t }

-- the tables under change around the bodies of a statement: those around it, and its own
abbrev pub changing_in : EditionView → Place → SqlTree → List Under
changing_in v p s = p.changing ++ map (under p.tx) (tables_of v s)

-- APPLY TRIGGER is of a forward crossedition trigger that is there.
abbrev pub is_appliable : EditionView → SqlTree → Bool
is_appliable v (sql.Apply name) = is_some (applied v name)
is_appliable v s = true

-- ---- a change

-- A change that may begin: the rows to come, and the triggers.
pub record Start : Type 0 where
  pub standing : DmlState
  pub before : List Ready
  pub after : List Ready

abbrev pub start_of : DmlState → List Ready → List Ready → Result Start Code
start_of standing before after = Ok (record { standing = standing; before = before; after = after })

-- Its rows, in a transaction that has begun: refused with ORA-04043, and then with EBR-0013.
abbrev pub rows_started : Names → Place → SqlTree → List Value → Data → Result DmlState Code
rows_started names p s binds d =
    on (λ u. started d p.tx (names.view p.edition) s binds) (must (Ora 4043) (is_appliable (names.view p.edition) s))

-- Its triggers: ORA-04098 where one of either timing is invalid.
abbrev pub triggers_ready : Names → Place → SqlTree → DmlState → Result Start Code
triggers_ready names p s standing = on (λ before. on (start_of standing before) (ready_at names p timing.After s)) (ready_at names p timing.Before s)

abbrev pub site_of : Statements → Names → Place → SqlTree → ℕ → Site
site_of deeper names p s left = record {
  view = names.view;
  deeper = deeper;
  tx = p.tx;
  changing = changing_in (names.view p.edition) p s;
  left = left;
}

abbrev pub work_of : SqlTree → Start → Work
work_of s k = record { plan = k.standing.plan; binds = k.standing.binds; operation = operation s; before = k.before; after = k.after }

abbrev pub run_rows : Statements → Names → Place → SqlTree → ℕ → Start → Doing → Outcome Doing (Result ℕ Code)
run_rows deeper names p s left k σ = rows_of (site_of deeper names p s left) (work_of s k) k.standing.rest σ

-- No body has run.
abbrev pub first_doing : Base → ℕ → Doing
first_doing b room = record { base = b; steps = 0; room = room; lines = [] }

-- the transaction is as it was before
abbrev pub undone : TxId → Base → Base → Base
undone t before b = with_data (after_mark b.data_now t (mark_of before.data_now t)) b

-- The first refusal undoes the statement. The records of autonomous transactions, the steps and the lines stay.
abbrev pub finished : TxId → Base → Result ℕ Code → Doing → Outcome Base Answer
finished t before (Ok n) σ = gives σ.base (Count n σ.steps σ.lines)
finished t before (Err code) σ = gives (undone t before σ.base) (Refused code σ.steps σ.lines)

-- the transaction begins, where it hasn't begun
abbrev pub begun : Place → Base → Base
begun p b = with_data (after_begin b.data_now p.tx) b

-- The triggers of a change whose rows have started, and its rows. It is asked here which triggers fire, and nowhere before.
abbrev pub fired_ran : Statements → Names → Place → SqlTree → ℕ → DmlState → Doing → Outcome Doing (Result ℕ Code)
fired_ran deeper names p s left standing σ =
    after [] (questions_on p (target s)) (go_on (run_rows deeper names p s left) (triggers_ready names p s standing) σ)

-- what starts in the transaction, and its rows
abbrev pub begun_ran : Statements → Names → Place → SqlTree → List Value → ℕ → Doing → Outcome Doing (Result ℕ Code)
begun_ran deeper names p s binds left σ = go_on (fired_ran deeper names p s left) (rows_started names p s binds σ.base.data_now) σ

abbrev pub change_ran : Statements → Names → Place → SqlTree → List Value → ℕ → ℕ → Base → Outcome Base Answer
change_ran deeper names p s binds left room b = and_then (begun_ran deeper names p s binds left (first_doing (begun p b) room)) (finished p.tx b)

-- ---- a statement

-- behind the tests of names
abbrev pub checked_ran : Statements → Names → Place → SqlTree → List Value → ℕ → ℕ → Base → Outcome Base Answer
checked_ran deeper names p (sql.Query q) binds left room b =
    ended b (query_ran p room (Query q (after_begin b.data_now p.tx) p.tx (names.view p.edition) binds))
checked_ran deeper names p s binds left room b = change_ran deeper names p s binds left room b

-- Where a test of names refuses, all is as before.
abbrev pub unless_refused : Result (Unit {0}) Code → Base → Outcome Base Answer → Outcome Base Answer
unless_refused (Ok u) b o = o
unless_refused (Err code) b o = gives b (refused code)

-- the checks against what its edition sees, and ORA-04091
abbrev pub name_tests : Names → Place → SqlTree → List Value → Result (Unit {0}) Code
name_tests names p s binds =
    on (λ u. must (Ora 4091) (not (is_mutating (names.view p.edition) p s))) (checked_with (names.view p.edition) binds s)

-- The tests of a statement come in this order: its checks; ORA-04091; ORA-04043, which is of APPLY TRIGGER alone; EBR-0013, which
-- APPLY TRIGGER never meets; ORA-04098, for which it is asked which triggers fire. Then come its rows. The transaction begins with it,
-- and a statement that is refused takes this back.
abbrev pub at_level : Statements → Names → Statements
at_level deeper names p s binds left room b = unless_refused (name_tests names p s binds) b (checked_ran deeper names p s binds left room b)

-- With so many levels left. A statement that finds none is ORA-00036. The bodies of its triggers run statements one level deeper.
abbrev pub Stmt : Names → ℕ → Statements
Stmt names zero p s binds left room b = gives b (refused (Ora 36))
Stmt names (suc n) p s binds left room b = at_level (Stmt names n) names p s binds left room b
