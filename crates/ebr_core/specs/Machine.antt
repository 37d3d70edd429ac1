-- The edition machine: what the database replies to each ask of a session.
use Rattle.std.specs.Prelude.{ℕ, Bool, true, false, if◌then◌else◌, List, [], ◌++◌, Option, Some, None, is_some, Result, Ok, Err, replicate}
use Rattle.std.specs.List.{filter_map}
use Rattle.ebr_base.specs.declared.numbers.EditionNo.{EditionNo}
use Rattle.ebr_base.specs.declared.numbers.SessionId.{SessionId}
use Rattle.ebr_base.specs.declared.code.Code.{Code}
use Rattle.ebr_base.specs.declared.code.Code.TheVariants.{Ora, Ebr}
use Rattle.ebr_base.specs.declared.row.TxId.{TxId}
use Rattle.ebr_base.specs.declared.table.TableDef.{TableDef}
use Rattle.ebr_base.specs.declared.value.Value.{Value}
use Rattle.ebr_ast.specs.declared.definition.Definition.{Definition}
use Rattle.ebr_ast.specs.declared.definition.Definition.TheVariants as definition
use Rattle.ebr_ast.specs.declared.sql.SqlTree.{SqlTree}
use Rattle.ebr_ast.specs.declared.view.EditionView.{EditionView}
use Rattle.ebr_validity.specs.Verdict.{is_valid}
use Rattle.ebr_cross.specs.declared.record.CatalogueRecord.{CatalogueRecord}
use Rattle.ebr_cross.specs.Catalogue.{Lists, table_in}
use Rattle.ebr_cross.specs.Catalogue as catalogue
use Rattle.ebr_cross.specs.Definitions.{outcome, set_edition}
use Rattle.ebr_asks.specs.declared.ask.Ask.{Ask}
use Rattle.ebr_asks.specs.declared.ask.Ask.TheVariants.{Begin, Sql, Commit, Rollback, Savepoint, BackTo, Ddl, SetEdition, PushAuto, PopAuto, EndCall, Leave}
use Rattle.ebr_asks.specs.declared.answer.Answer.{Answer}
use Rattle.ebr_asks.specs.declared.answer.Answer.TheVariants.{View, Done, Invalid, Refused}
use Rattle.ebr_tx.specs.Data.{Data, own}
use Rattle.ebr_tx.specs.Conflicts.{TableHeld}
use Rattle.ebr_tx.specs.Calls.{first_transactions}
use Rattle.ebr_record.specs.declared.record.Record.{Record}
use Rattle.ebr_record.specs.Keeper.{used_by}
use Rattle.ebr_database.specs.Base.{Base}
use Rattle.ebr_database.specs.Outcome.{Outcome, gives, then_run}
use Rattle.ebr_database.specs.Carried.{room_for}
use Rattle.ebr_database.specs.Transact.{keep_record}
use Rattle.ebr_database.specs.Database.{Session, Database, Replied, data_of, base_in, session_at, with_session, after_outcome, counted, on_top, reply_commit, reply_rollback, reply_savepoint, reply_back_to, reply_push, reply_pop}
use Rattle.ebr_seats.specs.Tests.{first_tests}
use Rattle.ebr_seats.specs.Ends.{begun_in, own_of, unchanged, call_opened, reply_end, reply_leave}
use Rattle.ebr_exec.specs.Places.{names_of, own_place}
use Rattle.ebr_exec.specs.Statements.{max_levels}
use Rattle.ebr_bodies.specs.Statements.{Stmt}
use Rattle.ebr_core.specs.Records.{record_of, catalogue_of}

-- ---- databases

-- The database of these records, with n sessions in the default edition, none of which has begun a transaction.
abbrev pub Build : List Record → ℕ → Database
Build records n = record {
  records = records;
  live = first_transactions n;
  locks = [];
  sessions = replicate n (begun_in (catalogue_of records).editions.default);
}

-- the lists of its catalogue
abbrev pub lists_of : Database → Lists
lists_of db = catalogue_of db.records

-- the editions in which sessions are
abbrev pub editions_in_use : Database → List EditionNo
editions_in_use db = filter_map (λ (x : Session). x.edition) db.sessions

-- ---- the cases

abbrev pub refused : Database → Code → Replied
refused db code = unchanged db (Refused code 0 [])

-- A call begins: all that the session's edition sees.
abbrev pub reply_begin : EditionNo → Database → SessionId → Session → Replied
reply_begin e db s x = unchanged (call_opened db s x) (View (catalogue.View (lists_of db) e))

-- A statement with the bodies of its triggers, in the transaction on top of the session's stack. The records are those that the
-- autonomous transactions in these bodies commit.
abbrev pub ran : Database → Outcome Base Answer → Replied
ran db o = record { database = after_outcome db o; answer = o.value; records = o.made; questions = o.asked }

abbrev pub reply_sql : EditionNo → Database → SessionId → Session → SqlTree → List Value → ℕ → Replied
reply_sql e db s x stmt binds left =
    ran db (Stmt (names_of (lists_of db)) max_levels (own_place e (on_top db s)) stmt binds left (room_for x.carried (Sql stmt binds left)) (base_in db))

-- ---- definitions

-- the table that a definition alters or drops
abbrev pub table_changed : Lists → Definition → Option TableDef
table_changed c (definition.AddColumn table column ty) = table_in c table
table_changed c (definition.DropTable name) = table_in c name
table_changed c what = None

-- another live transaction has changes or locks in the table
abbrev pub is_held : Data → TxId → Option TableDef → Bool
is_held d t None = false
is_held d t (Some table) = TableHeld d table.id t

-- What a definition makes, or what refuses it. A table that another transaction holds is neither altered nor dropped (ORA-00054).
abbrev pub defined : Lists → Data → SessionId → EditionNo → List EditionNo → Definition → List ℕ → Result CatalogueRecord Code
defined c d s e sessions what text =
    if is_held d (own_of s) (table_changed c what) then Err (Ora 54) else outcome c e sessions what text

-- Its record is kept; EBR-0042 where the journal has no room for it.
abbrev pub recorded : Result CatalogueRecord Code → ℕ → Outcome ℕ (Result CatalogueRecord Code)
recorded (Ok r) used = then_run (keep_record (record_of r) used) (λ u used'. gives used' (Ok r))
recorded (Err code) used = gives used (Err code)

-- the answer to the creation of an object, by whether it is valid; it is there all the same
abbrev pub creation_answer : Bool → Answer
creation_answer true = Done
creation_answer false = Invalid

-- the answer to a definition, by what the session's edition sees behind it
abbrev pub answer_in : EditionView → Definition → Answer
answer_in v (definition.CreateObject replace u) = creation_answer (is_valid v u)
answer_in v what = Done

abbrev pub definition_answer : List Record → EditionNo → Definition → Result CatalogueRecord Code → Answer
definition_answer records e what (Ok r) = answer_in (catalogue.View (catalogue_of records) e) what
definition_answer records e what (Err code) = Refused code 0 []

abbrev pub defined_by : Database → EditionNo → Definition → Outcome ℕ (Result CatalogueRecord Code) → Replied
defined_by db e what o =
    let records = db.records ++ o.made in
    record { database = record db { records = records }; answer = definition_answer records e what o.value; records = o.made; questions = o.asked }

abbrev pub reply_define : EditionNo → SessionId → Definition → List ℕ → Database → Replied
reply_define e s what text db = defined_by db e what (recorded (defined (lists_of db) (data_of db) s e (editions_in_use db) what text) (used_by db.records))

-- the second reply, behind what the first one made
abbrev pub behind : Replied → Replied → Replied
behind first r = record r { records = first.records ++ r.records; questions = first.questions ++ r.questions }

-- unless the first is refused
abbrev pub then_reply : Answer → Replied → (Database → Replied) → Replied
then_reply Done first next = behind first (next first.database)
then_reply a first next = first

-- A definition commits the session's transaction first, and that stays where the definition is refused.
abbrev pub reply_ddl : EditionNo → Database → SessionId → Session → Definition → List ℕ → Replied
reply_ddl e db s x what text =
    let first = reply_commit db s x in
    then_reply first.answer first (reply_define e s what text)

-- ---- the session's edition

-- The edition of that name, from now on; EBR-0016 where the session's transaction has begun.
abbrev pub edition_found : Database → SessionId → List ℕ → Result EditionNo Code
edition_found db s name =
    if is_some (own (data_of db) (own_of s)).begun then Err (Ebr 16) else set_edition (lists_of db).editions.made name

abbrev pub edition_set : Database → SessionId → Session → Result EditionNo Code → Replied
edition_set db s x (Ok e) = unchanged (with_session db s (record x { edition = Some e })) Done
edition_set db s x (Err code) = refused db code

abbrev pub reply_set : Database → SessionId → Session → List ℕ → Replied
reply_set db s x name = edition_set db s x (edition_found db s name)

-- ---- the whole

-- the reply to a session in its edition, behind the first tests
abbrev pub reply_in : EditionNo → Database → SessionId → Session → Ask → Replied
reply_in e db s x Begin = reply_begin e db s x
reply_in e db s x (Sql stmt binds left) = reply_sql e db s x stmt binds left
reply_in e db s x Commit = reply_commit db s x
reply_in e db s x Rollback = reply_rollback db s x
reply_in e db s x (Savepoint name) = reply_savepoint db s x name
reply_in e db s x (BackTo name) = reply_back_to db s x name
reply_in e db s x (Ddl what text) = reply_ddl e db s x what text
reply_in e db s x (SetEdition name) = reply_set db s x name
reply_in e db s x PushAuto = reply_push db s x
reply_in e db s x (PopAuto failed) = reply_pop db s x failed
reply_in e db s x (EndCall failed) = reply_end db s x failed
reply_in e db s x Leave = reply_leave db s x

abbrev pub unless_refused : Option Code → Database → Replied → Replied
unless_refused None db r = r
unless_refused (Some code) db r = refused db code

-- Whatever the answer is, the ask is counted, and what it and its answer carry.
abbrev pub counted_in : Database → SessionId → Ask → Answer → Option Session → Database
counted_in db s ask a None = db
counted_in db s ask a (Some x) = with_session db s (counted ask a x)

abbrev pub counting : SessionId → Ask → Replied → Replied
counting s ask r = record r { database = counted_in r.database s ask r.answer (session_at r.database.sessions s.0) }

-- A session that has left is no longer there.
abbrev pub reply_while : Option EditionNo → Database → SessionId → Session → Ask → Replied
reply_while None db s x ask = refused db (Ebr 15)
reply_while (Some e) db s x ask = counting s ask (unless_refused (first_tests db s x ask) db (reply_in e db s x ask))

abbrev pub reply_to : Option Session → Database → SessionId → Ask → Replied
reply_to None db s ask = refused db (Ebr 15)
reply_to (Some x) db s ask = reply_while x.edition db s x ask

-- One ask of one session is one step of the machine.
abbrev pub Reply : Database → SessionId → Ask → Replied
Reply db s ask = reply_to (session_at db.sessions s.0) db s ask
