-- Every reply is the same in all databases that differ in their catalogues alone and agree for the ask, and what it leaves shows the
-- session's edition the same.
use Rattle.std.proofs.Common.{◌≡◌, ℕ, ◌+◌, Bool, true, false, List, [], ◌∷◌, ◌++◌, length, refl, sym, ap, subst, ◌∙◌, append-nil}
use Rattle.std.specs.Prelude.{Option, Some, None, Result, Ok, Err, if◌then◌else◌, nat_le}
use Rattle.ebr_base.specs.declared.code.Code.{Code}
use Rattle.ebr_base.specs.declared.code.Code.TheVariants.{Ora}
use Rattle.ebr_base.specs.declared.numbers.EditionNo.{EditionNo}
use Rattle.ebr_base.specs.declared.numbers.SessionId.{SessionId}
use Rattle.ebr_base.specs.declared.table.TableDef.{TableDef}
use Rattle.ebr_base.specs.declared.value.Value.{Value}
use Rattle.ebr_base.specs.Keys.{table_named}
use Rattle.ebr_ast.specs.declared.definition.Definition.{Definition}
use Rattle.ebr_ast.specs.declared.definition.Definition.TheVariants as definition
use Rattle.ebr_ast.specs.declared.sql.SqlTree.{SqlTree}
use Rattle.ebr_ast.specs.declared.view.EditionView.{EditionView}
use Rattle.ebr_asks.specs.declared.ask.Ask.{Ask}
use Rattle.ebr_asks.specs.declared.ask.Ask.TheVariants as ask
use Rattle.ebr_asks.specs.declared.answer.Answer.{Answer}
use Rattle.ebr_asks.specs.declared.answer.Answer.TheVariants as answer
use Rattle.ebr_tables.specs.Tables.{AllTables}
use Rattle.ebr_tx.specs.Calls.{push_refusal}
use Rattle.ebr_tx.specs.Data.{Data}
use Rattle.ebr_cross.specs.declared.record.CatalogueRecord.{CatalogueRecord}
use Rattle.ebr_cross.specs.Catalogue.{View}
use Rattle.ebr_cross.specs.Definitions.{outcome}
use Rattle.ebr_record.specs.declared.record.Record.{Record}
use Rattle.ebr_record.specs.Keeper.{max_journal, share, used_by}
use Rattle.ebr_database.specs.Base.{Base}
use Rattle.ebr_database.specs.Carried.{room_for}
use Rattle.ebr_database.specs.Database.{Session, Database, Replied, data_of, base_in, on_top, reply_commit, session_at, counted}
use Rattle.ebr_database.specs.Outcome.{Outcome, Question, gives, then_run}
use Rattle.ebr_database.specs.Transact.{commit, kept_if, pushed}
use Rattle.ebr_exec.specs.Places.{names_of, own_place}
use Rattle.ebr_exec.specs.Statements.{max_levels}
use Rattle.ebr_seats.specs.Ends.{own_of}
use Rattle.ebr_seats.specs.Tests.{first_tests}
use Rattle.ebr_bodies.specs.Agree.{NeverFull}
use Rattle.ebr_bodies.specs.OtherDatabases.{DifferInCatalogue, RepliesSame}
use Rattle.ebr_bodies.specs.OtherWorlds.{at_used}
use Rattle.ebr_bodies.proofs.Apart.{Same}
use Rattle.ebr_bodies.proofs.ApartReplies.{after_same, data_same, session_same, tests_same, commit_replies, rollback_replies, savepoint_replies, back_to_replies, push_replies, pop_replies, opened_same, end_replies, leave_replies}
use Rattle.ebr_bodies.proofs.Questions.{never_back, never_front}
use Rattle.ebr_bodies.proofs.StatementReplies.{statement_in, statement_same}
use Rattle.ebr_core.specs.Apart.{AgreeFor, AgreeToDefine, EndsAlike, SeesAlike}
use Rattle.ebr_core.specs.Machine.{counted_in, counting, defined, defined_by, definition_answer, answer_in, editions_in_use, is_held, lists_of, recorded, reply_define, reply_in, reply_to, reply_while, table_changed, then_reply, unless_refused, Reply}
use Rattle.ebr_core.specs.Records.{after_record, catalogue_of, record_of}
use Rattle.ebr_core.proofs.DefinedAlike.{left_same, outcome_same, sees, tables_same}
use Rattle.ebr_core.proofs.KnownTables.{made_is}
use Rattle.ebr_core.proofs.MadeRecords.{commit_makes, same_lists}
use Rattle.ebr_core.proofs.ReadsBack.{catalogue_of-append}
use Rattle.ebr_core.proofs.Spellings.{own_keys}
use Rattle.ebr_core.proofs.StatementRecords.{statement_makes}

-- the second reply is as the first one
abbrev RepliesAlike : EditionNo → Replied → Replied → Type 0
RepliesAlike e r p = EndsAlike e r.answer r.records r.database p

alike : (e : EditionNo) (r p : Replied) → RepliesSame r p → SeesAlike (lists_of p.database) (lists_of r.database) e → RepliesAlike e r p
alike e r p h view = record { answer = h.answer; records = h.records; leaves = h.leaves; view = view }

module _ (db other : Database) (same : DifferInCatalogue db other) (s : SessionId) where
  -- ---- the ask is counted

  counted_same : (q : Ask) (a : Answer) (x : Option Session) → DifferInCatalogue (counted_in db s q a x) (counted_in other s q a x)
  counted_same q a None = same
  counted_same q a (Some x) = session_same db other same s (counted q a x) (counted q a x) refl

counted_lists : (db : Database) (s : SessionId) (q : Ask) (a : Answer) (x : Option Session) → lists_of (counted_in db s q a x) ≡ lists_of db
counted_lists db s q a None = refl
counted_lists db s q a (Some x) = refl

counting_alike : (e : EditionNo) (s : SessionId) (q : Ask) (r p : Replied) → RepliesAlike e r p → RepliesAlike e (counting s q r) (counting s q p)
counting_alike e s q r p h =
    let answer : r.answer ≡ p.answer = sym h.answer in
    let sessions : r.database.sessions ≡ p.database.sessions = sym h.leaves.sessions in
    let there : counted_in p.database s q r.answer (session_at r.database.sessions s.0) ≡ counted_in p.database s q p.answer (session_at p.database.sessions s.0) = λ i. counted_in p.database s q (answer i) (session_at (sessions i) s.0) in
    let left : lists_of (counted_in r.database s q r.answer (session_at r.database.sessions s.0)) ≡ lists_of r.database = counted_lists r.database s q r.answer (session_at r.database.sessions s.0) in
    let right : lists_of (counted_in p.database s q p.answer (session_at p.database.sessions s.0)) ≡ lists_of p.database = counted_lists p.database s q p.answer (session_at p.database.sessions s.0) in
    record {
      answer = h.answer;
      records = h.records;
      leaves = subst (λ d. DifferInCatalogue (counted_in r.database s q r.answer (session_at r.database.sessions s.0)) d) there (counted_same r.database p.database h.leaves s q r.answer (session_at r.database.sessions s.0));
      view = ap (λ c. View c e) right ∙ h.view ∙ ap (λ c. View c e) (sym left);
    }

-- ---- a definition, behind the commit

module _ (db other : Database) (same : DifferInCatalogue db other) (e : EditionNo) (s : SessionId) (what : Definition) (text : List ℕ) where
  number_same : (lists_of db).tables.made ≡ (lists_of other).tables.made
  number_same = made_is db.records ∙ ap (λ l. length l) (sym same.tables) ∙ sym (made_is other.records)

  module _ (agree : AgreeToDefine (lists_of db) (lists_of other) e what) where
    abbrev view_same : SeesAlike (lists_of db) (lists_of other) e
    view_same = sees (lists_of db) (lists_of other) e (own_keys db.records) (own_keys other.records) number_same what agree

    tables_alike : (lists_of db).tables ≡ (lists_of other).tables
    tables_alike = tables_same (lists_of db) (lists_of other) e (own_keys db.records) (own_keys other.records) number_same view_same

    -- the same table is altered or dropped
    changed_same : (w : Definition) → table_changed (lists_of db) w ≡ table_changed (lists_of other) w
    changed_same (definition.AddColumn table column ty) = ap (λ (t : AllTables). table_named table t.living) tables_alike
    changed_same (definition.DropTable name) = ap (λ (t : AllTables). table_named name t.living) tables_alike
    changed_same w = refl

    abbrev outcome_in : Database → Result CatalogueRecord Code
    outcome_in d = defined (lists_of d) (data_of d) s e (editions_in_use d) what text

    defined_same : outcome_in db ≡ outcome_in other
    defined_same =
        let by : Data → Option TableDef → Result CatalogueRecord Code → Result CatalogueRecord Code = λ d t r. if is_held d (own_of s) t then Err (Ora 54) else r in
        let before : data_of db ≡ data_of other = sym (data_same db other same) in
        let out : outcome (lists_of db) e (editions_in_use db) what text ≡ outcome (lists_of other) e (editions_in_use other) what text =
        outcome_same (lists_of db) (lists_of other) e (own_keys db.records) (own_keys other.records) number_same (editions_in_use db) (editions_in_use other) what text agree in
        λ i. by (before i) (changed_same what i) (out i)

    -- what is left by a record that it makes
    left_by : (held : Bool) (r : CatalogueRecord) → (if held then Err (Ora 54) else outcome (lists_of db) e (editions_in_use db) what text) ≡ Ok r
        → SeesAlike (after_record (lists_of db) (record_of r)) (after_record (lists_of other) (record_of r)) e
    left_by true r is = cc
    left_by false r is = left_same (lists_of db) (lists_of other) e (own_keys db.records) (own_keys other.records) number_same (editions_in_use db) what text r agree is

    abbrev answered : Outcome ℕ (Result CatalogueRecord Code) → Outcome ℕ (Result CatalogueRecord Code) → Type 0
    answered o p = RepliesAlike e (defined_by db e what o) (defined_by other e what p)

    answer_same : (v w : EditionView) → v ≡ w → (records more : List Record) → v ≡ View (catalogue_of records) e → w ≡ View (catalogue_of more) e → (r : Result CatalogueRecord Code) → definition_answer more e what r ≡ definition_answer records e what r
    answer_same v w is records more one two (Err code) = refl
    answer_same v w is records more one two (Ok r) = ap (λ x. answer_in x what) (sym two ∙ sym is ∙ one)

    -- both make these records and this value
    ends_with : (o p : Outcome ℕ (Result CatalogueRecord Code)) → p.made ≡ o.made → p.value ≡ o.value → SeesAlike (catalogue_of (other.records ++ o.made)) (catalogue_of (db.records ++ o.made)) e → answered o p
    ends_with o p records value view =
        let here : Outcome Base (Result CatalogueRecord Code) = record { state = base_in db; made = o.made; asked = o.asked; value = o.value } in
        let there : Outcome Base (Result CatalogueRecord Code) = record { state = base_in other; made = p.made; asked = p.asked; value = p.value } in
        let with_used : Data → Base = λ d. record { data_now = d; used = used_by other.records } in
        let state : there.state ≡ at_used (used_by other.records) here.state = ap with_used (data_same db other same) in
        let both : Same at_used here there = record { used = used_by other.records; state = state; made = sym records; value = sym value } in
        let seen : SeesAlike (catalogue_of (other.records ++ p.made)) (catalogue_of (db.records ++ o.made)) e = ap (λ l. View (catalogue_of (other.records ++ l)) e) records ∙ view in
        record {
          answer = ap (definition_answer (other.records ++ p.made) e what) value ∙ answer_same _ _ refl (db.records ++ o.made) (other.records ++ p.made) refl (sym seen) o.value;
          records = records;
          leaves = after_same db other same here there both;
          view = seen;
        }

    nothing_more : SeesAlike (catalogue_of (other.records ++ [])) (catalogue_of (db.records ++ [])) e
    nothing_more = ap (λ l. View (catalogue_of l) e) (append-nil other.records) ∙ sym view_same ∙ ap (λ l. View (catalogue_of l) e) (sym (append-nil db.records))

    -- what was kept of a record, where it had room
    abbrev kept_as : Bool → CatalogueRecord → ℕ → Outcome ℕ (Result CatalogueRecord Code)
    kept_as fits r used = then_run (kept_if fits (record_of r) used) (λ u used'. gives used' (Ok r))

    with_record : (r : CatalogueRecord) → outcome_in db ≡ Ok r → SeesAlike (catalogue_of (other.records ++ record_of r ∷ [])) (catalogue_of (db.records ++ record_of r ∷ [])) e
    with_record r is =
        ap (λ c. View c e) (catalogue_of-append other.records (record_of r))
        ∙ sym (left_by (is_held (data_of db) (own_of s) (table_changed (lists_of db) what)) r is)
        ∙ ap (λ c. View c e) (sym (catalogue_of-append db.records (record_of r)))

    kept_alike : (r : CatalogueRecord) → outcome_in db ≡ Ok r → (fits fits' : Bool) → NeverFull (kept_as fits r (used_by db.records)).asked → NeverFull (kept_as fits' r (used_by other.records)).asked
        → answered (kept_as fits r (used_by db.records)) (kept_as fits' r (used_by other.records))
    kept_alike r is true true never never' = ends_with (kept_as true r (used_by db.records)) (kept_as true r (used_by other.records)) refl refl (with_record r is)
    kept_alike r is true false never never' = absurd never'
    kept_alike r is false fits' never never' = absurd never

    recorded_alike : (r : Result CatalogueRecord Code) → outcome_in db ≡ r → NeverFull (recorded r (used_by db.records)).asked → NeverFull (recorded r (used_by other.records)).asked
        → answered (recorded r (used_by db.records)) (recorded r (used_by other.records))
    recorded_alike (Err code) is never never' = ends_with (recorded (Err code) (used_by db.records)) (recorded (Err code) (used_by other.records)) refl refl nothing_more
    recorded_alike (Ok r) is never never' = kept_alike r is (nat_le (used_by db.records + share (record_of r)) max_journal) (nat_le (used_by other.records + share (record_of r)) max_journal) never never'

    define_alike : NeverFull (reply_define e s what text db).questions → NeverFull (reply_define e s what text other).questions → RepliesAlike e (reply_define e s what text db) (reply_define e s what text other)
    define_alike never never' =
        let by : Result CatalogueRecord Code → Replied = λ r. defined_by other e what (recorded r (used_by other.records)) in
        let there : by (outcome_in db) ≡ by (outcome_in other) = ap by defined_same in
        subst (λ p. RepliesAlike e (reply_define e s what text db) p) there (recorded_alike (outcome_in db) refl never (subst (λ (p : Replied). NeverFull p.questions) (sym there) never'))

-- ---- one reply behind another

then_never : (a : Answer) (first : Replied) (next : Database → Replied) → NeverFull (then_reply a first next).questions → NeverFull first.questions
then_never answer.Done first next never = never_front first.questions (next first.database).questions never
then_never a first next never = never

then_alike : (e : EditionNo) (first first' : Replied) (next : Database → Replied) → RepliesAlike e first first'
    → (NeverFull (next first.database).questions → NeverFull (next first'.database).questions → RepliesAlike e (next first.database) (next first'.database))
    → (a : Answer) → NeverFull (then_reply a first next).questions → NeverFull (then_reply a first' next).questions → RepliesAlike e (then_reply a first next) (then_reply a first' next)
then_alike e first first' next h k answer.Done never never' =
    let more : RepliesAlike e (next first.database) (next first'.database) = k (never_back first.questions (next first.database).questions never) (never_back first'.questions (next first'.database).questions never') in
    record { answer = more.answer; records = λ i. h.records i ++ more.records i; leaves = more.leaves; view = more.view }
then_alike e first first' next h k a never never' = h

-- ---- what the other asks leave of the catalogue

no_more : (records : List Record) → catalogue_of (records ++ []) ≡ catalogue_of records
no_more records = ap catalogue_of (append-nil records)

pushed_lists : (records : List Record) (r : Option Code) (s : SessionId) (b : Base) → catalogue_of (records ++ (pushed r s b).made) ≡ catalogue_of records
pushed_lists records None s b = no_more records
pushed_lists records (Some code) s b = no_more records

committed_lists : (db : Database) (s : SessionId) (x : Session) → lists_of (reply_commit db s x).database ≡ lists_of db
committed_lists db s x = same_lists db.records (commit (on_top db s) (base_in db)).made (commit_makes (on_top db s) (base_in db))

module _ (db other : Database) (same : DifferInCatalogue db other) (s : SessionId) (x : Session) (e : EditionNo) where
  leave_lists : (r p : Replied) → RepliesSame r p → lists_of r.database ≡ lists_of db → lists_of p.database ≡ lists_of other → SeesAlike (lists_of db) (lists_of other) e → RepliesAlike e r p
  leave_lists r p h one two view = alike e r p h (ap (λ c. View c e) two ∙ sym view ∙ ap (λ c. View c e) (sym one))

  -- ---- the cases

  sql_alike : (stmt : SqlTree) (binds : List Value) (left : ℕ) → AgreeFor (lists_of db) (lists_of other) e db s (ask.Sql stmt binds left) (reply_in e db s x (ask.Sql stmt binds left)).questions
      → NeverFull (reply_in e db s x (ask.Sql stmt binds left)).questions → NeverFull (reply_in e other s x (ask.Sql stmt binds left)).questions → RepliesAlike e (reply_in e db s x (ask.Sql stmt binds left)) (reply_in e other s x (ask.Sql stmt binds left))
  sql_alike stmt binds left agree never never' =
      let room : ℕ = room_for x.carried (ask.Sql stmt binds left) in
      let o : Outcome Base Answer = statement_in db other same s e stmt binds max_levels left room (names_of (lists_of db)) (data_of db) (base_in db) in
      let p : Outcome Base Answer = statement_in db other same s e stmt binds max_levels left room (names_of (lists_of other)) (data_of other) (base_in other) in
      let d : Same at_used o p = statement_same db other same s e stmt binds max_levels left room (names_of (lists_of db)) (names_of (lists_of other)) agree never never' in
      leave_lists (reply_in e db s x (ask.Sql stmt binds left)) (reply_in e other s x (ask.Sql stmt binds left)) (record { answer = sym d.value; records = sym d.made; leaves = after_same db other same o p d })
      (same_lists db.records o.made (statement_makes (names_of (lists_of db)) max_levels (own_place e (on_top db s)) stmt binds left room (base_in db)).commits)
      (same_lists other.records p.made (statement_makes (names_of (lists_of other)) max_levels (own_place e (on_top other s)) stmt binds left room (base_in other)).commits)
      agree.view

  commit_alike : SeesAlike (lists_of db) (lists_of other) e → NeverFull (reply_commit db s x).questions → NeverFull (reply_commit other s x).questions → RepliesAlike e (reply_commit db s x) (reply_commit other s x)
  commit_alike view never never' =
      leave_lists (reply_commit db s x) (reply_commit other s x) (commit_replies (names_of (lists_of db)) db other same s x never never') (committed_lists db s x) (committed_lists other s x) view

  ddl_alike : (what : Definition) (text : List ℕ) → AgreeToDefine (lists_of db) (lists_of other) e what → NeverFull (reply_in e db s x (ask.Ddl what text)).questions → NeverFull (reply_in e other s x (ask.Ddl what text)).questions
      → RepliesAlike e (reply_in e db s x (ask.Ddl what text)) (reply_in e other s x (ask.Ddl what text))
  ddl_alike what text agree never never' =
      let first : Replied = reply_commit db s x in
      let first' : Replied = reply_commit other s x in
      let next : Database → Replied = reply_define e s what text in
      let view : SeesAlike (lists_of db) (lists_of other) e = sees (lists_of db) (lists_of other) e (own_keys db.records) (own_keys other.records) (number_same db other same e s what text) what agree in
      let h : RepliesAlike e first first' = commit_alike view (then_never first.answer first next never) (then_never first'.answer first' next never') in
      let behind_one : AgreeToDefine (lists_of first.database) (lists_of other) e what = subst (λ c. AgreeToDefine c (lists_of other) e what) (sym (committed_lists db s x)) agree in
      let behind_both : AgreeToDefine (lists_of first.database) (lists_of first'.database) e what = subst (λ c. AgreeToDefine (lists_of first.database) c e what) (sym (committed_lists other s x)) behind_one in
      let there : then_reply first.answer first' next ≡ then_reply first'.answer first' next = ap (λ a. then_reply a first' next) (sym h.answer) in
      subst (λ p. RepliesAlike e (then_reply first.answer first next) p) there
      (then_alike e first first' next h (define_alike first.database first'.database h.leaves e s what text behind_both) first.answer never (subst (λ (p : Replied). NeverFull p.questions) (sym there) never'))

  in_alike : (q : Ask) → AgreeFor (lists_of db) (lists_of other) e db s q (reply_in e db s x q).questions → NeverFull (reply_in e db s x q).questions → NeverFull (reply_in e other s x q).questions
      → RepliesAlike e (reply_in e db s x q) (reply_in e other s x q)
  in_alike ask.Begin agree never never' = record { answer = ap answer.View (sym agree); records = refl; leaves = opened_same (names_of (lists_of db)) db other same s x; view = sym agree }
  in_alike (ask.Sql stmt binds left) agree never never' = sql_alike stmt binds left agree never never'
  in_alike ask.Commit agree never never' = commit_alike agree never never'
  in_alike ask.Rollback agree never never' =
      leave_lists (reply_in e db s x ask.Rollback) (reply_in e other s x ask.Rollback) (rollback_replies (names_of (lists_of db)) db other same s x) (no_more db.records) (no_more other.records) agree
  in_alike (ask.Savepoint name) agree never never' =
      leave_lists (reply_in e db s x (ask.Savepoint name)) (reply_in e other s x (ask.Savepoint name)) (savepoint_replies (names_of (lists_of db)) db other same s x name) (no_more db.records) (no_more other.records) agree
  in_alike (ask.BackTo name) agree never never' =
      leave_lists (reply_in e db s x (ask.BackTo name)) (reply_in e other s x (ask.BackTo name)) (back_to_replies (names_of (lists_of db)) db other same s x name) (no_more db.records) (no_more other.records) agree
  in_alike (ask.Ddl what text) agree never never' = ddl_alike what text agree never never'
  in_alike (ask.SetEdition name) agree never never' = absurd agree
  in_alike ask.PushAuto agree never never' =
      leave_lists (reply_in e db s x ask.PushAuto) (reply_in e other s x ask.PushAuto) (push_replies (names_of (lists_of db)) db other same s x)
      (pushed_lists db.records (push_refusal (data_of db) s) s (base_in db)) (pushed_lists other.records (push_refusal (data_of other) s) s (base_in other)) agree
  in_alike (ask.PopAuto failed) agree never never' =
      leave_lists (reply_in e db s x (ask.PopAuto failed)) (reply_in e other s x (ask.PopAuto failed)) (pop_replies (names_of (lists_of db)) db other same s x failed) (no_more db.records) (no_more other.records) agree
  in_alike (ask.EndCall failed) agree never never' =
      leave_lists (reply_in e db s x (ask.EndCall failed)) (reply_in e other s x (ask.EndCall failed)) (end_replies (names_of (lists_of db)) db other same s x failed) refl refl agree
  in_alike ask.Leave agree never never' =
      leave_lists (reply_in e db s x ask.Leave) (reply_in e other s x ask.Leave) (leave_replies (names_of (lists_of db)) db other same s x) refl refl agree

  -- ---- the tests before them

  -- whatever an ask needs of the catalogues, the edition sees the same in both
  sees_for : (q : Ask) (asked : List Question) → AgreeFor (lists_of db) (lists_of other) e db s q asked → SeesAlike (lists_of db) (lists_of other) e
  sees_for (ask.Sql stmt binds left) asked agree = agree.view
  sees_for (ask.Ddl what text) asked agree = sees (lists_of db) (lists_of other) e (own_keys db.records) (own_keys other.records) (number_same db other same e s what text) what agree
  sees_for (ask.SetEdition name) asked agree = absurd agree
  sees_for q asked agree = agree

  unless_alike : (c : Option Code) (q : Ask) → AgreeFor (lists_of db) (lists_of other) e db s q (unless_refused c db (reply_in e db s x q)).questions
      → NeverFull (unless_refused c db (reply_in e db s x q)).questions → NeverFull (unless_refused c other (reply_in e other s x q)).questions
      → RepliesAlike e (unless_refused c db (reply_in e db s x q)) (unless_refused c other (reply_in e other s x q))
  unless_alike None q agree never never' = in_alike q agree never never'
  unless_alike (Some code) q agree never never' = record { answer = refl; records = refl; leaves = same; view = sym (sees_for q [] agree) }

  while_alike : (q : Ask) → AgreeFor (lists_of db) (lists_of other) e db s q (reply_while (Some e) db s x q).questions → NeverFull (reply_while (Some e) db s x q).questions → NeverFull (reply_while (Some e) other s x q).questions
      → RepliesAlike e (reply_while (Some e) db s x q) (reply_while (Some e) other s x q)
  while_alike q agree never never' =
      let c : Option Code = first_tests db s x q in
      let tests : c ≡ first_tests other s x q = sym (tests_same db other same s x q) in
      let in_other : Option Code → Replied = λ t. unless_refused t other (reply_in e other s x q) in
      let there : in_other c ≡ in_other (first_tests other s x q) = ap in_other tests in
      subst (λ (r : Replied). RepliesAlike e (reply_while (Some e) db s x q) (counting s q r)) there
      (counting_alike e s q (unless_refused c db (reply_in e db s x q)) (in_other c) (unless_alike c q agree never (subst (λ (r : Replied). NeverFull r.questions) (sym there) never')))

  -- ---- the whole

  -- Every such ask of a session that is in this edition.
  pub reply_alike : session_at db.sessions s.0 ≡ Some x → x.edition ≡ Some e → (q : Ask) → AgreeFor (lists_of db) (lists_of other) e db s q (Reply db s q).questions → NeverFull (Reply db s q).questions → NeverFull (Reply other s q).questions
      → RepliesAlike e (Reply db s q) (Reply other s q)
  reply_alike is in_edition q =
      let there : session_at other.sessions s.0 ≡ Some x = ap (λ (l : List Session). session_at l s.0) same.sessions ∙ is in
      let one : Reply db s q ≡ reply_while (Some e) db s x q = ap (λ (y : Option Session). reply_to y db s q) is ∙ ap (λ (y : Option EditionNo). reply_while y db s x q) in_edition in
      let two : Reply other s q ≡ reply_while (Some e) other s x q = ap (λ (y : Option Session). reply_to y other s q) there ∙ ap (λ (y : Option EditionNo). reply_while y other s x q) in_edition in
      let back_one : reply_while (Some e) db s x q ≡ Reply db s q = sym one in
      let back_two : reply_while (Some e) other s x q ≡ Reply other s q = sym two in
      λ agree never never'.
      subst (λ (p : Replied). RepliesAlike e (Reply db s q) p) back_two
      (subst (λ (r : Replied). RepliesAlike e r (reply_while (Some e) other s x q)) back_one
      (while_alike q (subst (λ (r : Replied). AgreeFor (lists_of db) (lists_of other) e db s q r.questions) one agree) (subst (λ (r : Replied). NeverFull r.questions) one never) (subst (λ (r : Replied). NeverFull r.questions) two never')))
