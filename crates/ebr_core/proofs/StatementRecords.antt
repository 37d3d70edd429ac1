-- What a statement makes: the records of what autonomous transactions in the bodies of its triggers commit. They are read back.
use Rattle.std.proofs.Common.{◌≡◌, ℕ, zero, suc, ◌+◌, ◌-◌, Bool, true, false, List, [], ◌∷◌, ◌++◌, Option, Some, None, Ok, Err, refl, sym, ap, ◌∙◌, append_assoc, append-nil, arith}
use Rattle.std.specs.Prelude.{Result, IfOk, if◌then◌else◌, nat_le, nat_lt, sum_by}
use Rattle.std.specs.List.{AllByRecursion, filter_map}
use Rattle.std.proofs.lemmas.List.Elements.{filter_map-append}
use Rattle.std.proofs.lemmas.List.Sums.{sum_by-append}
use Rattle.ebr_base.specs.declared.code.Code.{Code}
use Rattle.ebr_base.specs.declared.code.Code.TheVariants.{Ebr}
use Rattle.ebr_base.specs.declared.numbers.SessionId.{SessionId}
use Rattle.ebr_base.specs.declared.row.Change.{Change}
use Rattle.ebr_base.specs.declared.row.RowId.{RowId}
use Rattle.ebr_base.specs.declared.row.TxId.{TxId}
use Rattle.ebr_base.specs.declared.value.Value.{Value}
use Rattle.ebr_exprtree.specs.declared.op.Op.{Op}
use Rattle.ebr_ast.specs.declared.query.Query.{Query as Select}
use Rattle.ebr_ast.specs.declared.sql.SqlTree.{SqlTree}
use Rattle.ebr_ast.specs.declared.sql.SqlTree.TheVariants as sql
use Rattle.ebr_ast.specs.declared.view.EditionView.{EditionView}
use Rattle.ebr_asks.specs.declared.ask.Ask.{Ask}
use Rattle.ebr_asks.specs.declared.ask.Ask.TheVariants as ask
use Rattle.ebr_asks.specs.declared.answer.Answer.{Answer}
use Rattle.ebr_asks.specs.declared.answer.Answer.TheVariants.{Rows}
use Rattle.ebr_sqlcheck.specs.Checked.{must, on}
use Rattle.ebr_sqlcheck.specs.Sources.{Relation, relations_of}
use Rattle.ebr_tx.specs.declared.savepoints.Savepoint.{Savepoint}
use Rattle.ebr_tx.specs.Data.{Data, own}
use Rattle.ebr_tx.specs.Conflicts.{touch_refusal}
use Rattle.ebr_tx.specs.Calls.{after_begin, after_lock, after_pop, back_to_answer, back_to_savepoint, levels, push_refusal, savepoint_named, with_commit}
use Rattle.ebr_query.specs.Queries as queries
use Rattle.ebr_query.specs.Queries.{Answered, Query}
use Rattle.ebr_query.specs.Results.{chosen, result_rows}
use Rattle.ebr_query.specs.Rows.{Row, max_product, product, product_size}
use Rattle.ebr_query.specs.Seen.{rows_of_sources}
use Rattle.ebr_dml.specs.declared.taken.Taken.{Taken}
use Rattle.ebr_dml.specs.Steps.{DmlState}
use Rattle.ebr_dml.specs.Images.{old_values, new_values, after_values}
use Rattle.ebr_dml.specs.Tests.{written}
use Rattle.ebr_record.specs.declared.record.Record.{Record}
use Rattle.ebr_record.specs.declared.record.Record.TheVariants as left
use Rattle.ebr_record.specs.Keeper.{share, max_journal, used_by}
use Rattle.ebr_database.specs.Base.{Base, with_data}
use Rattle.ebr_database.specs.Outcome.{Outcome, gives, and_then, go_on, then_run}
use Rattle.ebr_database.specs.Database.{Database, after_outcome, base_in, commit_in, tables_from}
use Rattle.ebr_database.specs.Transact.{Done, back_to, commit, keep_changes, kept_if, pop, pushed, roll_back, savepoint, settled}
use Rattle.ebr_seats.specs.Ends.{closed_from_top}
use Rattle.ebr_exec.specs.Places.{Names, Place}
use Rattle.ebr_exec.specs.Statements.{Ran, Statements, carries, ended, query_ran, refused, rows_given}
use Rattle.ebr_exec.specs.Over.{Over}
use Rattle.ebr_exec.proofs.Rows.{written_over}
use Rattle.ebr_run.specs.Run.{Seen}
use Rattle.ebr_bodies.specs.Ready.{Ready}
use Rattle.ebr_bodies.specs.Bodies.{Doing, Site, after_run, answered, at_own, bodies, body, max_asks, next_ask, on_ask, on_top, place_in, run_of, serve, served}
use Rattle.ebr_bodies.specs.Rows.{Work, all_rows, at_data, changed, one_row, rows, rows_of}
use Rattle.ebr_bodies.specs.Statements.{Stmt, begun, begun_ran, change_ran, checked_ran, finished, first_doing, name_tests, fired_ran, rows_started, run_rows, site_of, triggers_ready, unless_refused, work_of}
use Rattle.ebr_core.specs.inside.Reached.{IsCommit}
use Rattle.ebr_core.proofs.MadeRecords.{same_tables}

-- The records are commits. The data have these commits more and the same tables, and so many bytes more are used.
pub record Makes (b : Base) (made : List Record) (now : Base) : Type 0 where
  pub commits : AllByRecursion IsCommit made
  pub more : now.data_now.commits ≡ b.data_now.commits ++ filter_map commit_in made
  pub tables : now.data_now.tables ≡ b.data_now.tables
  pub used : now.used ≡ b.used + sum_by share made

-- what an outcome makes from here
abbrev pub MakesOf : {A : Type 0} → Base → Outcome Base A → Type 0
MakesOf b o = Makes b o.made o.state

abbrev pub MakesDoing : {A : Type 0} → Base → Outcome Doing A → Type 0
MakesDoing b o = Makes b o.made o.state.base

-- ---- none, and one after the other

none : (b now : Base) → now.data_now.commits ≡ b.data_now.commits → now.data_now.tables ≡ b.data_now.tables → now.used ≡ b.used → Makes b [] now
none b now commits tables used = record {
  commits = tt;
  more = commits ∙ sym (append-nil b.data_now.commits);
  tables = tables;
  used = omega (arith, used);
}

same : (b : Base) → Makes b [] b
same b = none b b refl refl refl

all_more : (xs ys : List Record) → AllByRecursion IsCommit xs → AllByRecursion IsCommit ys → AllByRecursion IsCommit (xs ++ ys)
all_more [] ys h k = k
all_more (x ∷ xs) ys h k = (h.0, all_more xs ys h.1 k)

both : (a b c : Base) (xs ys : List Record) → Makes a xs b → Makes b ys c → Makes a (xs ++ ys) c
both a b c xs ys h k = record {
  commits = all_more xs ys h.commits k.commits;
  more =
      k.more ∙ ap (λ l. l ++ filter_map commit_in ys) h.more ∙ append_assoc a.data_now.commits (filter_map commit_in xs) (filter_map commit_in ys)
      ∙ ap (λ l. a.data_now.commits ++ l) (sym (filter_map-append commit_in xs ys));
  tables = k.tables ∙ h.tables;
  used = omega (arith, sum_by-append share xs ys, h.used, k.used);
}

goes_on : {A B : Type 0} (k : A → Doing → Outcome Doing (Result B Code)) (r : Result A Code) (σ : Doing) → ((a : A) → MakesDoing σ.base (k a σ)) → MakesDoing σ.base (go_on k r σ)
goes_on k (Ok a) σ each = each a
goes_on k (Err code) σ each = same σ.base

runs_on : {A B : Type 0} (b : Base) (o : Outcome Doing (Result A Code)) (k : A → Doing → Outcome Doing (Result B Code)) → MakesDoing b o → ((a : A) (σ : Doing) → MakesDoing σ.base (k a σ)) → MakesDoing b (then_run o k)
runs_on b o k m each = both b o.state.base (go_on k o.value o.state).state.base o.made (go_on k o.value o.state).made m (goes_on k o.value o.state (λ a. each a o.state))

-- ---- the asks of a body

by_room : (t : TxId) (b : Base) (c : Change) (cs : List Change) → (own b.data_now t).changes ≡ c ∷ cs → (fits : Bool)
    → MakesOf b (and_then (kept_if fits (left.Commit (c ∷ cs)) b.used) (settled t b.data_now))
by_room t b c cs is false = same b
by_room t b c cs is true = record {
  commits = (tt, tt);
  more = ap (with_commit b.data_now.commits) is;
  tables = refl;
  used = omega arith;
}

by_changes : (t : TxId) (b : Base) (cs : List Change) → (own b.data_now t).changes ≡ cs → MakesOf b (and_then (keep_changes cs b.used) (settled t b.data_now))
by_changes t b [] is = none b _ (ap (with_commit b.data_now.commits) is) refl refl
by_changes t b (c ∷ cs) is = by_room t b c cs is (nat_le (b.used + share (left.Commit (c ∷ cs))) max_journal)

committed : (t : TxId) (b : Base) → MakesOf b (commit t b)
committed t b = by_changes t b (own b.data_now t).changes refl

went_back : (t : TxId) (name : List ℕ) (b : Base) (s : Option Savepoint) (a : Done) → MakesOf b (gives (with_data (back_to_savepoint b.data_now t name s) b) a)
went_back t name b None a = same b
went_back t name b (Some s) a = none b _ refl refl refl

opened : (s : SessionId) (b : Base) (refusal : Option Code) → MakesOf b (pushed refusal s b)
opened s b None = none b _ refl refl refl
opened s b (Some code) = same b

own_or : (x : Bool) (code : Code) (b : Base) (o : Outcome Base Done) → MakesOf b o → MakesOf b (if x then gives b (refused code) else answered o)
own_or true code b o m = same b
own_or false code b o m = m

abbrev AllMake : Statements → Type 0
AllMake st = (p : Place) (s : SqlTree) (binds : List Value) (left room : ℕ) (b : Base) → MakesOf b (st p s binds left room b)

closed_commits : (n : ℕ) (s : SessionId) (d : Data) → (closed_from_top n s d).commits ≡ d.commits
closed_commits zero s d = refl
closed_commits (suc n) s d = closed_commits n s (after_pop d s)

closed_tables : (n : ℕ) (s : SessionId) (d : Data) → (closed_from_top n s d).tables ≡ d.tables
closed_tables zero s d = refl
closed_tables (suc n) s d = closed_tables n s (after_pop d s)

module _ (w : Site) (deeper : AllMake w.deeper) where
  ask_makes : (r : Ready) (room : ℕ) (q : Ask) (b : Base) → MakesOf b (serve w r room q b)
  ask_makes r room (ask.Sql s binds left) b = deeper (place_in w r b) s binds left room b
  ask_makes r room ask.Commit b = own_or (at_own w b) _ b (commit (on_top w b) b) (committed (on_top w b) b)
  ask_makes r room ask.Rollback b = own_or (at_own w b) _ b (roll_back (on_top w b) b) (none b _ refl refl refl)
  ask_makes r room (ask.Savepoint name) b = own_or (at_own w b) _ b (savepoint (on_top w b) name b) (none b _ refl refl refl)
  ask_makes r room (ask.BackTo name) b = own_or (at_own w b) _ b (back_to (on_top w b) name b) (went_back (on_top w b) name b (savepoint_named b.data_now (on_top w b) name) (back_to_answer b.data_now (on_top w b) name))
  ask_makes r room ask.PushAuto b = opened w.tx.session b (push_refusal b.data_now w.tx.session)
  ask_makes r room (ask.PopAuto failed) b = own_or (at_own w b) _ b (pop w.tx.session failed b) (none b _ refl refl refl)
  ask_makes r room q b = same b

  on_ask_makes : (n : ℕ) (r : Ready) (run : List Answer → Seen) (answers : List Answer) (b : Base) → ((x : Answer) (b' : Base) → MakesOf b' (served n w r run (answers ++ x ∷ []) b')) → (q : Option Ask)
      → MakesOf b (on_ask q (run answers) b (λ q'. and_then (serve w r (run answers).room q' b) (λ x b'. served n w r run (answers ++ x ∷ []) b')))
  on_ask_makes n r run answers b next None = same b
  on_ask_makes n r run answers b next (Some q) =
      let o : Outcome Base Answer = serve w r (run answers).room q b in
      let more : Outcome Base Seen = served n w r run (answers ++ o.value ∷ []) o.state in
      both b o.state more.state o.made more.made (ask_makes r (run answers).room q b) (next o.value o.state)

  served_makes : (n : ℕ) (r : Ready) (run : List Answer → Seen) (answers : List Answer) (b : Base) → MakesOf b (served n w r run answers b)
  served_makes zero r run answers b = same b
  served_makes (suc n) r run answers b = on_ask_makes n r run answers b (λ x b'. served_makes n r run (answers ++ x ∷ []) b') (next_ask (run answers))

  -- ---- bodies and rows

  body_makes : (o : Op) (r : Ready) (old new : List Value) (σ : Doing) → MakesDoing σ.base (body w o r old new σ)
  body_makes o r old new σ =
      let s : Outcome Base Seen = served max_asks w r (run_of w o r old new σ) [] σ.base in
      both σ.base s.state (after_run w o r new σ s.value s.state).state.base s.made [] (served_makes max_asks r (run_of w o r old new σ) [] σ.base)
      (none s.state _ (closed_commits (levels s.state.data_now w.tx.session - w.tx.depth) w.tx.session s.state.data_now)
      (closed_tables (levels s.state.data_now w.tx.session - w.tx.depth) w.tx.session s.state.data_now) refl)

  bodies_make : (o : Op) (rs : List Ready) (old new : List Value) (σ : Doing) → MakesDoing σ.base (bodies w o rs old new σ)
  bodies_make o [] old new σ = same σ.base
  bodies_make o (r ∷ rest) old new σ = runs_on σ.base (body w o r old new σ) (λ new' σ'. bodies w o rest old new' σ') (body_makes o r old new σ) (λ new' σ'. bodies_make o rest old new' σ')

  changed_makes : (k : Work) (r : Taken) (new : List Value) (σ : Doing) → MakesDoing σ.base (changed w k r new σ)
  changed_makes k r new σ = by (written σ.base.data_now w.tx k.plan r new) refl
    where
      by : (x : Result Data Code) → written σ.base.data_now w.tx k.plan r new ≡ x
          → MakesDoing σ.base (go_on (λ d σ'. bodies w k.operation k.after (old_values k.plan r) (after_values k.plan new) (at_data d σ')) x σ)
      by (Err code) e = same σ.base
      by (Ok d) e =
          let g : Over σ.base.data_now w.tx d = written_over σ.base.data_now d w.tx k.plan r new e in
          let o : Outcome Doing (Result (List Value) Code) = bodies w k.operation k.after (old_values k.plan r) (after_values k.plan new) (at_data d σ) in
          both σ.base (with_data d σ.base) o.state.base [] o.made (none σ.base (with_data d σ.base) (ap (λ (x : Data). x.commits) g.is) (ap (λ (x : Data). x.tables) g.is) refl)
          (bodies_make k.operation k.after (old_values k.plan r) (after_values k.plan new) (at_data d σ))

  row_makes : (k : Work) (r : Taken) (σ : Doing) → MakesDoing σ.base (one_row w k r σ)
  row_makes k r σ =
      goes_on (λ new σ'. then_run (bodies w k.operation k.before (old_values k.plan r) new σ') (changed w k r)) (new_values k.plan k.binds r) σ (λ new.
      runs_on σ.base (bodies w k.operation k.before (old_values k.plan r) new σ) (changed w k r) (bodies_make k.operation k.before (old_values k.plan r) new σ) (λ new' σ'. changed_makes k r new' σ'))

  rows_make : (k : Work) (n : ℕ) (taken : List Taken) (σ : Doing) → MakesDoing σ.base (rows w k n taken σ)
  rows_make k n [] σ = same σ.base
  rows_make k n (r ∷ rest) σ = runs_on σ.base (one_row w k r σ) (λ new σ'. rows w k n rest σ') (row_makes k r σ) (λ new σ'. rows_make k n rest σ')

  all_make : (k : Work) (found : Result (List Taken) Code) (σ : Doing) → MakesDoing σ.base (rows_of w k found σ)
  all_make k found σ = goes_on (all_rows w k) found σ (λ taken. rows_make k _ taken σ)

-- ---- queries

-- The data have the same commits and tables.
abbrev SameStored : Data → Data → Type 0
SameStored d now = (now.commits ≡ d.commits) × (now.tables ≡ d.tables)

lock_stored : (refusal : Option Code) (d now : Data) (next : Answered) → SameStored d now → SameStored now next.after → SameStored d (queries.unless_refused refusal d next).after
lock_stored None d now next h k = (k.0 ∙ h.0, k.1 ∙ h.1)
lock_stored (Some code) d now next h k = (refl, refl)

locks_stored : (result : List (List Value)) (t : TxId) (d : Data) (to_lock : List RowId) → SameStored d (queries.with_locks result t d to_lock).after
locks_stored result t d [] = (refl, refl)
locks_stored result t d (row ∷ rest) =
    lock_stored (touch_refusal d t row) d (after_lock d t row) (queries.with_locks result t (after_lock d t row) rest) (refl, refl) (locks_stored result t (after_lock d t row) rest)

else_stored : {A : Type 0} (d : Data) (r : Result A Code) (next : A → Answered) → ((a : A) → SameStored d (next a).after) → SameStored d (queries.else_refused d r next).after
else_stored d (Ok a) next each = each a
else_stored d (Err code) next each = (refl, refl)

product_stored : (q : Select) (relations : List Relation) (d : Data) (t : TxId) (binds : List Value) (rows : List Row) → SameStored d (queries.over_product q relations d t binds rows).after
product_stored q relations d t binds rows =
    else_stored d (chosen q relations binds rows) (λ result. queries.else_refused d (result_rows q relations binds result) (λ values. queries.with_locks values t d (queries.to_lock q.for_update result))) (λ result.
    else_stored d (result_rows q relations binds result) (λ values. queries.with_locks values t d (queries.to_lock q.for_update result)) (λ values. locks_stored values t d (queries.to_lock q.for_update result)))

large_stored : (large : Bool) (d : Data) (a : Answered) → SameStored d a.after → SameStored d (if large then queries.refused d (Ebr 13) else a).after
large_stored true d a h = (refl, refl)
large_stored false d a h = h

query_stored : (q : Select) (d : Data) (t : TxId) (v : EditionView) (binds : List Value) → SameStored d (Query q d t v binds).after
query_stored q d t v binds =
    else_stored d (relations_of v q.sources) (λ relations. queries.over_rows q relations d t binds (rows_of_sources d t v q.sources relations)) (λ relations.
    large_stored (nat_lt max_product (product_size (rows_of_sources d t v q.sources relations))) d (queries.over_product q relations d t binds (product (rows_of_sources d t v q.sources relations)))
    (product_stored q relations d t binds (product (rows_of_sources d t v q.sources relations))))

-- what is answered comes with the data of the query
room_stored : (p : Place) (room : ℕ) (d : Data) (rows : List (List Value)) → IfOk (rows_given p room d rows) (λ (r : Ran). r.data_after ≡ d)
room_stored p room d rows = by (carries p.changing room rows)
  where
    by : (b : Bool) → IfOk (on (λ u. Ok (record { answer = Rows rows; data_after = d })) (must (Ebr 11) b)) (λ (r : Ran). r.data_after ≡ d)
    by true = refl
    by false = tt

ran_stored : (p : Place) (room : ℕ) (after : Data) (rows : Result (List (List Value)) Code) → IfOk (on (rows_given p room after) rows) (λ (r : Ran). r.data_after ≡ after)
ran_stored p room after (Ok rows) = room_stored p room after rows
ran_stored p room after (Err code) = tt

ended_makes : (b : Base) (after : Data) (r : Result Ran Code) → SameStored b.data_now after → IfOk r (λ (r : Ran). r.data_after ≡ after) → MakesOf b (ended b r)
ended_makes b after (Ok r) h is = none b _ (ap (λ (d : Data). d.commits) is ∙ h.0) (ap (λ (d : Data). d.tables) is ∙ h.1) refl
ended_makes b after (Err code) h is = same b

-- ---- statements

finished_makes : (t : TxId) (before : Base) (r : Result ℕ Code) (σ : Doing) → MakesOf σ.base (finished t before r σ)
finished_makes t before (Ok n) σ = same σ.base
finished_makes t before (Err code) σ = none σ.base _ refl refl refl

module _ (deeper : Statements) (all : AllMake deeper) (names : Names) (p : Place) (binds : List Value) (left room : ℕ) where
  fired_makes : (s : SqlTree) (standing : DmlState) (σ : Doing) → MakesDoing σ.base (fired_ran deeper names p s left standing σ)
  fired_makes s standing σ = goes_on (run_rows deeper names p s left) (triggers_ready names p s standing) σ (λ k. all_make (site_of deeper names p s left) all (work_of s k) k.standing.rest σ)

  begun_makes : (s : SqlTree) (σ : Doing) → MakesDoing σ.base (begun_ran deeper names p s binds left σ)
  begun_makes s σ = goes_on (fired_ran deeper names p s left) (rows_started names p s binds σ.base.data_now) σ (λ standing. fired_makes s standing σ)

  change_makes : (s : SqlTree) (b : Base) → MakesOf b (change_ran deeper names p s binds left room b)
  change_makes s b =
      let o : Outcome Doing (Result ℕ Code) = begun_ran deeper names p s binds left (first_doing (begun p b) room) in
      let f : Outcome Base Answer = finished p.tx b o.value o.state in
      both b (begun p b) f.state [] (o.made ++ f.made) (none b (begun p b) refl refl refl)
      (both (begun p b) o.state.base f.state o.made f.made (begun_makes s (first_doing (begun p b) room)) (finished_makes p.tx b o.value o.state))

  checked_makes : (s : SqlTree) (b : Base) → MakesOf b (checked_ran deeper names p s binds left room b)
  checked_makes (sql.Query q) b =
      let a : Answered = Query q (after_begin b.data_now p.tx) p.tx (names.view p.edition) binds in
      ended_makes b a.after (query_ran p room a) (query_stored q (after_begin b.data_now p.tx) p.tx (names.view p.edition) binds) (ran_stored p room a.after a.answer)
  checked_makes s b = change_makes s b

tested_makes : (r : Result (Unit {0}) Code) (b : Base) (o : Outcome Base Answer) → MakesOf b o → MakesOf b (unless_refused r b o)
tested_makes (Ok u) b o m = m
tested_makes (Err code) b o m = same b

-- what a statement makes
pub statement_makes : (names : Names) (n : ℕ) (p : Place) (s : SqlTree) (binds : List Value) (left room : ℕ) (b : Base) → MakesOf b (Stmt names n p s binds left room b)
statement_makes names zero p s binds left room b = same b
statement_makes names (suc n) p s binds left room b =
    tested_makes (name_tests names p s binds) b (checked_ran (Stmt names n) names p s binds left room b) (checked_makes (Stmt names n) (statement_makes names n) names p binds left room s b)

-- ---- what is read back

used_more : (records made : List Record) → used_by (records ++ made) ≡ used_by records + sum_by share made
used_more records made = omega (arith, sum_by-append share records made)

-- What is left is what is read off the database after it.
pub made_back : {A : Type 0} (db : Database) (o : Outcome Base A) → MakesOf (base_in db) o → base_in (after_outcome db o) ≡ o.state
made_back db o m =
    let commits : filter_map commit_in (db.records ++ o.made) ≡ o.state.data_now.commits = filter_map-append commit_in db.records o.made ∙ sym m.more in
    let tables : tables_from 0 (db.records ++ o.made) ≡ o.state.data_now.tables = same_tables 0 db.records o.made m.commits ∙ sym m.tables in
    let used : used_by (db.records ++ o.made) ≡ o.state.used = used_more db.records o.made ∙ sym m.used in
    λ i. record { data_now = record { commits = commits i; tables = tables i; live = o.state.data_now.live; locks = o.state.data_now.locks }; used = used i }
