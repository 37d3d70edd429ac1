-- What a statement does: its commits are allowed, and the integrity of the data stays.
use Rattle.std.proofs.Common.{◌≡◌, ℕ, zero, suc, Bool, true, false, List, [], ◌∷◌, ◌++◌, Option, Some, None, Ok, Err, length, refl, sym, ap, subst, ◌∙◌}
use Rattle.std.specs.Prelude.{All, IfOk, Result, find, if◌then◌else◌, is_some, nat_lt, not}
use Rattle.std.specs.List.{list_any}
use Rattle.ebr_base.specs.declared.code.Code.{Code}
use Rattle.ebr_base.specs.declared.code.Code.TheVariants.{Ebr, Ora}
use Rattle.ebr_base.specs.declared.numbers.EditionNo.{EditionNo}
use Rattle.ebr_base.specs.declared.row.Change.{Change}
use Rattle.ebr_base.specs.declared.row.RowId.{RowId}
use Rattle.ebr_base.specs.declared.row.TxId.{TxId}
use Rattle.ebr_base.specs.declared.table.TableDef.{TableDef}
use Rattle.ebr_base.specs.declared.value.Value.{Value}
use Rattle.ebr_ast.specs.declared.query.Query.{Query as Select}
use Rattle.ebr_ast.specs.declared.kinds.Timing.TheVariants as timing
use Rattle.ebr_ast.specs.declared.sql.SqlTree.{SqlTree}
use Rattle.ebr_ast.specs.declared.sql.SqlTree.TheVariants as sql
use Rattle.ebr_ast.specs.declared.view.EditionView.{EditionView}
use Rattle.ebr_asks.specs.declared.answer.Answer.TheVariants.{Rows}
use Rattle.ebr_versions.specs.declared.table.Table.{Table}
use Rattle.ebr_sqlcheck.specs.Checked.{must, on}
use Rattle.ebr_sqlcheck.specs.Sources.{Relation, relations_of}
use Rattle.ebr_sqlcheck.specs.Statements.{checked_with}
use Rattle.ebr_tx.specs.Data.{Transaction, Data, IsLive, changed, own}
use Rattle.ebr_tx.specs.Conflicts.{touch_refusal}
use Rattle.ebr_tx.specs.Calls.{after_begin, after_lock, after_mark, begun_at, mark_of}
use Rattle.ebr_tx.proofs.SoundLemmas.{own_found}
use Rattle.ebr_tx.proofs.Stays.{own-after}
use Rattle.ebr_query.specs.Queries as queries
use Rattle.ebr_query.specs.Queries.{Answered, Query}
use Rattle.ebr_query.specs.Results.{chosen, result_rows}
use Rattle.ebr_query.specs.Rows.{Row, max_product, product, product_size}
use Rattle.ebr_query.specs.Seen.{rows_of_sources}
use Rattle.ebr_tables.specs.Tables.{has_id}
use Rattle.ebr_dml.specs.declared.plan.Plan.{Plan}
use Rattle.ebr_dml.specs.declared.taken.Taken.{Taken}
use Rattle.ebr_dml.specs.inside.Apart.{FoundApart}
use Rattle.ebr_dml.specs.Plans.{plan_of}
use Rattle.ebr_dml.specs.Rows as dml
use Rattle.ebr_dml.specs.Steps.{DmlState, RestSeen, first_dml, started}
use Rattle.ebr_dml.proofs.Known.{plan-known}
use Rattle.ebr_dml.proofs.RowLemmas.{StartApart, StartSeen, start-apart, start-seen}
use Rattle.ebr_record.specs.declared.record.Record.{Record}
use Rattle.ebr_database.specs.Base.{Base, with_data}
use Rattle.ebr_database.specs.Outcome.{Outcome, after, go_on}
use Rattle.ebr_levels.specs.Keeps.{UnderChange}
use Rattle.ebr_levels.specs.Levels.{IsTop, Leaves}
use Rattle.ebr_levels.proofs.LeavesLemmas.{leaves_back, leaves_begun, leaves_leaves, leaves_lock, leaves_same}
use Rattle.ebr_levels.proofs.TopLemmas.{top_live, top_stays}
use Rattle.ebr_exec.specs.Places.{Names, Place, is_changing, is_table, questions_on, target}
use Rattle.ebr_exec.specs.Statements.{Ran, Statements, carries, ended, query_ran, rows_given}
use Rattle.ebr_bodies.specs.Ready.{ready_at}
use Rattle.ebr_bodies.specs.Bodies.{Doing}
use Rattle.ebr_bodies.specs.Statements.{Start, Stmt, begun, begun_ran, change_ran, checked_ran, fired_ran, finished, first_doing, is_appliable, name_tests, rows_started, run_rows, site_of, start_of, tables_of, triggers_ready, undone, unless_refused, work_of}
use Rattle.ebr_integrity.specs.Commits.{IsSuitable}
use Rattle.ebr_integrity.specs.Integrity.{HasIntegrity, IsIntact, IsIntactBy}
use Rattle.ebr_integrity.specs.inside.Under.{under_by}
use Rattle.ebr_integrity.specs.inside.Works.{WorksIn}
use Rattle.ebr_integrity.proofs.BodyLemmas.{AllWork}
use Rattle.ebr_integrity.proofs.DataLemmas.{intact_begun, intact_marked}
use Rattle.ebr_integrity.proofs.RowsLemmas.{all_rows_work}
use Rattle.ebr_integrity.proofs.UnderLemmas.{is_around, not_around, plan_in, still_around}
use Rattle.ebr_integrity.proofs.WorksLemmas.{fit_behind, in_both, in_same, works_both, works_none}

-- ---- queries

-- The data have some locks more alone.
record Locks (d : Data) (t : TxId) (under : UnderChange) (now : Data) : Type 0 where
  commits : now.commits ≡ d.commits
  tables : now.tables ≡ d.tables
  live : now.live ≡ d.live
  leaves : Leaves d t under now

module _ (t : TxId) (under : UnderChange) where
  locks_same : (d : Data) → Locks d t under d
  locks_same d = record { commits = refl; tables = refl; live = refl; leaves = leaves_same d t under }

  locks_more : (refusal : Option Code) (d now : Data) (next : Answered) → Locks d t under now → Locks now t under next.after → Locks d t under (queries.unless_refused refusal d next).after
  locks_more None d now next h k = record { commits = k.commits ∙ h.commits; tables = k.tables ∙ h.tables; live = k.live ∙ h.live; leaves = leaves_leaves d now next.after t under h.leaves k.leaves }
  locks_more (Some code) d now next h k = locks_same d

  all_locked : (result : List (List Value)) (d : Data) (to_lock : List RowId) → Locks d t under (queries.with_locks result t d to_lock).after
  all_locked result d [] = locks_same d
  all_locked result d (row ∷ rest) =
      locks_more (touch_refusal d t row) d (after_lock d t row) (queries.with_locks result t (after_lock d t row) rest)
      (record { commits = refl; tables = refl; live = refl; leaves = leaves_lock d (after_lock d t row) t under row refl }) (all_locked result (after_lock d t row) rest)

  else_locked : {A : Type 0} (d : Data) (r : Result A Code) (next : A → Answered) → ((a : A) → Locks d t under (next a).after) → Locks d t under (queries.else_refused d r next).after
  else_locked d (Ok a) next each = each a
  else_locked d (Err code) next each = locks_same d

  product_locked : (q : Select) (relations : List Relation) (d : Data) (binds : List Value) (rows : List Row) → Locks d t under (queries.over_product q relations d t binds rows).after
  product_locked q relations d binds rows =
      else_locked d (chosen q relations binds rows) (λ result. queries.else_refused d (result_rows q relations binds result) (λ values. queries.with_locks values t d (queries.to_lock q.for_update result))) (λ result.
      else_locked d (result_rows q relations binds result) (λ values. queries.with_locks values t d (queries.to_lock q.for_update result)) (λ values. all_locked values d (queries.to_lock q.for_update result)))

  large_locked : (large : Bool) (d : Data) (a : Answered) → Locks d t under a.after → Locks d t under (if large then queries.refused d (Ebr 13) else a).after
  large_locked true d a h = locks_same d
  large_locked false d a h = h

  query_locked : (q : Select) (d : Data) (v : EditionView) (binds : List Value) → Locks d t under (Query q d t v binds).after
  query_locked q d v binds =
      else_locked d (relations_of v q.sources) (λ relations. queries.over_rows q relations d t binds (rows_of_sources d t v q.sources relations)) (λ relations.
      large_locked (nat_lt max_product (product_size (rows_of_sources d t v q.sources relations))) d (queries.over_product q relations d t binds (product (rows_of_sources d t v q.sources relations)))
      (product_locked q relations d binds (product (rows_of_sources d t v q.sources relations))))

-- what is answered comes with the data of the query
room_given : (p : Place) (room : ℕ) (d : Data) (rows : List (List Value)) → IfOk (rows_given p room d rows) (λ (r : Ran). r.data_after ≡ d)
room_given p room d rows = by (carries p.changing room rows)
  where
    by : (b : Bool) → IfOk (on (λ u. Ok (record { answer = Rows rows; data_after = d })) (must (Ebr 11) b)) (λ (r : Ran). r.data_after ≡ d)
    by true = refl
    by false = tt

ran_given : (p : Place) (room : ℕ) (after : Data) (rows : Result (List (List Value)) Code) → IfOk (on (rows_given p room after) rows) (λ (r : Ran). r.data_after ≡ after)
ran_given p room after (Ok rows) = room_given p room after rows
ran_given p room after (Err code) = tt

intact_alike : (P : Change → Type 0) (d now : Data) → now.commits ≡ d.commits → now.tables ≡ d.tables → now.live ≡ d.live → IsIntactBy P d → IsIntactBy P now
intact_alike P d now commits tables live h =
    subst (λ (cs : List (List Change)). HasIntegrity P cs now.tables now.live) (sym commits)
    (subst (λ (ts : List Table). HasIntegrity P d.commits ts now.live) (sym tables) (subst (λ (xs : List Transaction). HasIntegrity P d.commits d.tables xs) (sym live) h))

-- ---- the start of a change

gives_of : {A B : Type 0} (P : A → Type 0) (Q : B → Type 0) (f : A → Result B Code) (r : Result A Code) → IfOk r P → ((a : A) → P a → IfOk (f a) Q) → IfOk (on f r) Q
gives_of P Q f (Ok a) p h = h a p
gives_of P Q f (Err code) p h = tt

gives_any : {A B : Type 0} (Q : B → Type 0) (f : A → Result B Code) (r : Result A Code) → ((a : A) → IfOk (f a) Q) → IfOk (on f r) Q
gives_any Q f (Ok a) h = h a
gives_any Q f (Err code) h = tt

both_ok : {A : Type 0} (P Q : A → Type 0) (r : Result A Code) → IfOk r P → IfOk r Q → IfOk r (λ a. P a × Q a)
both_ok P Q (Ok a) p q = (p, q)
both_ok P Q (Err code) p q = tt

module _ (living : List TableDef) (names : Names) (seen : (e : EditionNo) → (names.view e).tables ≡ living) (by_id : All (λ (t : TableDef). find (has_id t.id) living ≡ Some t) living) where
  abbrev Lives : TableDef → Type 0
  Lives t = find (has_id t.id) living ≡ Some t

  module _ (p : Place) (s : SqlTree) (binds : List Value) (d : Data) where
    abbrev v : EditionView
    v = names.view p.edition

    -- Its table lives and is one of the statement's, and its rows are different ones that are seen.
    record Starts (st : DmlState) : Type 0 where
      among : list_any (is_table st.plan.table.id) (tables_of v s) ≡ true
      lives : Lives st.plan.table
      sees : RestSeen d p.tx st.plan.table.id st.rest
      apart : FoundApart st.rest

    rows_start : (pl : Plan) → list_any (is_table pl.table.id) (tables_of v s) ≡ true → Lives pl.table → IfOk (on (λ rows. Ok (first_dml p.tx binds pl rows)) (dml.rows_of d p.tx s pl binds)) Starts
    rows_start pl among lives = by (dml.rows_of d p.tx s pl binds) (start-seen d p.tx pl binds s) (start-apart d p.tx pl binds s)
      where
        by : (r : Result (Result (List Taken) Code) Code) → StartSeen d p.tx pl.table.id r → StartApart r → IfOk (on (λ rows. Ok (first_dml p.tx binds pl rows)) r) Starts
        by (Ok rows) h k = record { among = among; lives = lives; sees = h; apart = k }
        by (Err code) h k = tt

    dml_starts : IfOk (started d p.tx v s binds) Starts
    dml_starts =
        gives_of (λ pl. (list_any (is_table pl.table.id) (tables_of v s) ≡ true) × Lives pl.table) Starts (λ pl. on (λ rows. Ok (first_dml p.tx binds pl rows)) (dml.rows_of d p.tx s pl binds)) (plan_of v s)
        (both_ok (λ pl. list_any (is_table pl.table.id) (tables_of v s) ≡ true) (λ pl. Lives pl.table) (plan_of v s) (plan_in v s) (plan-known Lives v (subst (All Lives) (sym (seen p.edition)) by_id) s))
        (λ pl h. rows_start pl h.0 h.1)

    rows_begin : IfOk (rows_started names p s binds d) Starts
    rows_begin = gives_any Starts _ (must (Ora 4043) (is_appliable v s)) (λ u. dml_starts)

    triggers_stay : (st : DmlState) → Starts st → IfOk (triggers_ready names p s st) (λ (k : Start). Starts k.standing)
    triggers_stay st h =
        gives_any (λ (k : Start). Starts k.standing) _ (ready_at names p timing.Before s) (λ before.
        gives_any (λ (k : Start). Starts k.standing) (start_of st before) (ready_at names p timing.After s) (λ after. h))

  -- ---- a change

  module _ (deeper : Statements) (all : AllWork living deeper) (p : Place) (s : SqlTree) (binds : List Value) (left room : ℕ) (b : Base) (fit : IsIntact living b.data_now) (top : IsTop b.data_now p.tx)
      (free : list_any (is_changing p.tx (tables_of (names.view p.edition) s)) p.changing ≡ false) where
    abbrev outer : UnderChange
    outer = under_by p.changing

    live : IsLive b.data_now p.tx
    live = top_live b.data_now p.tx top

    abbrev d1 : Data
    d1 = after_begin b.data_now p.tx

    begins : WorksIn living b p.tx outer [] (begun p b)
    begins = record { works = works_none living b (begun p b) refl refl (intact_begun (IsSuitable living) b.data_now fit.intact p.tx); leaves = leaves_begun b.data_now d1 p.tx outer live refl }

    fit1 : IsIntact living d1
    fit1 = fit_behind living b (begun p b) [] begins.works fit

    top1 : IsTop d1 p.tx
    top1 = top_stays b.data_now d1 p.tx outer top begins.leaves

    has_begun : is_some (own d1 p.tx).begun ≡ true
    has_begun = ap (λ (x : Transaction). is_some x.begun) (own-after p.tx (begun_at (length b.data_now.commits)) (λ x. refl) b.data_now.live (changed p.tx (begun_at (length b.data_now.commits)) b.data_now.live) refl live)

    rows_ran : (k : Start) → Starts p s binds d1 k.standing → WorksIn living (begun p b) p.tx outer (run_rows deeper names p s left k (first_doing (begun p b) room)).made (run_rows deeper names p s left k (first_doing (begun p b) room)).state.base
    rows_ran k h =
        all_rows_work living (site_of deeper names p s left) all (work_of s k) outer
        (is_around p.tx k.standing.plan.table.id p.changing (tables_of (names.view p.edition) s) h.among)
        (not_around p.tx k.standing.plan.table.id (tables_of (names.view p.edition) s) p.changing h.among free)
        (λ x e. still_around p.tx x p.changing (tables_of (names.view p.edition) s) e) h.lives k.standing.rest (first_doing (begun p b) room) fit1 top1 has_begun h.apart h.sees

    abbrev first : Doing
    first = first_doing (begun p b) room

    fired_works : (st : DmlState) → Starts p s binds d1 st
        → WorksIn living (begun p b) p.tx outer (fired_ran deeper names p s left st first).made (fired_ran deeper names p s left st first).state.base
    fired_works st h = by (triggers_ready names p s st) (triggers_stay p s binds d1 st h)
      where
        by : (r : Result Start Code) → IfOk r (λ (k : Start). Starts p s binds d1 k.standing)
            → WorksIn living (begun p b) p.tx outer (after [] (questions_on p (target s)) (go_on (run_rows deeper names p s left) r first)).made
            (after [] (questions_on p (target s)) (go_on (run_rows deeper names p s left) r first)).state.base
        by (Ok k) h = rows_ran k h
        by (Err code) h = in_same living p.tx outer (begun p b) fit1

    begun_ran_works : WorksIn living (begun p b) p.tx outer (begun_ran deeper names p s binds left first).made (begun_ran deeper names p s binds left first).state.base
    begun_ran_works = by (rows_started names p s binds d1) (rows_begin p s binds d1)
      where
        by : (r : Result DmlState Code) → IfOk r (Starts p s binds d1)
            → WorksIn living (begun p b) p.tx outer (go_on (fired_ran deeper names p s left) r first).made (go_on (fired_ran deeper names p s left) r first).state.base
        by (Ok st) h = fired_works st h
        by (Err code) h = in_same living p.tx outer (begun p b) fit1

    -- the transaction as it was had no change where it hadn't begun
    first_mark : (own b.data_now p.tx).begun ≡ None → length (own b.data_now p.tx).changes ≡ 0
    first_mark e = ap (λ (xs : List Change). length xs) (fit.intact.sound.begun p.tx (own b.data_now p.tx) (own_found p.tx b.data_now.live live) e)

    finished_works : (made : List Record) (r : Result ℕ Code) (σ : Doing) → WorksIn living b p.tx outer made σ.base → WorksIn living b p.tx outer (made ++ (finished p.tx b r σ).made) (finished p.tx b r σ).state
    finished_works made (Ok n) σ h = in_both living p.tx outer b σ.base σ.base made [] h (in_same living p.tx outer σ.base (fit_behind living b σ.base made h.works fit))
    finished_works made (Err code) σ h =
        let back : Data = after_mark σ.base.data_now p.tx (mark_of b.data_now p.tx) in
        record {
          works = works_both living b σ.base (undone p.tx b σ.base) made [] h.works (works_none living σ.base (undone p.tx b σ.base) refl refl (intact_marked (IsSuitable living) σ.base.data_now h.works.intact p.tx (mark_of b.data_now p.tx) first_mark));
          leaves = leaves_back b.data_now σ.base.data_now back p.tx outer (mark_of b.data_now p.tx) refl live h.leaves refl;
        }

    pub change_works : WorksIn living b p.tx outer (change_ran deeper names p s binds left room b).made (change_ran deeper names p s binds left room b).state
    change_works =
        let o : Outcome Doing (Result ℕ Code) = begun_ran deeper names p s binds left (first_doing (begun p b) room) in
        finished_works o.made o.value o.state (in_both living p.tx outer b (begun p b) o.state.base [] o.made begins begun_ran_works)

    -- ---- a query

    query_works : (q : Select) (a : Answered) → Locks d1 p.tx outer a.after → (r : Result Ran Code) → IfOk r (λ (x : Ran). x.data_after ≡ a.after) → WorksIn living b p.tx outer (ended b r).made (ended b r).state
    query_works q a h (Ok r) is = record {
      works = works_none living b (with_data r.data_after b) (ap (λ (d : Data). d.commits) is ∙ h.commits) (ap (λ (d : Data). d.tables) is ∙ h.tables)
          (intact_alike (IsSuitable living) d1 r.data_after (ap (λ (d : Data). d.commits) is ∙ h.commits) (ap (λ (d : Data). d.tables) is ∙ h.tables) (ap (λ (d : Data). d.live) is ∙ h.live) fit1.intact);
      leaves = subst (Leaves b.data_now p.tx outer) (sym is) (leaves_leaves b.data_now d1 a.after p.tx outer begins.leaves h.leaves);
    }
    query_works q a h (Err code) is = in_same living p.tx outer b fit

  checked_works : (deeper : Statements) (all : AllWork living deeper) (p : Place) (s : SqlTree) (binds : List Value) (left room : ℕ) (b : Base) → IsIntact living b.data_now → IsTop b.data_now p.tx
      → list_any (is_changing p.tx (tables_of (names.view p.edition) s)) p.changing ≡ false
      → WorksIn living b p.tx (under_by p.changing) (checked_ran deeper names p s binds left room b).made (checked_ran deeper names p s binds left room b).state
  checked_works deeper all p (sql.Query q) binds left room b fit top free =
      let a : Answered = Query q (after_begin b.data_now p.tx) p.tx (names.view p.edition) binds in
      query_works deeper all p (sql.Query q) binds left room b fit top free q a (query_locked p.tx (under_by p.changing) q (after_begin b.data_now p.tx) (names.view p.edition) binds) (query_ran p room a) (ran_given p room a.after a.answer)
  checked_works deeper all p s binds left room b fit top free = change_works deeper all p s binds left room b fit top free

  -- ---- the tests

  not_mutating : (p : Place) (s : SqlTree) (binds : List Value) (u : Unit {0}) → name_tests names p s binds ≡ Ok u → list_any (is_changing p.tx (tables_of (names.view p.edition) s)) p.changing ≡ false
  not_mutating p s binds u e = by (checked_with (names.view p.edition) binds s) (list_any (is_changing p.tx (tables_of (names.view p.edition) s)) p.changing) e
    where
      by : (c : Result (Unit {0}) Code) (m : Bool) → on (λ u. must (Ora 4091) (not m)) c ≡ Ok u → m ≡ false
      by (Ok x) false e = refl
      by (Ok x) true e = cc
      by (Err code) m e = cc

  tested_works : (deeper : Statements) (all : AllWork living deeper) (p : Place) (s : SqlTree) (binds : List Value) (left room : ℕ) (b : Base) → IsIntact living b.data_now → IsTop b.data_now p.tx
      → (r : Result (Unit {0}) Code) → name_tests names p s binds ≡ r
      → WorksIn living b p.tx (under_by p.changing) (unless_refused r b (checked_ran deeper names p s binds left room b)).made (unless_refused r b (checked_ran deeper names p s binds left room b)).state
  tested_works deeper all p s binds left room b fit top (Ok u) e = checked_works deeper all p s binds left room b fit top (not_mutating p s binds u e)
  tested_works deeper all p s binds left room b fit top (Err code) e = in_same living p.tx (under_by p.changing) b fit

  -- a statement, whatever level is left
  pub statement_works : (n : ℕ) → AllWork living (Stmt names n)
  statement_works zero p s binds left room b fit top = in_same living p.tx (under_by p.changing) b fit
  statement_works (suc n) p s binds left room b fit top = tested_works (Stmt names n) (statement_works n) p s binds left room b fit top (name_tests names p s binds) refl
