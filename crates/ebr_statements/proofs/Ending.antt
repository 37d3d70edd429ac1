-- A statement's tests, its start, and its end.
use Rattle.std.proofs.Common.{◌≡◌, ℕ, suc, ◌+◌, ◌-◌, ◌<◌, false, List, [], ◌++◌, map, Result, Ok, Err, refl, sym, ap, subst, ◌∙◌, arith}
use Rattle.ebr_base.specs.declared.code.Code.{Code}
use Rattle.ebr_base.specs.declared.code.Code.TheVariants.{Ora}
use Rattle.ebr_base.specs.declared.code.Stop.{Stop}
use Rattle.ebr_base.specs.declared.code.Stop.TheVariants.{Raised}
use Rattle.ebr_base.specs.declared.code.Stop.TheVariants as stop
use Rattle.std.specs.List.{list_any}
use Rattle.ebr_base.specs.declared.numbers.EditionNo.{EditionNo}
use Rattle.ebr_base.specs.declared.numbers.TableId.{TableId}
use Rattle.ebr_base.specs.declared.row.TxId.{TxId}
use Rattle.ebr_base.specs.declared.value.Value.{Value}
use Rattle.ebr_cross.specs.declared.catalogue.Catalogue.{Catalogue}
use Rattle.ebr_levels.specs.Keeps.{UnderChange}
use Rattle.ebr_statements.specs.Fits.{Remains}
use Rattle.ebr_statements.specs.inside.Fits.{Covers, Spares, under_by}
use Rattle.ebr_statements.proofs.Naming.{covers_own, spares_around}
use Rattle.ebr_ast.specs.declared.kinds.Origin.{Origin}
use Rattle.ebr_ast.specs.declared.query.Query.{Query as Select}
use Rattle.ebr_ast.specs.declared.sql.SqlTree.{SqlTree}
use Rattle.ebr_ast.specs.declared.sql.SqlTree.TheVariants as sql
use Rattle.ebr_ast.specs.declared.view.EditionView.{EditionView}
use Rattle.ebr_cross.specs.Catalogue.{Lists, View}
use Rattle.ebr_asks.specs.declared.answer.Answer.{Answer}
use Rattle.ebr_asks.specs.declared.answer.Answer.TheVariants as answer
use Rattle.ebr_query.specs.Queries.{Query}
use Rattle.ebr_dml.specs.Steps.{DmlState}
use Rattle.ebr_sqlcheck.specs.Checked.{on}
use Rattle.ebr_tx.specs.declared.savepoints.TxMark.{TxMark}
use Rattle.ebr_tx.specs.Data.{Data}
use Rattle.ebr_tx.specs.Calls.{after_begin, after_mark, mark_of}
use Rattle.ebr_record.specs.Keeper.{Keeper}
use Rattle.ebr_database.specs.declared.failure.Failure.{Failure}
use Rattle.ebr_database.specs.declared.failure.Failure.TheVariants as failure
use Rattle.ebr_database.specs.declared.failure.Halt.{Halt}
use Rattle.ebr_database.specs.Base.{Base, with_data}
use Rattle.ebr_database.specs.Outcome.{Outcome, gives, after, go_on}
use Rattle.ebr_database.specs.Shows.{GaveUp, Said, Shows, Tells, base_of}
use Rattle.ebr_database.proofs.Goes.{Goes, says, shown, then_gives, then_gave_up}
use Rattle.ebr_database.proofs.Keeping.{grew_same, stays}
use Rattle.ebr_exec.specs.Places.{Names, Place, Under, is_changing, names_of, target, questions_on}
use Rattle.ebr_exec.specs.Shows.{Runs}
use Rattle.ebr_exec.specs.Statements.{Statements, query_ran, refused}
use Rattle.ebr_exec.specs.Statements as exec
use Rattle.ebr_statements.specs.declared.site.Site.{Site as Standpoint}
use Rattle.ebr_statements.specs.declared.start.Start.{Start as CodeStart}
use Rattle.ebr_statements.specs.declared.tally.Tally.{Tally}
use Rattle.ebr_bodies.specs.Bodies.{Doing}
use Rattle.ebr_bodies.specs.Ready.{operation}
use Rattle.ebr_bodies.specs.Rows.{rows_of}
use Rattle.ebr_bodies.specs.Statements as spec
use Rattle.ebr_statements.specs.inside.Answered.{Tests, as_failure, as_refusal, as_refused}
use Rattle.ebr_statements.specs.inside.Held.{Starts, started_with}
use Rattle.ebr_statements.specs.inside.Sites.{doing_at, site_at, work_at}
use Rattle.ebr_statements.specs.inside.Views.{place_at}
use Rattle.ebr_bodies.specs.Statements.{Start, Stmt, begun_ran, change_ran, checked_ran, finished, fired_ran, first_doing, begun, name_tests, rows_started, run_rows, site_of, tables_of, triggers_ready, unless_refused, work_of}

-- 1. Tests

module _ (names : Names) (p : Place) (s : SqlTree) (binds : List Value) (left room : ℕ) (b : Base) (k : Keeper) where
  -- with so many levels left, and one more
  abbrev behind : ℕ → Outcome Base Answer
  behind n = checked_ran (Stmt names n) names p s binds left room b

  refuses_at : (n : ℕ) (code : Code) → name_tests names p s binds ≡ Err code → Said (Stmt names (suc n) p s binds left room b) b k k (refused code)
  refuses_at n code e = subst (λ r. Said (unless_refused r b (behind n)) b k k (refused code)) (sym e) (says b (refused code) k)

  passes_at : (n : ℕ) → name_tests names p s binds ≡ Ok tt → (now : Keeper) (b' : Base) (r : Result Answer Halt) → Tells (behind n) b' k now r → Tells (Stmt names (suc n) p s binds left room b) b' k now r
  passes_at n e now b' r t = subst (λ x. Tells (unless_refused x b (behind n)) b' k now r) (sym e) t

module _ (names : Names) (levels : ℕ) (p : Place) (s : SqlTree) (binds : List Value) (left room : ℕ) (b : Base) (k : Keeper) where
  one_more : 0 < levels → suc (levels - 1) ≡ levels
  one_more h = omega (arith, h)

  -- no level is left
  pub too_deep : levels ≡ 0 → Said (Stmt names levels p s binds left room b) b k k (refused (Ora 36))
  too_deep e = subst (λ n. Said (Stmt names n p s binds left room b) b k k (refused (Ora 36))) (sym e) (says b (refused (Ora 36)) k)

  -- a test of names refuses
  pub test_refuses : 0 < levels → (code : Code) → name_tests names p s binds ≡ Err code → Said (Stmt names levels p s binds left room b) b k k (refused code)
  test_refuses h code e = subst (λ n. Said (Stmt names n p s binds left room b) b k k (refused code)) (one_more h) (refuses_at names p s binds left room b k (levels - 1) code e)

  -- none refuses
  pub passes : 0 < levels → name_tests names p s binds ≡ Ok tt → (now : Keeper) (b' : Base) (r : Result Answer Halt)
      → Tells (checked_ran (Stmt names (levels - 1)) names p s binds left room b) b' k now r → Tells (Stmt names levels p s binds left room b) b' k now r
  passes h e now b' r t = subst (λ n. Tells (Stmt names n p s binds left room b) b' k now r) (one_more h) (passes_at names p s binds left room b k (levels - 1) e now b' r t)

-- 2. The start of a change

module _ (deeper : Statements) (names : Names) (p : Place) (s : SqlTree) (binds : List Value) (left : ℕ) (σ : Doing) where
  -- from its rows on
  abbrev from_rows : Result DmlState Code → Outcome Doing (Result ℕ Code)
  from_rows rows = go_on (fired_ran deeper names p s left) rows σ

  abbrev from_triggers : Result Start Code → Outcome Doing (Result ℕ Code)
  from_triggers start = after [] (questions_on p (target s)) (go_on (run_rows deeper names p s left) start σ)

  starts_from : (rows : Result DmlState Code) (it : Start) → on (triggers_ready names p s) rows ≡ Ok it → from_rows rows ≡ from_triggers (Ok it)
  starts_from (Ok standing) it e = ap from_triggers e
  starts_from (Err code) it e = absurd cc

  pub starts : (it : Start) → started_with names p s binds σ.base.data_now ≡ Ok it → begun_ran deeper names p s binds left σ ≡ from_triggers (Ok it)
  starts it e = starts_from (rows_started names p s binds σ.base.data_now) it e

  not_started_from : (rows : Result DmlState Code) (code : Code) (k : Keeper) → on (triggers_ready names p s) rows ≡ Err code → Said (from_rows rows) σ k k (Err code)
  not_started_from (Ok standing) code k e =
      let is : from_rows (Ok standing) ≡ from_triggers (Err code) = ap from_triggers e in
      subst (λ o. Said o σ k k (Err code)) (sym is) (record { state = refl; grew = grew_same k; value = refl })
  not_started_from (Err first) code k e =
      let is : from_rows (Err first) ≡ gives σ (Err code) = ap (λ (start : Result Start Code). go_on (run_rows deeper names p s left) start σ) e in
      subst (λ o. Said o σ k k (Err code)) (sym is) (says σ (Err code) k)

  pub not_started : (code : Code) (k : Keeper) → started_with names p s binds σ.base.data_now ≡ Err code → Said (begun_ran deeper names p s binds left σ) σ k k (Err code)
  not_started code k e = not_started_from (rows_started names p s binds σ.base.data_now) code k e

-- 3. Its end

module _ (deeper : Statements) (names : Names) (p : Place) (s : SqlTree) (binds : List Value) (left room : ℕ) (b : Base) (k now : Keeper) where
  abbrev ran : Outcome Doing (Result ℕ Code)
  ran = begun_ran deeper names p s binds left (first_doing (begun p b) room)

  pub ends_well : (n : ℕ) (σ : Doing) → Said ran σ k now (Ok n) → Said (change_ran deeper names p s binds left room b) σ.base k now (answer.Count n σ.steps σ.lines)
  ends_well n σ h = then_gives ran (finished p.tx b) k now σ (Ok n) σ.base _ h refl

  pub ends_refused : (code : Code) (σ : Doing) (d : Data) → d ≡ after_mark σ.base.data_now p.tx (mark_of b.data_now p.tx) → Said ran σ k now (Err code)
      → Said (change_ran deeper names p s binds left room b) (with_data d σ.base) k now (answer.Refused code σ.steps σ.lines)
  ends_refused code σ d e h =
      then_gives ran (finished p.tx b) k now σ (Err code) (with_data d σ.base) (answer.Refused code σ.steps σ.lines) h
      (ap (λ x. gives (with_data x σ.base) (answer.Refused code σ.steps σ.lines)) (sym e))

  pub gives_up : (why : Halt) → GaveUp k now ran.made why → GaveUp k now (change_ran deeper names p s binds left room b).made why
  gives_up why h = then_gave_up ran (finished p.tx b) k now why h

-- 4. As the code has it

module _ (names : Names) (levels : ℕ) (p : Place) (s : SqlTree) (binds : List Value) (left room : ℕ) (b : Base) (k : Keeper) where
  pub refuses : (stop : Stop) → 0 < levels → Tests (Err stop) (name_tests names p s binds) → Tells (Stmt names levels p s binds left room b) b k k (as_refusal stop)
  refuses (Raised code) h e = test_refuses names levels p s binds left room b k h code e
  refuses stop.NoMemory h e = stays k (Stmt names levels p s binds left room b).made

-- a query
module _ (deeper : Statements) (names : Names) (p : Place) (q : Select) (v : EditionView) (seen : v ≡ names.view p.edition) (binds : List Value) (left room : ℕ) (x d : Data) (k : Keeper) where
  abbrev queried : Outcome Base Answer
  queried = checked_ran deeper names p (sql.Query q) binds left room (base_of x k)

  abbrev runs : Result Answer Stop → EditionView → Type 0
  runs r view = Runs r x d (query_ran p room (Query q (after_begin x p.tx) p.tx view binds))

  pub query_answers : (a : Answer) → runs (Ok a) v → Said queried (base_of d k) k k a
  query_answers a h = subst (λ o. Said o (base_of d k) k k a) (sym (ap (exec.ended (base_of x k)) (subst (runs (Ok a)) seen h))) (says (base_of d k) a k)

  pub query_refuses : (stop : Stop) → runs (Err stop) v → Tells queried (base_of d k) k k (as_refusal stop)
  query_refuses (Raised code) h =
      let defined = subst (runs (Err (Raised code))) seen h in
      subst (λ o. Said o (base_of d k) k k (refused code)) (sym (ap (exec.ended (base_of x k)) defined.0))
      (subst (λ y. Said (gives (base_of x k) (refused code)) (base_of y k) k k (refused code)) (sym defined.1) (says (base_of x k) (refused code) k))
  query_refuses stop.NoMemory h = stays k queried.made

pub no_query : (deeper : Statements) (names : Names) (p : Place) (s : SqlTree) (binds : List Value) (left room : ℕ) (b : Base) → ((q : Select) → s ≡ sql.Query q → ⊥)
    → checked_ran deeper names p s binds left room b ≡ change_ran deeper names p s binds left room b
no_query deeper names p (sql.Query q) binds left room b h = absurd (h q refl)
no_query deeper names p (sql.Insert i) binds left room b h = refl
no_query deeper names p (sql.Update u) binds left room b h = refl
no_query deeper names p (sql.Delete d) binds left room b h = refl
no_query deeper names p (sql.Apply name) binds left room b h = refl

-- a change in a transaction that has begun
module _ (lists : Lists) (v : EditionView) (origin : Origin) (w : Standpoint) (changing : List Under) (s : SqlTree) (binds : List Value) (seen : v ≡ View lists v.edition) (split : w.changing ≡ changing ++ map (spec.under w.t) (tables_of v s)) (x : Data) (k : Keeper) (tally : Tally) where
  abbrev place : Place
  place = place_at v.edition origin w.t changing

  abbrev deeper_ones : Statements
  deeper_ones = Stmt (names_of lists) w.levels

  abbrev σ : Doing
  σ = doing_at x k tally

  abbrev begun_change : Outcome Doing (Result ℕ Code)
  begun_change = begun_ran deeper_ones (names_of lists) place s binds w.left σ

  same_site : site_of deeper_ones (names_of lists) place s w.left ≡ site_at (names_of lists) w
  same_site = ap (λ (c : List Under). site_at (names_of lists) (record w { changing = c })) (ap (λ y. changing ++ map (spec.under w.t) (tables_of y s)) (sym seen) ∙ sym split)

  change_begins : (it : CodeStart) → Starts (View lists) (operation s) (Ok it) (started_with (names_of lists) place s binds x)
      → Goes begun_change (rows_of (site_at (names_of lists) w) (work_at it.rows it.work) it.rows.rest σ) k k
  change_begins it h =
      let same_work : work_of s h.0 ≡ work_at it.rows it.work =
      λ i. record { plan = (h.2 i).plan; binds = (h.2 i).binds; operation = sym h.3.operation i; before = h.3.before_is i; after = h.3.after_is i } in
      let there : run_rows deeper_ones (names_of lists) place s w.left h.0 σ ≡ rows_of (site_at (names_of lists) w) (work_at it.rows it.work) it.rows.rest σ =
      λ i. rows_of (same_site i) (same_work i) (h.2 i).rest σ in
      record {
        made = [];
        asked = questions_on place (target s);
        is = starts deeper_ones (names_of lists) place s binds w.left σ h.0 h.1 ∙ ap (after [] (questions_on place (target s))) there;
        grew = grew_same k;
      }

  pub change_shows : (it : CodeStart) → Starts (View lists) (operation s) (Ok it) (started_with (names_of lists) place s binds x) → (τ : Doing) (now : Keeper) (r : Result ℕ Failure)
      → Shows (rows_of (site_at (names_of lists) w) (work_at it.rows it.work) it.rows.rest σ) τ k now r → Shows begun_change τ k now r
  change_shows it h τ now r shows = shown begun_change (rows_of (site_at (names_of lists) w) (work_at it.rows it.work) it.rows.rest σ) k k now τ r (change_begins it h) shows

  pub change_not_begun : (stop : Stop) → Starts (View lists) (operation s) (Err stop) (started_with (names_of lists) place s binds x) → Shows begun_change σ k k (Err (as_failure stop))
  change_not_begun (Raised code) h = not_started deeper_ones (names_of lists) place s binds w.left σ code k h
  change_not_begun stop.NoMemory h = stays k begun_change.made

-- a change
module _ (deeper : Statements) (names : Names) (p : Place) (s : SqlTree) (binds : List Value) (left room : ℕ) (x y : Data) (k now : Keeper) (first : Tally) (begins_at : y ≡ after_begin x p.tx) (none : first ≡ record { steps = 0; room = room; lines = [] }) where
  abbrev change_of : Outcome Doing (Result ℕ Code)
  change_of = begun_ran deeper names p s binds left (doing_at y k first)

  abbrev whole_change : Outcome Base Answer
  whole_change = change_ran deeper names p s binds left room (base_of x k)

  same_ran : change_of ≡ ran deeper names p s binds left room (base_of x k) k now
  same_ran = λ i. begun_ran deeper names p s binds left (doing_at (begins_at i) k (none i))

  pub change_done : (n : ℕ) (d : Data) (tally : Tally) → Said change_of (doing_at d now tally) k now (Ok n) → Said whole_change (base_of d now) k now (answer.Count n tally.steps tally.lines)
  change_done n d tally h = ends_well deeper names p s binds left room (base_of x k) k now n (doing_at d now tally) (subst (λ o. Said o (doing_at d now tally) k now (Ok n)) same_ran h)

  pub change_fails : (e : Failure) (d d' : Data) (m : TxMark) (tally : Tally) → d' ≡ after_mark d p.tx m → m ≡ mark_of x p.tx → Shows change_of (doing_at d now tally) k now (Err e) → Tells whole_change (base_of d' now) k now (as_refused e tally)
  change_fails (failure.Refused code) d d' m tally back marked h =
      ends_refused deeper names p s binds left room (base_of x k) k now code (doing_at d now tally) d' (back ∙ ap (after_mark d p.tx) marked) (subst (λ o. Said o (doing_at d now tally) k now (Err code)) same_ran h)
  change_fails (failure.Halted why) d d' m tally back marked h =
      gives_up deeper names p s binds left room (base_of x k) k now why (subst (λ (o : Outcome Doing (Result ℕ Code)). GaveUp k now o.made why) same_ran h)

-- a change whose site was made
module _ (t : TxId) (changing : List Under) (tables mine : List TableId) (left levels : ℕ) (site : Standpoint) (is : site ≡ record { t = t; changing = changing ++ map (spec.under t) tables; left = left; levels = levels }) (same : tables ≡ mine) where
  pub change_tells : (names : Names) (e : EditionNo) (origin : Origin) (s : SqlTree) (binds : List Value) (room : ℕ) (b b' : Base) (k k' : Keeper) (r : Result Answer Halt) → ((q : Select) → s ≡ sql.Query q → ⊥)
      → (site.changing ≡ changing ++ map (spec.under site.t) mine → Tells (change_ran (Stmt names site.levels) names (place_at e origin site.t changing) s binds site.left room b) b' k k' r)
      → Tells (checked_ran (Stmt names levels) names (place_at e origin t changing) s binds left room b) b' k k' r
  change_tells names e origin s binds room b b' k k' r none h =
      let told_at = subst (λ (w : Standpoint). w.changing ≡ changing ++ map (spec.under w.t) mine → Tells (change_ran (Stmt names w.levels) names (place_at e origin w.t changing) s binds w.left room b) b' k k' r) is h in
      subst (λ o. Tells o b' k k' r) (sym (no_query (Stmt names levels) names (place_at e origin t changing) s binds left room b none)) (told_at (ap (λ ts. changing ++ map (spec.under t) ts) same))

  pub site_remains : (now : Catalogue) (a b : List EditionView) (x y : Data) → list_any (is_changing t tables) changing ≡ false → ((under : UnderChange) → Spares under site.t site.changing mine → Remains now site.t under a x b y)
      → Remains now t (under_by changing) a x b y
  site_remains now a b x y free h =
      let left_at = subst (λ (w : Standpoint). (under : UnderChange) → Spares under w.t w.changing mine → Remains now w.t under a x b y) is h in
      left_at (under_by changing) (subst (Spares (under_by changing) t (changing ++ map (spec.under t) tables)) same (spares_around changing t tables free))

  pub site_covers : Covers site.changing site.t mine
  site_covers = subst (λ (w : Standpoint). Covers w.changing w.t mine) (sym is) (subst (λ ts. Covers (changing ++ map (spec.under t) ts) t mine) (sym same) (covers_own changing t mine))

pub too_deep_as : (names : Names) (levels : ℕ) (p : Place) (s : SqlTree) (binds : List Value) (left room : ℕ) (b : Base) (k : Keeper) (a : Answer) → a ≡ refused (Ora 36) → levels ≡ 0 → Said (Stmt names levels p s binds left room b) b k k a
too_deep_as names levels p s binds left room b k a is e = subst (Said (Stmt names levels p s binds left room b) b k k) (sym is) (too_deep names levels p s binds left room b k e)

module _ (lists : Lists) (v : EditionView) (origin : Origin) (w : Standpoint) (changing : List Under) (s : SqlTree) (binds : List Value) (seen : v ≡ View lists v.edition) (split : w.changing ≡ changing ++ map (spec.under w.t) (tables_of v s)) (x : Data) (k : Keeper) (tally : Tally) where
  pub change_refused_first : (stop : Stop) (f : Failure) → f ≡ as_failure stop → Starts (View lists) (operation s) (Err stop) (started_with (names_of lists) (place_at v.edition origin w.t changing) s binds x)
      → Shows (begun_ran (Stmt (names_of lists) w.levels) (names_of lists) (place_at v.edition origin w.t changing) s binds w.left (doing_at x k tally)) (doing_at x k tally) k k (Err f)
  change_refused_first stop f is h =
      subst (λ e. Shows (begun_ran (Stmt (names_of lists) w.levels) (names_of lists) (place_at v.edition origin w.t changing) s binds w.left (doing_at x k tally)) (doing_at x k tally) k k (Err e)) (sym is)
      (change_not_begun lists v origin w changing s binds seen split x k tally stop h)
