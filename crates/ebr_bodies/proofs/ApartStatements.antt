-- A statement depends on the catalogue through what its edition sees and through its questions, and on how much is kept through
-- EBR-0042: by induction on its level.
use Rattle.std.proofs.Common.{◌≡◌, ℕ, zero, suc, List, Result, Ok, Err, ap, subst}
use Rattle.std.specs.Prelude.{not}
use Rattle.std.specs.List.{AllByRecursion}
use Rattle.ebr_base.specs.declared.code.Code.{Code}
use Rattle.ebr_base.specs.declared.code.Code.TheVariants.{Ora}
use Rattle.ebr_base.specs.declared.row.TxId.{TxId}
use Rattle.ebr_base.specs.declared.value.Value.{Value}
use Rattle.ebr_ast.specs.declared.sql.SqlTree.{SqlTree}
use Rattle.ebr_ast.specs.declared.sql.SqlTree.TheVariants as sql
use Rattle.ebr_ast.specs.declared.view.EditionView.{EditionView}
use Rattle.ebr_asks.specs.declared.answer.Answer.{Answer}
use Rattle.ebr_sqlcheck.specs.Checked.{must, on}
use Rattle.ebr_sqlcheck.specs.Statements.{checked_with}
use Rattle.ebr_tx.specs.Calls.{after_begin}
use Rattle.ebr_query.specs.Queries.{Query}
use Rattle.ebr_dml.specs.Steps.{DmlState}
use Rattle.ebr_database.specs.Base.{Base}
use Rattle.ebr_database.specs.Outcome.{Outcome, go_on}
use Rattle.ebr_exec.specs.Places.{Names, Place, target, questions_on}
use Rattle.ebr_exec.specs.Statements.{Statements, Ran, ended, query_ran, refused}
use Rattle.ebr_bodies.specs.Agree.{AppliesAlike}
use Rattle.ebr_bodies.specs.Bodies.{Doing}
use Rattle.ebr_bodies.specs.OtherWorlds.{at_used}
use Rattle.ebr_bodies.specs.Rows.{rows_of}
use Rattle.ebr_bodies.specs.Statements.{Start, is_mutating, changing_in, rows_started, triggers_ready, work_of, run_rows, first_doing, finished, begun, fired_ran, begun_ran, change_ran, checked_ran, unless_refused, name_tests, at_level, Stmt}
use Rattle.ebr_bodies.proofs.Apart.{Apart, still, both, behind, goes}
use Rattle.ebr_bodies.proofs.ApartBodies.{StatementsApart, doing_at, there}
use Rattle.ebr_bodies.proofs.ApartRows.{rows_of_apart}
use Rattle.ebr_bodies.proofs.ReadyAlike.{SeesSame, ReadySame}
use Rattle.ebr_bodies.proofs.StartsAlike.{StartSame, fired_both, rows_same, ready_both_see, ready_both_same}

module _ (m n : Names) where
  ended_apart : (r : Result Ran Code) (b : Base) (u : ℕ) → Apart m n at_used (ended b r) (ended (at_used u b) r)
  ended_apart (Ok r) b u = still m n at_used _ u r.answer
  ended_apart (Err code) b u = still m n at_used b u (refused code)

  finished_apart : (t : TxId) (before : Base) (v : ℕ) (r : Result ℕ Code) (σ : Doing) (u : ℕ) → Apart m n at_used (finished t before r σ) (finished t (at_used v before) r (doing_at u σ))
  finished_apart t before v (Ok count) σ u = still m n at_used _ u _
  finished_apart t before v (Err code) σ u = still m n at_used _ u _

  unless_apart : (r : Result (Unit {0}) Code) (b : Base) (u : ℕ) (o p : Outcome Base Answer) → Apart m n at_used o p → Apart m n at_used (unless_refused r b o) (unless_refused r (at_used u b) p)
  unless_apart (Ok x) b u o p h = h
  unless_apart (Err code) b u o p h = still m n at_used b u (refused code)

  module _ (d e : Statements) (deeper : StatementsApart m n d e) (p : Place) (sees : SeesSame m n p.edition) (s : SqlTree) (binds : List Value) (left : ℕ) where
    -- ---- a change

    run_rows_apart : (k : Start) → AllByRecursion (ReadySame m n) k.before → AllByRecursion (ReadySame m n) k.after → (σ : Doing) (u : ℕ) → Apart m n doing_at (run_rows d m p s left k σ) (run_rows e n p s left k (doing_at u σ))
    run_rows_apart k before after' σ u =
        subst (λ (v : EditionView). Apart m n doing_at (run_rows d m p s left k σ) (rows_of (there m n d e deeper p.tx (changing_in v p s) left) (work_of s k) k.standing.rest (doing_at u σ))) sees
        (rows_of_apart m n d e deeper p.tx (changing_in (m.view p.edition) p s) left (work_of s k) before after' k.standing.rest σ u)

    start_apart : (x : Result Start Code) → StartSame m n p sees x → (σ : Doing) (u : ℕ) → Apart m n doing_at (go_on (run_rows d m p s left) x σ) (go_on (run_rows e n p s left) x (doing_at u σ))
    start_apart (Ok k) h σ u = run_rows_apart k h.0 h.1 σ u
    start_apart (Err code) h σ u = still m n doing_at σ u (Err code)

    fired_apart : AppliesAlike m n p s → (st : DmlState) (σ : Doing) (u : ℕ) → Apart m n doing_at (fired_ran d m p s left st σ) (fired_ran e n p s left st (doing_at u σ))
    fired_apart applied st σ u = behind m n doing_at (questions_on p (target s)) (go_on (run_rows d m p s left) (triggers_ready m p s st) σ) (go_on (run_rows e n p s left) (triggers_ready n p s st) (doing_at u σ)) (λ h.
        let fired = fired_both m n p sees s h applied in
        subst (λ (x : Result Start Code). Apart m n doing_at (go_on (run_rows d m p s left) (triggers_ready m p s st) σ) (go_on (run_rows e n p s left) x (doing_at u σ))) (ready_both_same m n p sees s st fired)
        (start_apart (triggers_ready m p s st) (ready_both_see m n p sees s st fired) σ u))

    begun_apart : AppliesAlike m n p s → (σ : Doing) (u : ℕ) → Apart m n doing_at (begun_ran d m p s binds left σ) (begun_ran e n p s binds left (doing_at u σ))
    begun_apart applied σ u =
        subst (λ (x : Result DmlState Code). Apart m n doing_at (begun_ran d m p s binds left σ) (go_on (fired_ran e n p s left) x (doing_at u σ))) (rows_same m n p sees s binds σ.base.data_now)
        (goes m n doing_at (fired_ran d m p s left) (fired_ran e n p s left) (fired_apart applied) (rows_started m p s binds σ.base.data_now) σ u)

    change_apart : AppliesAlike m n p s → (room : ℕ) (b : Base) (u : ℕ) → Apart m n at_used (change_ran d m p s binds left room b) (change_ran e n p s binds left room (at_used u b))
    change_apart applied room b u = both m n doing_at at_used (begun_ran d m p s binds left (first_doing (begun p b) room)) (begun_ran e n p s binds left (first_doing (begun p (at_used u b)) room)) (finished p.tx b) (finished p.tx (at_used u b))
        (begun_apart applied (first_doing (begun p b) room) u) (λ r σ u'. finished_apart p.tx b u r σ u')

  module _ (d e : Statements) (deeper : StatementsApart m n d e) (p : Place) (sees : SeesSame m n p.edition) where
    -- ---- behind the tests of names

    checked_apart : (s : SqlTree) → AppliesAlike m n p s → (binds : List Value) (left room : ℕ) (b : Base) (u : ℕ) → Apart m n at_used (checked_ran d m p s binds left room b) (checked_ran e n p s binds left room (at_used u b))
    checked_apart (sql.Query q) h binds left room b u =
        subst (λ (v : EditionView). Apart m n at_used (checked_ran d m p (sql.Query q) binds left room b) (ended (at_used u b) (query_ran p room (Query q (after_begin b.data_now p.tx) p.tx v binds)))) sees
        (ended_apart (query_ran p room (Query q (after_begin b.data_now p.tx) p.tx (m.view p.edition) binds)) b u)
    checked_apart (sql.Insert i) h binds left room b u = change_apart d e deeper p sees (sql.Insert i) binds left h room b u
    checked_apart (sql.Update x) h binds left room b u = change_apart d e deeper p sees (sql.Update x) binds left h room b u
    checked_apart (sql.Delete x) h binds left room b u = change_apart d e deeper p sees (sql.Delete x) binds left h room b u
    checked_apart (sql.Apply name) h binds left room b u = change_apart d e deeper p sees (sql.Apply name) binds left h room b u

    -- ---- one level

    tests_same : (s : SqlTree) (binds : List Value) → name_tests m p s binds ≡ name_tests n p s binds
    tests_same s binds = ap (λ (v : EditionView). on (λ u. must (Ora 4091) (not (is_mutating v p s))) (checked_with v binds s)) sees

    level_apart : (s : SqlTree) → AppliesAlike m n p s → (binds : List Value) (left room : ℕ) (b : Base) (u : ℕ) → Apart m n at_used (at_level d m p s binds left room b) (at_level e n p s binds left room (at_used u b))
    level_apart s applied binds left room b u =
        subst (λ (r : Result (Unit {0}) Code). Apart m n at_used (at_level d m p s binds left room b) (unless_refused r (at_used u b) (checked_ran e n p s binds left room (at_used u b)))) (tests_same s binds)
        (unless_apart (name_tests m p s binds) b u _ _ (checked_apart s applied binds left room b u))

  pub stmt_apart : (levels : ℕ) → StatementsApart m n (Stmt m levels) (Stmt n levels)
  stmt_apart zero p sees s applied binds left room b u = still m n at_used b u (refused (Ora 36))
  stmt_apart (suc l) p sees s applied binds left room b u = level_apart (Stmt m l) (Stmt n l) (stmt_apart l) p sees s applied binds left room b u
