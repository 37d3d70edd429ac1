-- Statements, their rows and bodies: each call's answer is that of the definition, and what it leaves.
use Rattle.std.proofs.Common.{◌≡◌, ◌∙◌, ◌<◌, ◌+◌, true, false, [], ◌∷◌, ◌++◌, Some, Err, refl, sym, ap, subst, arith}
use Rattle.std.specs.Prelude.{OnErr}
use Rattle.std.proofs.lemmas.Result.{err_from_is_err_and, on_err_weaker}
use Rattle.ebr_asks.specs.declared.ask.Ask.TheVariants as ask
use Rattle.ebr_ast.specs.Views.{IsInOrder}
use Rattle.ebr_ast.specs.declared.sql.SqlTree.TheVariants as sql
use Rattle.ebr_ast.specs.declared.view.EditionView.{EditionView}
use Rattle.ebr_cross.specs.Catalogue.{View}
use Rattle.ebr_dml.specs.declared.plan.Plan.{Plan}
use Rattle.ebr_tx.specs.Calls.{top}
use Rattle.ebr_database.specs.Shows.{Said, Shows, Tells, base_of}
use Rattle.ebr_database.proofs.Goes.{begins, gives_up}
use Rattle.ebr_database.proofs.Keeping.{stays}
use Rattle.ebr_exec.specs.Narrow.{AreNarrow, IsNarrow}
use Rattle.ebr_exec.specs.Places.{names_of}
use Rattle.ebr_seats.specs.Ends.{closed_from_top}
use Rattle.ebr_levels.specs.Levels.{GoesBack}
use Rattle.ebr_levels.proofs.LeavesLemmas.{goes_back_same, leaves_live, leaves_mark}
use Rattle.ebr_levels.proofs.TopLemmas.{top_live}
use Rattle.ebr_units.specs.Served.{served}
use Rattle.ebr_bodies.specs.Bodies.{body, run_of, serve}
use Rattle.ebr_bodies.specs.Statements.{Stmt, checked_ran, tables_of, under}
use Rattle.ebr_statements.specs.declared.course.Course.{Course}
use Rattle.ebr_statements.specs.declared.site.Site.{Site as Standpoint}
use Rattle.ebr_statements.specs.Fits.{Fits, IsAsBefore}
use Rattle.ebr_statements.specs.inside.Fits.{HasTables, HaveTables, Spares, under_by}
use Rattle.ebr_statements.specs.inside.Held.{AreServed, IsServed, ready_of}
use Rattle.ebr_statements.specs.inside.Sites.{doing_at, site_at, work_at}
use Rattle.ebr_statements.specs.inside.Views.{place_at}
use Rattle.ebr_statements.proofs.Asking.{ask_goes_on, ask_halts, begins_with, body_finishes, run_ends, seen_book, serves_statement}
use Rattle.ebr_statements.proofs.Ending.{change_done, change_fails, change_refused_first, change_shows, change_tells, passes, query_answers, query_refuses, refuses, site_covers, site_remains, too_deep_as}
use Rattle.ebr_statements.proofs.Fitting.{asked_remains, back_remains, begins_remains, can_go_on, change_as_before, changed_back, closes, fits_then, left_remains, made_remains, nothing_done, open_is_top, open_then, open_top, opens, query_as_before, remains_open_same, remains_open_then, remains_same, remains_then, so_many, spared, step_remains, this_one, top_fits, top_remains, whatever_answer}
use Rattle.ebr_statements.proofs.Naming.{no_table, spares_none, spares_one}
use Rattle.ebr_statements.proofs.Rowing.{as_many, begins_row, can_still, is_between, next_row, no_more, now_between, row_after_fails, row_before_fails, row_passes, rows_begin, rows_done, rows_stepped, rows_triggered, same_plan, same_tx_now, step_fails, whatever, write_fails, write_goes_on, write_not_before, write_passes}
use Rattle.ebr_statements.proofs.Stepping.{step_same}
use Rattle.ebr_statements.proofs.Turns.{asks_begin, of_slices, trigger_next, trigger_stops, triggers_over}
use Rattle.ebr_statements.proofs.cycle.+statement.Goals as goal

-- ---- serve

pub serve-statement-requires : goal.serve-statement-requires
serve-statement-requires g t c =
    let fit = top_fits c.args.c.now c.args.site.now.t (under_by c.args.site.now.changing) c.args.opened.now c.args.units.now c.args.tx.now.contents c.in_ok-t-in-Sql.t c.in_ok-t-in-Sql.ensures c.requires.fit in
    let order = subst IsInOrder (sym (c.get-in-Sql.ensures ∙ c.view.ensures.view)) c.view.ensures.order in
    let tables = subst (λ (v : EditionView). v.tables ≡ c.args.c.now.tables.living) (sym (c.get-in-Sql.ensures ∙ c.view.ensures.view ∙ c.get.ensures)) c.requires.tables in
    λ κs within. (omega (arith, c.decreases), (within, (order, (tables, fit))))

pub serve-returns-in_err-room-in-Sql-clause-exact : goal.serve-returns-in_err-room-in-Sql-clause-exact
serve-returns-in_err-room-in-Sql-clause-exact g t c = let p = err_from_is_err_and c.from_residual.result c.from_residual.ensures.1 in λ lists keys current is is_served. rw (p.1, p.2) (stays _ _)

pub serve-returns-in_err-room-in-Sql-clause-remains : goal.serve-returns-in_err-room-in-Sql-clause-remains
serve-returns-in_err-room-in-Sql-clause-remains g t c = remains_open_same c.args.c.now c.args.site.now.t (under_by c.args.site.now.changing) c.args.opened.now c.args.units.now c.args.tx.now.contents c.requires.fit.fit.storable

pub serve-returns-in_err-t-in-Sql-clause-exact : goal.serve-returns-in_err-t-in-Sql-clause-exact
serve-returns-in_err-t-in-Sql-clause-exact g t c = let p = err_from_is_err_and c.from_residual-in_err-t-in-Sql.result c.from_residual-in_err-t-in-Sql.ensures.1 in λ lists keys current is is_served. rw (p.1, p.2) (stays _ _)

pub serve-returns-in_err-t-in-Sql-clause-remains : goal.serve-returns-in_err-t-in-Sql-clause-remains
serve-returns-in_err-t-in-Sql-clause-remains g t c = remains_open_same c.args.c.now c.args.site.now.t (under_by c.args.site.now.changing) c.args.opened.now c.args.units.now c.args.tx.now.contents c.requires.fit.fit.storable

pub serve-returns-in_ok-t-in-Sql-clause-exact : goal.serve-returns-in_ok-t-in-Sql-clause-exact
serve-returns-in_ok-t-in-Sql-clause-exact g t c = λ lists keys current is is_served.
    let on : top c.args.tx.now.contents c.args.site.now.t.session ≡ c.in_ok-t-in-Sql.t = open_is_top c.args.c.now c.args.units.now c.args.tx.now.contents (under_by c.args.site.now.changing) c.args.site.now.t c.args.opened.now c.requires.fit ∙ sym c.in_ok-t-in-Sql.ensures in
    let asked : c.args.ask.now ≡ ask.Sql c.get-in-Sql-2.result.now c.as_slice.result.now c.in-Sql.left = c.in-Sql.is ∙ (λ i. ask.Sql (sym c.get-in-Sql-2.ensures i) (sym (c.as_slice.ensures ∙ c.get-in-Sql-3.ensures) i) c.in-Sql.left) in
    subst (λ n. Tells (serve (site_at (names_of lists) c.args.site.now) (ready_of c.args.r.now) n c.args.ask.now (base_of c.args.tx.now.contents (g.K.Keep.as_keeper c.args.keeper.now))) (base_of c.statement.new.tx.contents (g.K.Keep.as_keeper c.statement.new.keeper)) (g.K.Keep.as_keeper c.args.keeper.now) (g.K.Keep.as_keeper c.statement.new.keeper) c.statement.result) c.in_ok-room-in-Sql.ensures (
    subst (λ o. Tells o (base_of c.statement.new.tx.contents (g.K.Keep.as_keeper c.statement.new.keeper)) (g.K.Keep.as_keeper c.args.keeper.now) (g.K.Keep.as_keeper c.statement.new.keeper) c.statement.result)
    (sym (serves_statement lists c.args.site.now c.args.r.now is_served c.in_ok-room-in-Sql.room c.args.tx.now.contents (g.K.Keep.as_keeper c.args.keeper.now) c.get-in-Sql.result.now c.in_ok-t-in-Sql.t c.get-in-Sql-2.result.now c.as_slice.result.now c.in-Sql.left c.args.ask.now (c.get-in-Sql.ensures ∙ c.view.ensures.view ∙ c.get.ensures) on asked))
    (c.statement.ensures.exact lists keys current is (seen_book lists c.args.site.now c.args.r.now is_served c.in_ok-room-in-Sql.room c.args.tx.now.contents (g.K.Keep.as_keeper c.args.keeper.now) c.get-in-Sql.result.now (c.get-in-Sql.ensures ∙ c.view.ensures.view ∙ c.get.ensures))))

pub serve-returns-in_ok-t-in-Sql-clause-remains : goal.serve-returns-in_ok-t-in-Sql-clause-remains
serve-returns-in_ok-t-in-Sql-clause-remains g t c = top_remains c.args.c.now c.args.site.now.t (under_by c.args.site.now.changing) c.args.opened.now c.args.units.now c.statement.new.units c.args.tx.now.contents c.statement.new.tx.contents c.in_ok-t-in-Sql.t c.in_ok-t-in-Sql.ensures c.statement.ensures.remains

pub serve-returns-in_default-clause-exact : goal.serve-returns-in_default-clause-exact
serve-returns-in_default-clause-exact g t c = λ lists keys current is is_served. c.transact.ensures.exact (site_at (names_of lists) c.args.site.now) (ready_of c.args.r.now) c.args.room refl

pub serve-returns-in_default-clause-remains : goal.serve-returns-in_default-clause-remains
serve-returns-in_default-clause-remains g t c = asked_remains c.args.c.now c.args.site.now.t (under_by c.args.site.now.changing) c.args.opened.now c.transact.new.opened c.args.units.now c.args.tx.now.contents c.transact.new.tx.contents (c.transact.ensures.opened (under_by c.args.site.now.changing)) c.transact.ensures.storable

-- ---- asks

pub asks-asks-init : goal.asks-asks-init
asks-asks-init g t c = (λ lists keys current is run is_served has_begun. ([], [], has_begun, asks_begin _ _ _ _ _), remains_open_same c.args.c.now c.args.site.now.t (under_by c.args.site.now.changing) c.args.opened.now c.args.units.now c.args.tx.now.contents c.requires.fit.fit.storable)

pub asks-returns-in_err-ask-clause-exact : goal.asks-returns-in_err-ask-clause-exact
asks-returns-in_err-ask-clause-exact g t c = let p = err_from_is_err_and c.from_residual.result c.from_residual.ensures.1 in λ lists keys current is run is_served has_begun. rw (p.1, p.2) (gives_up _ _ _ _ (c.asks.invariant.0 lists keys current is run is_served has_begun).3)

pub asks-returns-in_err-ask-clause-remains : goal.asks-returns-in_err-ask-clause-remains
asks-returns-in_err-ask-clause-remains g t c = c.asks.invariant.1

pub asks-serve-served-requires : goal.asks-serve-served-requires
asks-serve-served-requires g t c =
    let fit = open_then c.args.c.now c.args.site.now.t (under_by c.args.site.now.changing) c.args.opened.now c.asks.opened c.args.units.now c.asks.units c.args.tx.now.contents c.asks.tx.contents c.requires.fit c.asks.invariant.1 in
    λ κs within. (omega (arith, c.decreases), (within, (fit, c.requires.tables)))

pub asks-returns-in_err-answer-in-Ask-clause-exact : goal.asks-returns-in_err-answer-in-Ask-clause-exact
asks-returns-in_err-answer-in-Ask-clause-exact g t c = let p = err_from_is_err_and c.from_residual-in_err-answer-in-Ask.result c.from_residual-in_err-answer-in-Ask.ensures.1 in λ lists keys current is run is_served has_begun.
    let inv = c.asks.invariant.0 lists keys current is run is_served has_begun in
    rw (p.1, p.2) (ask_halts (site_at (names_of lists) c.args.site.now) (ready_of c.args.r.now) run inv.0 inv.1 (base_of c.asks.tx.contents (g.K.Keep.as_keeper c.asks.keeper)) _ _ _ c.advance.new.self c.advance.new.packages c.in_ok-ask.field-0 c.asks._ask (c.in_ok-ask.ensures.shows (served c.args.r.now.book) run inv.0 inv.1 (ap served c.get.ensures) inv.2) inv.3 c.in-Ask.ask c.room.result (g.K.Keep.as_keeper c.serve-served.new.keeper) c.in_err-answer-in-Ask.field-0.0 c.in-Ask.is c.asks-test.true c.room.ensures (subst (Tells _ (base_of c.serve-served.new.tx.contents (g.K.Keep.as_keeper c.serve-served.new.keeper)) (g.K.Keep.as_keeper c.asks.keeper) (g.K.Keep.as_keeper c.serve-served.new.keeper)) (sym c.in_err-answer-in-Ask.ensures) (c.serve-served.ensures.exact lists keys (c.asks.invariant.1.current lists keys current is) is is_served)))

pub asks-returns-in_err-answer-in-Ask-clause-remains : goal.asks-returns-in_err-answer-in-Ask-clause-remains
asks-returns-in_err-answer-in-Ask-clause-remains g t c = remains_open_then c.args.c.now c.args.site.now.t (under_by c.args.site.now.changing) c.args.opened.now c.asks.opened c.serve-served.new.opened c.args.units.now c.asks.units c.serve-served.new.units c.args.tx.now.contents c.asks.tx.contents c.serve-served.new.tx.contents c.asks.invariant.1 c.serve-served.ensures.remains

pub asks-asks-preserved : goal.asks-asks-preserved
asks-asks-preserved g t c = (
  λ lists keys current is run is_served has_begun.
      let inv = c.asks.invariant.0 lists keys current is run is_served has_begun in (
        inv.0 ++ c.advance.new.self.inner.ask ∷ [],
        inv.1 ++ c.in_ok-answer-in-Ask.answer ∷ [],
        c.take.ensures.takes (served c.args.r.now.book) c.advance.new.packages c.asks.course.left run inv.0 inv.1 (c.in_ok-ask.ensures.has (served c.args.r.now.book) run inv.0 inv.1 (ap served c.get.ensures) inv.2),
        ask_goes_on (site_at (names_of lists) c.args.site.now) (ready_of c.args.r.now) run inv.0 inv.1 (base_of c.asks.tx.contents (g.K.Keep.as_keeper c.asks.keeper)) _ _ _ c.advance.new.self c.advance.new.packages c.in_ok-ask.field-0 c.asks._ask (c.in_ok-ask.ensures.shows (served c.args.r.now.book) run inv.0 inv.1 (ap served c.get.ensures) inv.2) inv.3 c.in-Ask.ask c.room.result (g.K.Keep.as_keeper c.serve-served.new.keeper) _ c.in_ok-answer-in-Ask.answer c.in-Ask.is c.asks-test.true c.room.ensures (subst (Tells _ (base_of c.serve-served.new.tx.contents (g.K.Keep.as_keeper c.serve-served.new.keeper)) (g.K.Keep.as_keeper c.asks.keeper) (g.K.Keep.as_keeper c.serve-served.new.keeper)) (sym c.in_ok-answer-in-Ask.ensures) (c.serve-served.ensures.exact lists keys (c.asks.invariant.1.current lists keys current is) is is_served)),
      ),
  remains_open_then c.args.c.now c.args.site.now.t (under_by c.args.site.now.changing) c.args.opened.now c.asks.opened c.serve-served.new.opened c.args.units.now c.asks.units c.serve-served.new.units c.args.tx.now.contents c.asks.tx.contents c.serve-served.new.tx.contents c.asks.invariant.1 c.serve-served.ensures.remains,
)

pub asks-returns-in-Done-clause-exact : goal.asks-returns-in-Done-clause-exact
asks-returns-in-Done-clause-exact g t c = λ lists keys current is run is_served has_begun.
    let inv = c.asks.invariant.0 lists keys current is run is_served has_begun in
    let course : Course = record { machine = c.advance.new.self; packages = c.advance.new.packages; left = c.asks.course.left } in
    run_ends (site_at (names_of lists) c.args.site.now) (ready_of c.args.r.now) run inv.0 inv.1 (base_of c.asks.tx.contents (g.K.Keep.as_keeper c.asks.keeper)) _ _ _ c.advance.new.self c.advance.new.packages c.in_ok-ask.field-0 c.asks._ask (c.in_ok-ask.ensures.shows (served c.args.r.now.book) run inv.0 inv.1 (ap served c.get.ensures) inv.2) inv.3 c.in-Done.end course refl refl c.in-Done.is

pub asks-returns-in-Done-clause-remains : goal.asks-returns-in-Done-clause-remains
asks-returns-in-Done-clause-remains g t c = c.asks.invariant.1

pub asks-returns-clause-exact : goal.asks-returns-clause-exact
asks-returns-clause-exact g t c = λ lists keys current is run is_served has_begun. gives_up _ _ _ _ (c.asks.invariant.0 lists keys current is run is_served has_begun).3

pub asks-returns-clause-remains : goal.asks-returns-clause-remains
asks-returns-clause-remains g t c = c.asks.invariant.1

-- ---- body

pub body-asks-end-requires : goal.body-asks-end-requires
body-asks-end-requires g t c =
    let fit = opens c.args.c.now c.args.site.now.t (under_by c.args.site.now.changing) c.args.units.now c.args.tx.now.contents c.requires.fit in
    λ κs within. (omega (arith, c.decreases), (within, (fit, c.requires.tables)))

pub body-close-requires-clause-top : goal.body-close-requires-clause-top
body-close-requires-clause-top g t c = open_top c.args.c.now c.args.site.now.t (under_by c.args.site.now.changing) c.asks-end.new.opened c.args.units.now c.asks-end.new.units c.args.tx.now.contents c.asks-end.new.tx.contents c.requires.fit.top c.asks-end.ensures.remains

pub body-returns-in_err-course-clause-exact : goal.body-returns-in_err-course-clause-exact
body-returns-in_err-course-clause-exact g t c = let p = err_from_is_err_and c.from_residual.result c.from_residual.ensures.1 in λ lists keys current is is_served. rw (p.1, p.2) (stays _ _)

pub body-returns-in_err-course-clause-remains : goal.body-returns-in_err-course-clause-remains
body-returns-in_err-course-clause-remains g t c = remains_same c.args.c.now c.args.site.now.t (under_by c.args.site.now.changing) c.args.units.now c.args.tx.now.contents c.requires.fit.fit.storable

pub body-returns-clause-exact : goal.body-returns-clause-exact
body-returns-clause-exact g t c = λ lists keys current is is_served.
    let w = site_at (names_of lists) c.args.site.now in
    let σ = doing_at c.args.tx.now.contents (g.K.Keep.as_keeper c.args.keeper.now) c.args.tally.now in
    let many = so_many c.args.c.now c.args.site.now.t (under_by c.args.site.now.changing) c.asks-end.new.opened c.args.units.now c.asks-end.new.units c.args.tx.now.contents c.asks-end.new.tx.contents c.requires.fit.top c.asks-end.ensures.remains in
    let begun = begins_with (View lists) c.args.r.now (run_of w c.args.op (ready_of c.args.r.now) c.args.old.now c.args.new σ) c.in_ok-course.course is_served ((rw c.as_slice.ensures at c.in_ok-course.ensures) w σ is_served refl refl refl) in
    subst (Shows (body w c.args.op (ready_of c.args.r.now) c.args.old.now c.args.new σ) (doing_at c.close.new.tx.contents (g.K.Keep.as_keeper c.asks-end.new.keeper) c.finished-made.new.tally) (g.K.Keep.as_keeper c.args.keeper.now) (g.K.Keep.as_keeper c.asks-end.new.keeper)) (sym c.without.ensures)
    (body_finishes w c.args.op (ready_of c.args.r.now) c.args.old.now c.args.new c.args.tx.now.contents c.asks-end.new.tx.contents c.close.new.tx.contents (g.K.Keep.as_keeper c.args.keeper.now) (g.K.Keep.as_keeper c.asks-end.new.keeper) c.args.tally.now c.finished-made.new.tally c.asks-end.new.course c.asks-end.result c.finished-made.result
    (c.asks-end.ensures.exact lists keys current is (run_of w c.args.op (ready_of c.args.r.now) c.args.old.now c.args.new σ) is_served begun) (c.close.ensures.contents ∙ ap (λ n. closed_from_top n c.args.site.now.t.session c.asks-end.new.tx.contents) (sym many)) c.finished-made.ensures.finished)

pub body-returns-clause-remains : goal.body-returns-clause-remains
body-returns-clause-remains g t c = closes c.args.c.now c.args.site.now.t (under_by c.args.site.now.changing) c.asks-end.new.opened c.args.units.now c.asks-end.new.units c.args.tx.now.contents c.asks-end.new.tx.contents c.close.new.tx.contents c.requires.fit.top c.asks-end.ensures.remains c.close.ensures.contents c.close.ensures.storable

-- ---- bodies

pub bodies-bodies-init : goal.bodies-bodies-init
bodies-bodies-init g t c = (λ lists keys current is are_served. begins _ _, remains_same c.args.c.now c.args.site.now.t (under_by c.args.site.now.changing) c.args.units.now c.args.tx.now.contents c.requires.fit.fit.storable, refl)

pub bodies-body-requires : goal.bodies-body-requires
bodies-body-requires g t c =
    let fit = fits_then c.args.c.now c.args.site.now.t (under_by c.args.site.now.changing) c.args.units.now c.bodies.units c.args.tx.now.contents c.bodies.tx.contents c.requires.fit c.bodies.invariant.1 in
    let tables = this_one (HasTables c.args.c.now) c.args.triggers.now c.bodies.r-index c.r-item.result c.r-item.is c.bodies-test.true c.requires.tables in
    λ κs within. (omega (arith, c.decreases), (within, (fit, tables)))

pub bodies-bodies-preserved : goal.bodies-bodies-preserved
bodies-bodies-preserved g t c = (
  λ lists keys current is are_served. trigger_next (site_at (names_of lists) c.args.site.now) c.args.op c.args.triggers.now c.bodies.r-index c.args.old.now c.bodies.new _ _ _ _ c.r-item.result _ _ c.in_ok-new.new c.r-item.is c.bodies-test.true (c.bodies.invariant.0 lists keys current is are_served) (c.in_ok-new.ensures.exact lists keys (c.bodies.invariant.1.current lists keys current is) is (this_one (IsServed (View lists)) c.args.triggers.now c.bodies.r-index c.r-item.result c.r-item.is c.bodies-test.true are_served)),
  remains_then c.args.c.now c.args.site.now.t (under_by c.args.site.now.changing) c.args.units.now c.bodies.units c.body.new.units c.args.tx.now.contents c.bodies.tx.contents c.body.new.tx.contents c.bodies.invariant.1 c.body.ensures.remains,
  c.in_ok-new.ensures.columns ∙ c.bodies.invariant.2,
)

pub bodies-returns-in_err-new-clause-exact : goal.bodies-returns-in_err-new-clause-exact
bodies-returns-in_err-new-clause-exact g t c = let p = err_from_is_err_and c.from_residual.result c.from_residual.ensures.1 in λ lists keys current is are_served. rw (p.1, p.2) (
    trigger_stops (site_at (names_of lists) c.args.site.now) c.args.op c.args.triggers.now c.bodies.r-index c.args.old.now c.bodies.new _ _ _ _ c.r-item.result _ _ c.in_err-new.field-0.0 c.r-item.is c.bodies-test.true (c.bodies.invariant.0 lists keys current is are_served) (c.in_err-new.ensures.exact lists keys (c.bodies.invariant.1.current lists keys current is) is (this_one (IsServed (View lists)) c.args.triggers.now c.bodies.r-index c.r-item.result c.r-item.is c.bodies-test.true are_served)))

pub bodies-returns-in_err-new-clause-remains : goal.bodies-returns-in_err-new-clause-remains
bodies-returns-in_err-new-clause-remains g t c = remains_then c.args.c.now c.args.site.now.t (under_by c.args.site.now.changing) c.args.units.now c.bodies.units c.body.new.units c.args.tx.now.contents c.bodies.tx.contents c.body.new.tx.contents c.bodies.invariant.1 c.body.ensures.remains

pub bodies-returns-clause-exact : goal.bodies-returns-clause-exact
bodies-returns-clause-exact g t c = λ lists keys current is are_served. triggers_over (site_at (names_of lists) c.args.site.now) c.args.op c.args.triggers.now c.bodies.r-index c.args.old.now c.bodies.new _ _ _ _ c.bodies-test.false (c.bodies.invariant.0 lists keys current is are_served)

pub bodies-returns-clause-columns : goal.bodies-returns-clause-columns
bodies-returns-clause-columns g t c = c.bodies.invariant.2

pub bodies-returns-clause-remains : goal.bodies-returns-clause-remains
bodies-returns-clause-remains g t c = c.bodies.invariant.1

-- ---- write_row

pub write_row-returns-in_err-new-clause-exact : goal.write_row-returns-in_err-new-clause-exact
write_row-returns-in_err-new-clause-exact g t c = let p = err_from_is_err_and c.from_residual.result c.from_residual.ensures.1 in λ lists keys current is r rest between are_served. rw (p.1, p.2) (write_fails (site_at (names_of lists) c.args.site.now) c.args.work.now c.args.rows.now c.step.new.rows c.args.tx.now.contents c.step.new.tx.contents (g.K.Keep.as_keeper c.args.keeper.now) c.args.tally.now c.args.new r rest c.requires.tx between c.in_err-new.field-0.0 c.in_err-new.ensures.stepped c.in_err-new.ensures.unchanged)

pub write_row-returns-in_err-new-clause-remains : goal.write_row-returns-in_err-new-clause-remains
write_row-returns-in_err-new-clause-remains g t c = λ under spares. (step_remains c.args.c.now c.args.site.now.t under c.args.units.now c.args.tx.now.contents c.step.new.tx.contents c.args.rows.now c.args.site.now.changing c.args.rows.now.plan.table.id spares c.requires.tx refl c.step.ensures.leaves c.step.ensures.storable)

pub write_row-returns-in-Before-clause-exact : goal.write_row-returns-in-Before-clause-exact
write_row-returns-in-Before-clause-exact g t c = λ lists keys current is r rest between are_served. write_not_before (site_at (names_of lists) c.args.site.now) c.args.work.now c.args.rows.now c.step.new.rows c.args.tx.now.contents c.step.new.tx.contents (g.K.Keep.as_keeper c.args.keeper.now) c.args.tally.now c.args.new r rest c.requires.tx between c.in_ok-new.field-0 c.in_ok-new.ensures.stepped c.in-Before.old c.in-Before.new c.in-Before.is

pub write_row-returns-in-Before-clause-passed : goal.write_row-returns-in-Before-clause-passed
write_row-returns-in-Before-clause-passed g t c = λ r rest between. write_passes c.args.rows.now c.step.new.rows c.args.tx.now.contents c.step.new.tx.contents c.args.new r rest between c.in_ok-new.field-0 c.in_ok-new.ensures.stepped

pub write_row-returns-in-Before-clause-remains : goal.write_row-returns-in-Before-clause-remains
write_row-returns-in-Before-clause-remains g t c = λ under spares. (step_remains c.args.c.now c.args.site.now.t under c.args.units.now c.args.tx.now.contents c.step.new.tx.contents c.args.rows.now c.args.site.now.changing c.args.rows.now.plan.table.id spares c.requires.tx refl c.step.ensures.leaves c.step.ensures.storable)

pub write_row-bodies-requires : goal.write_row-bodies-requires
write_row-bodies-requires g t c =
    let fit = fits_then c.args.c.now c.args.site.now.t no_table c.args.units.now c.args.units.now c.args.tx.now.contents c.step.new.tx.contents c.requires.fit (step_remains c.args.c.now c.args.site.now.t no_table c.args.units.now c.args.tx.now.contents c.step.new.tx.contents c.args.rows.now c.args.site.now.changing c.args.rows.now.plan.table.id (spares_none _ _ _) c.requires.tx refl c.step.ensures.leaves c.step.ensures.storable) in
    let tables = subst (HaveTables c.args.c.now) (sym c.as_slice.ensures) c.requires.tables in
    λ κs within. (omega (arith, c.decreases), (within, (fit, tables)))

pub write_row-returns-in-After-clause-exact : goal.write_row-returns-in-After-clause-exact
write_row-returns-in-After-clause-exact g t c = λ lists keys current is r rest between are_served.
    subst (λ o. Shows o (doing_at c.bodies.new.tx.contents (g.K.Keep.as_keeper c.bodies.new.keeper) c.bodies.new.tally) (g.K.Keep.as_keeper c.args.keeper.now) (g.K.Keep.as_keeper c.bodies.new.keeper) c.bodies.result)
    (sym (write_goes_on (site_at (names_of lists) c.args.site.now) c.args.work.now c.args.rows.now c.step.new.rows c.args.tx.now.contents c.step.new.tx.contents (g.K.Keep.as_keeper c.args.keeper.now) c.args.tally.now c.args.new r rest c.requires.tx between c.in_ok-new.field-0 c.in_ok-new.ensures.stepped c.in-After.old c.in-After.new c.in-After.is)) ((rw (c.as_slice.ensures, c.as_slice-in-After.ensures) at c.bodies.ensures.exact) lists keys current is are_served)

pub write_row-returns-in-After-clause-passed : goal.write_row-returns-in-After-clause-passed
write_row-returns-in-After-clause-passed g t c = λ r rest between. whatever c.bodies.result _ (write_passes c.args.rows.now c.step.new.rows c.args.tx.now.contents c.step.new.tx.contents c.args.new r rest between c.in_ok-new.field-0 c.in_ok-new.ensures.stepped)

pub write_row-returns-in-After-clause-can : goal.write_row-returns-in-After-clause-can
write_row-returns-in-After-clause-can g t c =
    let same = step_same c.args.rows.now c.args.tx.now.contents (Some c.args.new) c.in_ok-new.field-0 c.step.new.rows c.step.new.tx.contents c.in_ok-new.ensures.stepped in
    whatever c.bodies.result _ (can_go_on c.step.new.tx.contents c.bodies.new.tx.contents c.args.site.now.t (under_by c.args.site.now.changing) c.step.new.rows (same.1 ∙ c.requires.tx) (fits_then c.args.c.now c.args.site.now.t no_table c.args.units.now c.args.units.now c.args.tx.now.contents c.step.new.tx.contents c.requires.fit (step_remains c.args.c.now c.args.site.now.t no_table c.args.units.now c.args.tx.now.contents c.step.new.tx.contents c.args.rows.now c.args.site.now.changing c.args.rows.now.plan.table.id (spares_none _ _ _) c.requires.tx refl c.step.ensures.leaves c.step.ensures.storable)).top
    (ap (λ (p : Plan). under_by c.args.site.now.changing c.args.site.now.t p.table.id) same.0 ∙ c.requires.covers) c.in_ok-new.ensures.can c.bodies.ensures.remains.leaves)

pub write_row-returns-in-After-clause-remains : goal.write_row-returns-in-After-clause-remains
write_row-returns-in-After-clause-remains g t c = λ under spares. remains_then c.args.c.now c.args.site.now.t under c.args.units.now c.args.units.now c.bodies.new.units c.args.tx.now.contents c.step.new.tx.contents c.bodies.new.tx.contents (step_remains c.args.c.now c.args.site.now.t under c.args.units.now c.args.tx.now.contents c.step.new.tx.contents c.args.rows.now c.args.site.now.changing c.args.rows.now.plan.table.id spares c.requires.tx refl c.step.ensures.leaves c.step.ensures.storable) (spared c.args.c.now c.args.site.now.t under c.args.site.now.changing (c.args.rows.now.plan.table.id ∷ []) c.args.units.now c.bodies.new.units c.step.new.tx.contents c.bodies.new.tx.contents spares c.bodies.ensures.remains)

-- ---- rows

pub rows-rows-init : goal.rows-rows-init
rows-rows-init g t c = (
  λ lists keys current is before_served after_served. rows_begin (site_at (names_of lists) c.args.site.now) (work_at c.args.left.now c.args.work.now) c.args.left.now _ _ c.requires.count,
  record { is = refl; can = c.requires.can },
  λ under spares. remains_same c.args.c.now c.args.site.now.t under c.args.units.now c.args.tx.now.contents c.requires.fit.fit.storable,
)

pub rows-step-requires-clause-storable : goal.rows-step-requires-clause-storable
rows-step-requires-clause-storable g t c = (c.rows.invariant.2 no_table (spares_none _ _ _)).storable

pub rows-returns-in_err-old-clause-exact : goal.rows-returns-in_err-old-clause-exact
rows-returns-in_err-old-clause-exact g t c = let p = err_from_is_err_and c.from_residual.result c.from_residual.ensures.1 in λ lists keys current is before_served after_served. rw (p.1, p.2) (step_fails (site_at (names_of lists) c.args.site.now) c.args.left.now c.args.work.now _ _ _ c.rows.left c.step.new.rows c.rows.tx.contents c.step.new.tx.contents c.rows.tally c.requires.between c.rows.invariant.1 (c.rows.invariant.0 lists keys current is before_served after_served) c.in_err-old.field-0.0 c.in_err-old.ensures.stepped c.in_err-old.ensures.unchanged)

pub rows-returns-in_err-old-clause-remains : goal.rows-returns-in_err-old-clause-remains
rows-returns-in_err-old-clause-remains g t c = rows_stepped c.args.c.now c.args.site.now.t c.args.site.now.changing c.args.left.now c.rows.left c.args.units.now c.rows.units c.args.tx.now.contents c.rows.tx.contents c.requires.tx c.rows.invariant.1 c.rows.invariant.2 c.step.new.tx.contents c.step.ensures.leaves c.step.ensures.storable

pub rows-bodies-requires : goal.rows-bodies-requires
rows-bodies-requires g t c =
    let fit = fits_then c.args.c.now c.args.site.now.t no_table c.args.units.now c.rows.units c.args.tx.now.contents c.step.new.tx.contents c.requires.fit (rows_stepped c.args.c.now c.args.site.now.t c.args.site.now.changing c.args.left.now c.rows.left c.args.units.now c.rows.units c.args.tx.now.contents c.rows.tx.contents c.requires.tx c.rows.invariant.1 c.rows.invariant.2 c.step.new.tx.contents c.step.ensures.leaves c.step.ensures.storable no_table (spares_none _ _ _)) in
    let tables = subst (HaveTables c.args.c.now) (sym c.as_slice.ensures) c.requires.before in
    λ κs within. (omega (arith, c.decreases), (within, (fit, tables)))

pub rows-returns-in_err-new-in-Before-clause-exact : goal.rows-returns-in_err-new-in-Before-clause-exact
rows-returns-in_err-new-in-Before-clause-exact g t c = let p = err_from_is_err_and c.from_residual-in_err-new-in-Before.result c.from_residual-in_err-new-in-Before.ensures.1 in λ lists keys current is before_served after_served.
    let b = (begins_row c.rows.left c.step.new.rows c.rows.tx.contents c.step.new.tx.contents (is_between c.args.left.now c.rows.left c.rows.tx.contents c.rows.invariant.1 c.requires.between) c.in_ok-old.field-0 c.in-Before.old c.in-Before.new c.in-Before.is c.in_ok-old.ensures.stepped) in
    let now = g.K.Keep.as_keeper c.bodies.new.keeper in
    let τ = doing_at c.bodies.new.tx.contents now c.bodies.new.tally in
    rw (p.1, p.2) (row_before_fails (site_at (names_of lists) c.args.site.now) c.args.left.now c.args.work.now _ _ _ c.rows.left c.step.new.rows c.rows.tx.contents c.step.new.tx.contents c.rows.tally c.in-Before.old c.in-Before.new c.rows.invariant.1 (c.rows.invariant.0 lists keys current is before_served after_served) b now τ c.in_err-new-in-Before.field-0.0 (
    of_slices (site_at (names_of lists) c.args.site.now) c.args.work.now.operation _ _ _ _ c.in-Before.new (doing_at c.step.new.tx.contents (g.K.Keep.as_keeper c.rows.keeper) c.rows.tally) τ (g.K.Keep.as_keeper c.rows.keeper) now (Err c.in_err-new-in-Before.field-0.0) (AreServed (View lists))
    c.as_slice.ensures c.as_slice-in-Before.ensures (c.in_err-new-in-Before.ensures.exact lists keys ((rows_stepped c.args.c.now c.args.site.now.t c.args.site.now.changing c.args.left.now c.rows.left c.args.units.now c.rows.units c.args.tx.now.contents c.rows.tx.contents c.requires.tx c.rows.invariant.1 c.rows.invariant.2 c.step.new.tx.contents c.step.ensures.leaves c.step.ensures.storable no_table (spares_none _ _ _)).current lists keys current is) is) before_served))

pub rows-returns-in_err-new-in-Before-clause-remains : goal.rows-returns-in_err-new-in-Before-clause-remains
rows-returns-in_err-new-in-Before-clause-remains g t c = rows_triggered c.args.c.now c.args.site.now.t c.args.site.now.changing c.args.left.now c.rows.left c.args.units.now c.rows.units c.args.tx.now.contents c.rows.tx.contents c.requires.tx c.rows.invariant.1 c.rows.invariant.2 c.step.new.tx.contents c.step.ensures.leaves c.step.ensures.storable c.bodies.new.units c.bodies.new.tx.contents c.bodies.ensures.remains

pub rows-write_row-requires : goal.rows-write_row-requires
rows-write_row-requires g t c =
    let b = (begins_row c.rows.left c.step.new.rows c.rows.tx.contents c.step.new.tx.contents (is_between c.args.left.now c.rows.left c.rows.tx.contents c.rows.invariant.1 c.requires.between) c.in_ok-old.field-0 c.in-Before.old c.in-Before.new c.in-Before.is c.in_ok-old.ensures.stepped) in
    let stepped = fits_then c.args.c.now c.args.site.now.t no_table c.args.units.now c.rows.units c.args.tx.now.contents c.step.new.tx.contents c.requires.fit (rows_stepped c.args.c.now c.args.site.now.t c.args.site.now.changing c.args.left.now c.rows.left c.args.units.now c.rows.units c.args.tx.now.contents c.rows.tx.contents c.requires.tx c.rows.invariant.1 c.rows.invariant.2 c.step.new.tx.contents c.step.ensures.leaves c.step.ensures.storable no_table (spares_none _ _ _)) in
    let fit = fits_then c.args.c.now c.args.site.now.t no_table c.args.units.now c.bodies.new.units c.args.tx.now.contents c.bodies.new.tx.contents c.requires.fit (rows_triggered c.args.c.now c.args.site.now.t c.args.site.now.changing c.args.left.now c.rows.left c.args.units.now c.rows.units c.args.tx.now.contents c.rows.tx.contents c.requires.tx c.rows.invariant.1 c.rows.invariant.2 c.step.new.tx.contents c.step.ensures.leaves c.step.ensures.storable c.bodies.new.units c.bodies.new.tx.contents c.bodies.ensures.remains no_table (spares_none _ _ _)) in
    let can = can_still c.args.site.now.t c.args.site.now.changing c.args.left.now c.rows.left c.step.new.rows c.rows.tx.contents c.step.new.tx.contents c.bodies.new.tx.contents c.in-Before.old c.in-Before.new c.requires.tx c.requires.covers c.rows.invariant.1 b stepped.top c.in_ok-old.ensures.can c.bodies.ensures.remains.leaves in
    let tx = same_tx_now c.args.left.now c.rows.left c.step.new.rows c.rows.tx.contents c.step.new.tx.contents c.in-Before.old c.in-Before.new c.rows.invariant.1 b ∙ c.requires.tx in
    let between = (now_between c.rows.left c.step.new.rows c.rows.tx.contents c.step.new.tx.contents c.in-Before.old c.in-Before.new b).begun in
    let columns = c.in_ok-new-in-Before.ensures.columns ∙ as_many c.rows.left c.step.new.rows c.rows.tx.contents c.step.new.tx.contents c.in-Before.old c.in-Before.new b in
    let narrow = subst (λ (p : Plan). IsNarrow p.table) (sym (same_plan c.args.left.now c.rows.left c.step.new.rows c.rows.tx.contents c.step.new.tx.contents c.in-Before.old c.in-Before.new c.rows.invariant.1 b)) c.requires.narrow in
    let covers = ap (λ (p : Plan). under_by c.args.site.now.changing c.args.site.now.t p.table.id) (same_plan c.args.left.now c.rows.left c.step.new.rows c.rows.tx.contents c.step.new.tx.contents c.in-Before.old c.in-Before.new c.rows.invariant.1 b) ∙ c.requires.covers in
    λ κs within. (omega (arith, c.decreases), (within, (fit, (c.requires.after, (can, (tx, (between, (columns, (narrow, covers)))))))))

pub rows-returns-in_err-write_row-in-Before-clause-exact : goal.rows-returns-in_err-write_row-in-Before-clause-exact
rows-returns-in_err-write_row-in-Before-clause-exact g t c = let p = err_from_is_err_and c.from_residual-in_err-write_row-in-Before.result c.from_residual-in_err-write_row-in-Before.ensures.1 in λ lists keys current is before_served after_served.
    let b = (begins_row c.rows.left c.step.new.rows c.rows.tx.contents c.step.new.tx.contents (is_between c.args.left.now c.rows.left c.rows.tx.contents c.rows.invariant.1 c.requires.between) c.in_ok-old.field-0 c.in-Before.old c.in-Before.new c.in-Before.is c.in_ok-old.ensures.stepped) in rw (p.1, p.2) (row_after_fails (site_at (names_of lists) c.args.site.now) c.args.left.now c.args.work.now _ _ _ c.rows.left c.step.new.rows c.rows.tx.contents c.step.new.tx.contents c.rows.tally c.in-Before.old c.in-Before.new c.rows.invariant.1 (c.rows.invariant.0 lists keys current is before_served after_served) b _ _ _ _ c.in_ok-new-in-Before.new c.in_err-write_row-in-Before.field-0.0 ((rw (c.as_slice.ensures, c.as_slice-in-Before.ensures) at c.in_ok-new-in-Before.ensures.exact) lists keys ((rows_stepped c.args.c.now c.args.site.now.t c.args.site.now.changing c.args.left.now c.rows.left c.args.units.now c.rows.units c.args.tx.now.contents c.rows.tx.contents c.requires.tx c.rows.invariant.1 c.rows.invariant.2 c.step.new.tx.contents c.step.ensures.leaves c.step.ensures.storable no_table (spares_none _ _ _)).current lists keys current is) is before_served) (c.in_err-write_row-in-Before.ensures.exact lists keys ((rows_triggered c.args.c.now c.args.site.now.t c.args.site.now.changing c.args.left.now c.rows.left c.args.units.now c.rows.units c.args.tx.now.contents c.rows.tx.contents c.requires.tx c.rows.invariant.1 c.rows.invariant.2 c.step.new.tx.contents c.step.ensures.leaves c.step.ensures.storable c.bodies.new.units c.bodies.new.tx.contents c.bodies.ensures.remains no_table (spares_none _ _ _)).current lists keys current is) is b.row b.rest (now_between c.rows.left c.step.new.rows c.rows.tx.contents c.step.new.tx.contents c.in-Before.old c.in-Before.new b) after_served))

pub rows-returns-in_err-write_row-in-Before-clause-remains : goal.rows-returns-in_err-write_row-in-Before-clause-remains
rows-returns-in_err-write_row-in-Before-clause-remains g t c = λ under spares. let b = (begins_row c.rows.left c.step.new.rows c.rows.tx.contents c.step.new.tx.contents (is_between c.args.left.now c.rows.left c.rows.tx.contents c.rows.invariant.1 c.requires.between) c.in_ok-old.field-0 c.in-Before.old c.in-Before.new c.in-Before.is c.in_ok-old.ensures.stepped) in remains_then c.args.c.now c.args.site.now.t under c.args.units.now c.bodies.new.units c.write_row.new.units c.args.tx.now.contents c.bodies.new.tx.contents c.write_row.new.tx.contents (rows_triggered c.args.c.now c.args.site.now.t c.args.site.now.changing c.args.left.now c.rows.left c.args.units.now c.rows.units c.args.tx.now.contents c.rows.tx.contents c.requires.tx c.rows.invariant.1 c.rows.invariant.2 c.step.new.tx.contents c.step.ensures.leaves c.step.ensures.storable c.bodies.new.units c.bodies.new.tx.contents c.bodies.ensures.remains under spares) (c.write_row.ensures.remains under (subst (λ (p : Plan). Spares under c.args.site.now.t c.args.site.now.changing (p.table.id ∷ [])) (sym (same_plan c.args.left.now c.rows.left c.step.new.rows c.rows.tx.contents c.step.new.tx.contents c.in-Before.old c.in-Before.new c.rows.invariant.1 b)) spares))

pub rows-rows-preserved : goal.rows-rows-preserved
rows-rows-preserved g t c =
    let b = (begins_row c.rows.left c.step.new.rows c.rows.tx.contents c.step.new.tx.contents (is_between c.args.left.now c.rows.left c.rows.tx.contents c.rows.invariant.1 c.requires.between) c.in_ok-old.field-0 c.in-Before.old c.in-Before.new c.in-Before.is c.in_ok-old.ensures.stepped) in (
      λ lists keys current is before_served after_served. row_passes (site_at (names_of lists) c.args.site.now) c.args.left.now c.args.work.now _ _ _ c.rows.left c.step.new.rows c.rows.tx.contents c.step.new.tx.contents c.rows.tally c.in-Before.old c.in-Before.new c.rows.invariant.1 (c.rows.invariant.0 lists keys current is before_served after_served) b _ _ _ _ c.in_ok-new-in-Before.new c.in_ok-write_row-in-Before.field-0 c.write_row.new.rows ((rw (c.as_slice.ensures, c.as_slice-in-Before.ensures) at c.in_ok-new-in-Before.ensures.exact) lists keys ((rows_stepped c.args.c.now c.args.site.now.t c.args.site.now.changing c.args.left.now c.rows.left c.args.units.now c.rows.units c.args.tx.now.contents c.rows.tx.contents c.requires.tx c.rows.invariant.1 c.rows.invariant.2 c.step.new.tx.contents c.step.ensures.leaves c.step.ensures.storable no_table (spares_none _ _ _)).current lists keys current is) is before_served) (c.in_ok-write_row-in-Before.ensures.exact lists keys ((rows_triggered c.args.c.now c.args.site.now.t c.args.site.now.changing c.args.left.now c.rows.left c.args.units.now c.rows.units c.args.tx.now.contents c.rows.tx.contents c.requires.tx c.rows.invariant.1 c.rows.invariant.2 c.step.new.tx.contents c.step.ensures.leaves c.step.ensures.storable c.bodies.new.units c.bodies.new.tx.contents c.bodies.ensures.remains no_table (spares_none _ _ _)).current lists keys current is) is b.row b.rest (now_between c.rows.left c.step.new.rows c.rows.tx.contents c.step.new.tx.contents c.in-Before.old c.in-Before.new b) after_served)
          (c.in_ok-write_row-in-Before.ensures.passed b.row b.rest (now_between c.rows.left c.step.new.rows c.rows.tx.contents c.step.new.tx.contents c.in-Before.old c.in-Before.new b)),
      next_row c.args.left.now c.rows.left c.step.new.rows c.write_row.new.rows c.rows.tx.contents c.step.new.tx.contents c.write_row.new.tx.contents c.in-Before.old c.in-Before.new b c.requires.between c.rows.invariant.1 (c.in_ok-write_row-in-Before.ensures.passed b.row b.rest (now_between c.rows.left c.step.new.rows c.rows.tx.contents c.step.new.tx.contents c.in-Before.old c.in-Before.new b)) c.in_ok-write_row-in-Before.ensures.can,
      λ under spares. remains_then c.args.c.now c.args.site.now.t under c.args.units.now c.bodies.new.units c.write_row.new.units c.args.tx.now.contents c.bodies.new.tx.contents c.write_row.new.tx.contents (rows_triggered c.args.c.now c.args.site.now.t c.args.site.now.changing c.args.left.now c.rows.left c.args.units.now c.rows.units c.args.tx.now.contents c.rows.tx.contents c.requires.tx c.rows.invariant.1 c.rows.invariant.2 c.step.new.tx.contents c.step.ensures.leaves c.step.ensures.storable c.bodies.new.units c.bodies.new.tx.contents c.bodies.ensures.remains under spares) (c.write_row.ensures.remains under (subst (λ (p : Plan). Spares under c.args.site.now.t c.args.site.now.changing (p.table.id ∷ [])) (sym (same_plan c.args.left.now c.rows.left c.step.new.rows c.rows.tx.contents c.step.new.tx.contents c.in-Before.old c.in-Before.new c.rows.invariant.1 b)) spares)),
    )

pub rows-returns-in-After-clause-exact : goal.rows-returns-in-After-clause-exact
rows-returns-in-After-clause-exact g t c = λ lists keys current is before_served after_served. gives_up _ _ _ _ (c.rows.invariant.0 lists keys current is before_served after_served)

pub rows-returns-in-After-clause-remains : goal.rows-returns-in-After-clause-remains
rows-returns-in-After-clause-remains g t c = rows_stepped c.args.c.now c.args.site.now.t c.args.site.now.changing c.args.left.now c.rows.left c.args.units.now c.rows.units c.args.tx.now.contents c.rows.tx.contents c.requires.tx c.rows.invariant.1 c.rows.invariant.2 c.step.new.tx.contents c.step.ensures.leaves c.step.ensures.storable

pub rows-returns-in-Finished-clause-exact : goal.rows-returns-in-Finished-clause-exact
rows-returns-in-Finished-clause-exact g t c = λ lists keys current is before_served after_served. rows_done (site_at (names_of lists) c.args.site.now) c.args.left.now c.args.work.now _ _ _ c.rows.left c.step.new.rows c.rows.tx.contents c.step.new.tx.contents c.rows.tally c.requires.between c.rows.invariant.1 (c.rows.invariant.0 lists keys current is before_served after_served) c.in-Finished.count (no_more c.rows.left c.step.new.rows c.rows.tx.contents c.step.new.tx.contents (is_between c.args.left.now c.rows.left c.rows.tx.contents c.rows.invariant.1 c.requires.between) c.in_ok-old.field-0 c.in-Finished.count c.in-Finished.is c.in_ok-old.ensures.stepped)

pub rows-returns-in-Finished-clause-remains : goal.rows-returns-in-Finished-clause-remains
rows-returns-in-Finished-clause-remains g t c = rows_stepped c.args.c.now c.args.site.now.t c.args.site.now.changing c.args.left.now c.rows.left c.args.units.now c.rows.units c.args.tx.now.contents c.rows.tx.contents c.requires.tx c.rows.invariant.1 c.rows.invariant.2 c.step.new.tx.contents c.step.ensures.leaves c.step.ensures.storable

pub rows-returns-clause-exact : goal.rows-returns-clause-exact
rows-returns-clause-exact g t c = λ lists keys current is before_served after_served. gives_up _ _ _ _ (c.rows.invariant.0 lists keys current is before_served after_served)

pub rows-returns-clause-remains : goal.rows-returns-clause-remains
rows-returns-clause-remains g t c = c.rows.invariant.2

-- ---- changed

pub changed-started-requires-clause-live : goal.changed-started-requires-clause-live
changed-started-requires-clause-live g t c = top_live c.args.tx.now.contents c.args.site.now.t c.requires.fit.top

pub changed-rows-requires : goal.changed-rows-requires
changed-rows-requires g t c =
    let fit = fits_then c.args.c.now c.args.site.now.t no_table c.args.units.now c.started.new.units c.args.tx.now.contents c.args.tx.now.contents c.requires.fit (made_remains c.args.c.now c.args.site.now.t no_table c.args.units.now c.started.new.units c.args.tx.now.contents c.started.ensures.current c.requires.fit.fit.storable) in
    let narrow = c.in-Ok.ensures.narrow (subst AreNarrow (sym c.requires.tables) c.requires.fit.fit.narrow) in
    let covers = c.requires.covers _ c.in-Ok.ensures.table in
    λ κs within. (omega (arith, c.decreases), (within, (fit, (c.in-Ok.ensures.before, (c.in-Ok.ensures.after, (c.in-Ok.ensures.can, (c.in-Ok.ensures.tx, (c.in-Ok.ensures.between, (c.in-Ok.ensures.count, (narrow, covers))))))))))

pub changed-returns-in-Ok-clause-exact : goal.changed-returns-in-Ok-clause-exact
changed-returns-in-Ok-clause-exact g t c = λ lists keys current is seen changing split.
    let h = c.in-Ok.ensures.started lists keys current is seen changing in
    change_shows lists c.args.v.now c.args.origin c.args.site.now changing c.args.s.now c.args.binds.now seen split c.args.tx.now.contents (g.K.Keep.as_keeper c.args.keeper.now) c.args.tally.now c.in-Ok.begun h
    (doing_at c.rows.new.tx.contents (g.K.Keep.as_keeper c.rows.new.keeper) c.rows.new.tally) (g.K.Keep.as_keeper c.rows.new.keeper) c.rows.result
    (c.rows.ensures.exact lists keys (c.started.ensures.current lists keys current is) is h.3.before_served h.3.after_served)

pub changed-returns-in-Ok-clause-remains : goal.changed-returns-in-Ok-clause-remains
changed-returns-in-Ok-clause-remains g t c = λ under spares.
    remains_then c.args.c.now c.args.site.now.t under c.args.units.now c.started.new.units c.rows.new.units c.args.tx.now.contents c.args.tx.now.contents c.rows.new.tx.contents (made_remains c.args.c.now c.args.site.now.t under c.args.units.now c.started.new.units c.args.tx.now.contents c.started.ensures.current c.requires.fit.fit.storable) (c.rows.ensures.remains under (spares_one under c.args.site.now.t c.args.site.now.changing _ _ c.in-Ok.ensures.table spares))

pub changed-returns-in-Err-clause-exact : goal.changed-returns-in-Err-clause-exact
changed-returns-in-Err-clause-exact g t c = λ lists keys current is seen changing split. change_refused_first lists c.args.v.now c.args.origin c.args.site.now changing c.args.s.now c.args.binds.now seen split c.args.tx.now.contents (g.K.Keep.as_keeper c.args.keeper.now) c.args.tally.now c.in-Err.stop c.failure.result c.failure.ensures (c.in-Err.ensures.started lists keys current is seen changing)

pub changed-returns-in-Err-clause-remains : goal.changed-returns-in-Err-clause-remains
changed-returns-in-Err-clause-remains g t c = λ under spares. (made_remains c.args.c.now c.args.site.now.t under c.args.units.now c.started.new.units c.args.tx.now.contents c.started.ensures.current c.requires.fit.fit.storable)

-- ---- change

pub change-mark-requires : goal.change-mark-requires
change-mark-requires g t c = top_live c.args.tx.now.contents c.args.site.now.t c.requires.fit.top

pub change-begin-requires : goal.change-begin-requires
change-begin-requires g t c = top_live c.args.tx.now.contents c.args.site.now.t c.requires.fit.top

pub change-returns-in_err-mark-clause-exact : goal.change-returns-in_err-mark-clause-exact
change-returns-in_err-mark-clause-exact g t c = let p = err_from_is_err_and c.from_residual.result c.from_residual.ensures.1 in λ lists keys current is seen changing split. rw (p.1, p.2) (stays _ _)

pub change-returns-in_err-mark-clause-remains : goal.change-returns-in_err-mark-clause-remains
change-returns-in_err-mark-clause-remains g t c = λ under spares. remains_same c.args.c.now c.args.site.now.t under c.args.units.now c.args.tx.now.contents c.requires.fit.fit.storable

pub change-changed-requires : goal.change-changed-requires
change-changed-requires g t c =
    let fit = fits_then c.args.c.now c.args.site.now.t no_table c.args.units.now c.args.units.now c.args.tx.now.contents c.begin.new.self.contents c.requires.fit (begins_remains c.args.c.now c.args.site.now.t no_table c.args.units.now c.args.tx.now.contents c.begin.new.self.contents c.requires.fit c.begin.ensures.contents) in
    λ κs within. (omega (arith, c.decreases), (within, (c.requires.order, (c.requires.tables, (fit, (c.begin.ensures.begun, c.requires.covers))))))

pub change-back_to_mark-requires-clause-live : goal.change-back_to_mark-requires-clause-live
change-back_to_mark-requires-clause-live g t c = leaves_live c.args.tx.now.contents c.changed.new.tx.contents c.args.site.now.t c.args.site.now.t no_table (remains_then c.args.c.now c.args.site.now.t no_table c.args.units.now c.args.units.now c.changed.new.units c.args.tx.now.contents c.begin.new.self.contents c.changed.new.tx.contents (begins_remains c.args.c.now c.args.site.now.t no_table c.args.units.now c.args.tx.now.contents c.begin.new.self.contents c.requires.fit c.begin.ensures.contents) (c.changed.ensures.remains no_table (spares_none _ _ _))).leaves (top_live c.args.tx.now.contents c.args.site.now.t c.requires.fit.top)

pub change-back_to_mark-requires-clause-mark : goal.change-back_to_mark-requires-clause-mark
change-back_to_mark-requires-clause-mark g t c = leaves_mark c.args.tx.now.contents c.changed.new.tx.contents c.args.site.now.t no_table c.in_ok-mark.mark c.in_ok-mark.ensures.later (remains_then c.args.c.now c.args.site.now.t no_table c.args.units.now c.args.units.now c.changed.new.units c.args.tx.now.contents c.begin.new.self.contents c.changed.new.tx.contents (begins_remains c.args.c.now c.args.site.now.t no_table c.args.units.now c.args.tx.now.contents c.begin.new.self.contents c.requires.fit c.begin.ensures.contents) (c.changed.ensures.remains no_table (spares_none _ _ _))).leaves

pub change-returns-in-Ok-clause-exact : goal.change-returns-in-Ok-clause-exact
change-returns-in-Ok-clause-exact g t c = λ lists keys current is seen changing split. change_done (Stmt (names_of lists) c.args.site.now.levels) (names_of lists) (place_at c.args.v.now.edition c.args.origin c.args.site.now.t changing) c.args.s.now c.args.binds.now c.args.site.now.left c.args.room c.args.tx.now.contents c.begin.new.self.contents (g.K.Keep.as_keeper c.args.keeper.now) (g.K.Keep.as_keeper c.changed.new.keeper) c.new-tally.result c.begin.ensures.contents c.new-tally.ensures c.in-Ok.n c.changed.new.tx.contents c.changed.new.tally (c.in-Ok.ensures.exact lists keys current is seen changing split)

pub change-returns-in-Ok-clause-remains : goal.change-returns-in-Ok-clause-remains
change-returns-in-Ok-clause-remains g t c = λ under spares. remains_then c.args.c.now c.args.site.now.t under c.args.units.now c.args.units.now c.changed.new.units c.args.tx.now.contents c.begin.new.self.contents c.changed.new.tx.contents (begins_remains c.args.c.now c.args.site.now.t under c.args.units.now c.args.tx.now.contents c.begin.new.self.contents c.requires.fit c.begin.ensures.contents) (c.changed.ensures.remains under spares)

pub change-returns-in-Err-clause-exact : goal.change-returns-in-Err-clause-exact
change-returns-in-Err-clause-exact g t c = λ lists keys current is seen changing split.
    subst (Tells _ (base_of c.back_to_mark.new.self.contents (g.K.Keep.as_keeper c.changed.new.keeper)) (g.K.Keep.as_keeper c.args.keeper.now) (g.K.Keep.as_keeper c.changed.new.keeper)) (sym c.refused_change.ensures) (
    change_fails (Stmt (names_of lists) c.args.site.now.levels) (names_of lists) (place_at c.args.v.now.edition c.args.origin c.args.site.now.t changing) c.args.s.now c.args.binds.now c.args.site.now.left c.args.room c.args.tx.now.contents c.begin.new.self.contents (g.K.Keep.as_keeper c.args.keeper.now) (g.K.Keep.as_keeper c.changed.new.keeper) c.new-tally.result c.begin.ensures.contents c.new-tally.ensures c.in-Err.failure c.changed.new.tx.contents c.back_to_mark.new.self.contents c.in_ok-mark.mark c.changed.new.tally c.back_to_mark.ensures.contents c.in_ok-mark.ensures.mark
    (c.in-Err.ensures.exact lists keys current is seen changing split))

pub change-returns-in-Err-clause-remains : goal.change-returns-in-Err-clause-remains
change-returns-in-Err-clause-remains g t c = λ under spares.
    back_remains c.args.c.now c.args.site.now.t under c.args.units.now c.changed.new.units c.args.tx.now.contents c.changed.new.tx.contents c.back_to_mark.new.self.contents c.in_ok-mark.mark c.requires.fit.top (remains_then c.args.c.now c.args.site.now.t under c.args.units.now c.args.units.now c.changed.new.units c.args.tx.now.contents c.begin.new.self.contents c.changed.new.tx.contents (begins_remains c.args.c.now c.args.site.now.t under c.args.units.now c.args.tx.now.contents c.begin.new.self.contents c.requires.fit c.begin.ensures.contents) (c.changed.ensures.remains under spares)) c.in_ok-mark.ensures.mark c.back_to_mark.ensures.contents

pub change-returns-in_err-mark-clause-as_before : goal.change-returns-in_err-mark-clause-as_before
change-returns-in_err-mark-clause-as_before g t c = whatever_answer c.from_residual.result (goes_back_same c.args.tx.now.contents c.args.site.now.t)

pub change-returns-in-Err-clause-as_before : goal.change-returns-in-Err-clause-as_before
change-returns-in-Err-clause-as_before g t c =
    whatever_answer c.refused_change.result
    (changed_back c.args.c.now c.args.site.now.t no_table c.args.units.now c.changed.new.units c.args.tx.now.contents c.changed.new.tx.contents c.back_to_mark.new.self.contents c.in_ok-mark.mark c.requires.fit.top (remains_then c.args.c.now c.args.site.now.t no_table c.args.units.now c.args.units.now c.changed.new.units c.args.tx.now.contents c.begin.new.self.contents c.changed.new.tx.contents (begins_remains c.args.c.now c.args.site.now.t no_table c.args.units.now c.args.tx.now.contents c.begin.new.self.contents c.requires.fit c.begin.ensures.contents) (c.changed.ensures.remains no_table (spares_none _ _ _))) c.in_ok-mark.ensures.mark c.back_to_mark.ensures.contents)

-- ---- tested

pub tested-run_query-ran-requires-clause-live : goal.tested-run_query-ran-requires-clause-live
tested-run_query-ran-requires-clause-live g t c = top_live c.args.tx.now.contents c.args.t c.requires.fit.top

pub tested-returns-in-Ok-clause-exact : goal.tested-returns-in-Ok-clause-exact
tested-returns-in-Ok-clause-exact g t c = λ lists keys current is seen.
    subst (λ s. Said (checked_ran (Stmt (names_of lists) c.args.levels) (names_of lists) (place_at c.args.v.now.edition c.args.origin c.args.t c.args.changing.now) s c.args.binds.now c.args.left c.args.room (base_of c.args.tx.now.contents (g.K.Keep.as_keeper c.args.keeper.now))) (base_of c.run_query-ran.new.tx.contents (g.K.Keep.as_keeper c.args.keeper.now)) (g.K.Keep.as_keeper c.args.keeper.now) (g.K.Keep.as_keeper c.args.keeper.now) c.in-Ok.answer) (sym (c.in-Query.is ∙ ap (λ q. sql.Query q) (sym c.get.ensures))) (query_answers (Stmt (names_of lists) c.args.levels) (names_of lists) (place_at c.args.v.now.edition c.args.origin c.args.t c.args.changing.now) c.get.result.now c.args.v.now seen c.args.binds.now c.args.left c.args.room c.args.tx.now.contents c.run_query-ran.new.tx.contents (g.K.Keep.as_keeper c.args.keeper.now) c.in-Ok.answer (c.in-Ok.ensures.answer (place_at c.args.v.now.edition c.args.origin c.args.t c.args.changing.now) (sym c.as_slice.ensures)))

pub tested-returns-in-Err-clause-exact : goal.tested-returns-in-Err-clause-exact
tested-returns-in-Err-clause-exact g t c = λ lists keys current is seen.
    subst (λ s. Tells (checked_ran (Stmt (names_of lists) c.args.levels) (names_of lists) (place_at c.args.v.now.edition c.args.origin c.args.t c.args.changing.now) s c.args.binds.now c.args.left c.args.room (base_of c.args.tx.now.contents (g.K.Keep.as_keeper c.args.keeper.now))) (base_of c.run_query-ran.new.tx.contents (g.K.Keep.as_keeper c.args.keeper.now)) (g.K.Keep.as_keeper c.args.keeper.now) (g.K.Keep.as_keeper c.args.keeper.now) c.refusal.result) (sym (c.in-Query.is ∙ ap (λ q. sql.Query q) (sym c.get.ensures)))
    (subst (Tells (checked_ran (Stmt (names_of lists) c.args.levels) (names_of lists) (place_at c.args.v.now.edition c.args.origin c.args.t c.args.changing.now) (sql.Query c.get.result.now) c.args.binds.now c.args.left c.args.room (base_of c.args.tx.now.contents (g.K.Keep.as_keeper c.args.keeper.now))) (base_of c.run_query-ran.new.tx.contents (g.K.Keep.as_keeper c.args.keeper.now)) (g.K.Keep.as_keeper c.args.keeper.now) (g.K.Keep.as_keeper c.args.keeper.now)) (sym c.refusal.ensures) (query_refuses (Stmt (names_of lists) c.args.levels) (names_of lists) (place_at c.args.v.now.edition c.args.origin c.args.t c.args.changing.now) c.get.result.now c.args.v.now seen c.args.binds.now c.args.left c.args.room c.args.tx.now.contents c.run_query-ran.new.tx.contents (g.K.Keep.as_keeper c.args.keeper.now) c.in-Err.stop (c.in-Err.ensures.answer (place_at c.args.v.now.edition c.args.origin c.args.t c.args.changing.now) (sym c.as_slice.ensures))))

pub tested-returns-in-Ok-clause-remains : goal.tested-returns-in-Ok-clause-remains
tested-returns-in-Ok-clause-remains g t c = left_remains c.args.c.now c.args.t (under_by c.args.changing.now) c.args.units.now c.args.tx.now.contents c.run_query-ran.new.tx.contents (c.run_query-ran.ensures.leaves (under_by c.args.changing.now)) c.run_query-ran.ensures.storable

pub tested-returns-in-Err-clause-remains : goal.tested-returns-in-Err-clause-remains
tested-returns-in-Err-clause-remains g t c = left_remains c.args.c.now c.args.t (under_by c.args.changing.now) c.args.units.now c.args.tx.now.contents c.run_query-ran.new.tx.contents (c.run_query-ran.ensures.leaves (under_by c.args.changing.now)) c.run_query-ran.ensures.storable

pub tested-returns-in_err-site-in_default-clause-exact : goal.tested-returns-in_err-site-in_default-clause-exact
tested-returns-in_err-site-in_default-clause-exact g t c = let p = err_from_is_err_and c.from_residual.result c.from_residual.ensures.1 in λ lists keys current is seen. rw (p.1, p.2) (stays _ _)

pub tested-returns-in_err-site-in_default-clause-remains : goal.tested-returns-in_err-site-in_default-clause-remains
tested-returns-in_err-site-in_default-clause-remains g t c = remains_same c.args.c.now c.args.t (under_by c.args.changing.now) c.args.units.now c.args.tx.now.contents c.requires.fit.fit.storable

pub tested-returns-in-Err-clause-as_before : goal.tested-returns-in-Err-clause-as_before
tested-returns-in-Err-clause-as_before g t c =
    let place = place_at c.args.v.now.edition c.args.origin c.args.t c.args.changing.now in
    let same = query_as_before c.in-Err.stop c.args.tx.now.contents c.run_query-ran.new.tx.contents _ (c.in-Err.ensures.answer place (sym c.as_slice.ensures)) in
    whatever_answer c.refusal.result (subst (λ s. IsAsBefore s c.args.t c.args.tx.now.contents c.run_query-ran.new.tx.contents c.args.keeper.now c.args.keeper.now) (sym (c.in-Query.is ∙ ap (λ q. sql.Query q) (sym c.get.ensures))) (same, refl))

pub tested-returns-in_err-site-in_default-clause-as_before : goal.tested-returns-in_err-site-in_default-clause-as_before
tested-returns-in_err-site-in_default-clause-as_before g t c = whatever_answer c.from_residual.result (nothing_done c.args.keeper.now c.args.s.now c.args.t c.args.tx.now.contents)

pub tested-change-requires : goal.tested-change-requires
tested-change-requires g t c =
    let fit = subst (λ (w : Standpoint). Fits c.args.c.now c.args.units.now c.args.tx.now.contents w.t) (sym c.in_ok-site-in_default.ensures) c.requires.fit in
    let covers = site_covers c.args.t c.args.changing.now c.args.tables.now (tables_of c.args.v.now c.args.s.now) c.args.left c.args.levels c.in_ok-site-in_default.site c.in_ok-site-in_default.ensures c.requires.tables in
    let levels : c.in_ok-site-in_default.site.levels ≡ c.args.levels = ap (λ (w : Standpoint). w.levels) c.in_ok-site-in_default.ensures in
    λ κs within. (omega (arith, c.decreases, levels), (within, (c.requires.order, (c.requires.living, (fit, covers)))))

pub tested-returns-in_ok-site-in_default-clause-exact : goal.tested-returns-in_ok-site-in_default-clause-exact
tested-returns-in_ok-site-in_default-clause-exact g t c = λ lists keys current is seen.
    change_tells c.args.t c.args.changing.now c.args.tables.now (tables_of c.args.v.now c.args.s.now) c.args.left c.args.levels c.in_ok-site-in_default.site c.in_ok-site-in_default.ensures c.requires.tables (names_of lists) c.args.v.now.edition c.args.origin c.args.s.now c.args.binds.now c.args.room (base_of c.args.tx.now.contents (g.K.Keep.as_keeper c.args.keeper.now)) (base_of c.change.new.tx.contents (g.K.Keep.as_keeper c.change.new.keeper)) (g.K.Keep.as_keeper c.args.keeper.now) (g.K.Keep.as_keeper c.change.new.keeper) c.change.result
    c.in_default.not-Query (c.change.ensures.exact lists keys current is seen c.args.changing.now)

pub tested-returns-in_ok-site-in_default-clause-remains : goal.tested-returns-in_ok-site-in_default-clause-remains
tested-returns-in_ok-site-in_default-clause-remains g t c = site_remains c.args.t c.args.changing.now c.args.tables.now (tables_of c.args.v.now c.args.s.now) c.args.left c.args.levels c.in_ok-site-in_default.site c.in_ok-site-in_default.ensures c.requires.tables c.args.c.now c.args.units.now c.change.new.units c.args.tx.now.contents c.change.new.tx.contents c.requires.free c.change.ensures.remains

pub tested-returns-in_ok-site-in_default-clause-as_before : goal.tested-returns-in_ok-site-in_default-clause-as_before
tested-returns-in_ok-site-in_default-clause-as_before g t c =
    let on_site = subst (λ (w : Standpoint). OnErr c.change.result (GoesBack c.args.tx.now.contents w.t c.change.new.tx.contents)) c.in_ok-site-in_default.ensures c.change.ensures.as_before in
    on_err_weaker c.change.result (change_as_before c.args.keeper.now c.change.new.keeper c.args.s.now c.args.t c.args.tx.now.contents c.change.new.tx.contents c.in_default.not-Query) on_site

-- ---- statement

pub statement-returns-then-levels-eq0-clause-exact : goal.statement-returns-then-levels-eq0-clause-exact
statement-returns-then-levels-eq0-clause-exact g t c = λ lists keys current is seen. too_deep_as (names_of lists) c.args.levels (place_at c.args.v.now.edition c.args.origin c.args.t c.args.changing.now) c.args.s.now c.args.binds.now c.args.left c.args.room (base_of c.args.tx.now.contents (g.K.Keep.as_keeper c.args.keeper.now)) (g.K.Keep.as_keeper c.args.keeper.now) c.refused.result c.refused.ensures c.if-levels-eq0.true

pub statement-returns-in-Err-clause-exact : goal.statement-returns-in-Err-clause-exact
statement-returns-in-Err-clause-exact g t c = λ lists keys current is seen.
    let some : 0 < c.args.levels = omega (arith, c.if-levels-eq0.false) in
    subst (Tells _ (base_of c.args.tx.now.contents (g.K.Keep.as_keeper c.args.keeper.now)) (g.K.Keep.as_keeper c.args.keeper.now) (g.K.Keep.as_keeper c.args.keeper.now)) (sym c.refusal.ensures) (refuses (names_of lists) c.args.levels (place_at c.args.v.now.edition c.args.origin c.args.t c.args.changing.now) c.args.s.now c.args.binds.now c.args.left c.args.room (base_of c.args.tx.now.contents (g.K.Keep.as_keeper c.args.keeper.now)) (g.K.Keep.as_keeper c.args.keeper.now) c.in-Err.stop some (c.in-Err.ensures.answer (names_of lists) (place_at c.args.v.now.edition c.args.origin c.args.t c.args.changing.now) (sym seen) refl (sym c.as_slice.ensures)))

pub statement-returns-in-Ok-clause-exact : goal.statement-returns-in-Ok-clause-exact
statement-returns-in-Ok-clause-exact g t c = λ lists keys current is seen.
    let some : 0 < c.args.levels = omega (arith, c.if-levels-eq0.false) in
    passes (names_of lists) c.args.levels (place_at c.args.v.now.edition c.args.origin c.args.t c.args.changing.now) c.args.s.now c.args.binds.now c.args.left c.args.room (base_of c.args.tx.now.contents (g.K.Keep.as_keeper c.args.keeper.now)) (g.K.Keep.as_keeper c.args.keeper.now) some (c.in-Ok.ensures.answer (names_of lists) (place_at c.args.v.now.edition c.args.origin c.args.t c.args.changing.now) (sym seen) refl (sym c.as_slice.ensures)) (g.K.Keep.as_keeper c.tested.new.keeper) (base_of c.tested.new.tx.contents (g.K.Keep.as_keeper c.tested.new.keeper)) c.tested.result (c.tested.ensures.exact lists keys current is seen)

pub statement-returns-then-levels-eq0-clause-remains : goal.statement-returns-then-levels-eq0-clause-remains
statement-returns-then-levels-eq0-clause-remains g t c = remains_same c.args.c.now c.args.t (under_by c.args.changing.now) c.args.units.now c.args.tx.now.contents c.requires.fit.fit.storable

pub statement-returns-in-Err-clause-remains : goal.statement-returns-in-Err-clause-remains
statement-returns-in-Err-clause-remains g t c = remains_same c.args.c.now c.args.t (under_by c.args.changing.now) c.args.units.now c.args.tx.now.contents c.requires.fit.fit.storable

pub statement-returns-in-Err-clause-as_before : goal.statement-returns-in-Err-clause-as_before
statement-returns-in-Err-clause-as_before g t c = whatever_answer c.refusal.result (nothing_done c.args.keeper.now c.args.s.now c.args.t c.args.tx.now.contents)
