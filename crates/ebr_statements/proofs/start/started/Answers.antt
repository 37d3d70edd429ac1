use Rattle.std.proofs.Common.{◌≡◌, true, false, rules}
use Rattle.std.proofs.lemmas.Result.{err_from_is_err_and}
use Rattle.ebr_cross.specs.Catalogue.{View}
use Rattle.ebr_exec.specs.Places.{names_of}
use Rattle.ebr_exec.proofs.Fits.{started_narrow}
use Rattle.ebr_bodies.specs.Ready.{operation}
use Rattle.ebr_bodies.specs.Statements.{is_appliable}
use Rattle.ebr_statements.specs.inside.Views.{place_at}
use Rattle.ebr_statements.proofs.Starting.{begun_with, no_start, no_triggers, not_appliable, starts}
use Rattle.ebr_statements.proofs.start.started.Goals as goal

pub returns-then-not-is_appliable-clause-started : goal.returns-then-not-is_appliable-clause-started
returns-then-not-is_appliable-clause-started c = λ lists keys current is seen changing.
    let not_there : is_appliable c.args.v.now c.args.s.now ≡ false = search rules in
    not_appliable (names_of lists) (place_at c.args.v.now.edition c.args.origin c.args.t changing) c.args.s.now c.args.binds.now c.args.tx.now.contents c.args.v.now seen not_there

pub returns-in_err-rows-clause-started : goal.returns-in_err-rows-clause-started
returns-in_err-rows-clause-started c =
    let there : is_appliable c.args.v.now c.args.s.now ≡ true = search rules in
    let p = err_from_is_err_and c.from_residual.result c.from_residual.ensures.1 in rw (p.1, p.2)
    (λ lists keys current is seen changing.
    no_start (names_of lists) (place_at c.args.v.now.edition c.args.origin c.args.t changing) c.args.s.now c.args.binds.now c.args.tx.now.contents c.args.v.now seen there
    (View lists) (operation c.args.s.now) c.in_err-rows.field-0.0 c.in_err-rows.ensures.started)

pub returns-in_err-work-clause-started : goal.returns-in_err-work-clause-started
returns-in_err-work-clause-started c =
    let there : is_appliable c.args.v.now c.args.s.now ≡ true = search rules in
    let p = err_from_is_err_and c.from_residual-in_err-work.result c.from_residual-in_err-work.ensures.1 in rw (p.1, p.2)
    (λ lists keys current is seen changing.
    no_triggers (names_of lists) (place_at c.args.v.now.edition c.args.origin c.args.t changing) c.args.s.now c.args.binds.now c.args.tx.now.contents c.args.v.now seen there
    c.in_ok-rows.rows c.in_ok-rows.ensures.started (View lists) (operation c.args.s.now) c.in_err-work.field-0.0 (c.in_err-work.ensures.ready lists keys current is seen c.args.t changing))

pub returns-clause-started : goal.returns-clause-started
returns-clause-started c = λ lists keys current is seen changing.
    let there : is_appliable c.args.v.now c.args.s.now ≡ true = search rules in
    starts (names_of lists) (place_at c.args.v.now.edition c.args.origin c.args.t changing) c.args.s.now c.args.binds.now c.args.tx.now.contents c.args.v.now seen there
    c.in_ok-rows.rows c.in_ok-rows.ensures.started (View lists) (operation c.args.s.now) c.in_ok-work.work (c.in_ok-work.ensures.ready lists keys current is seen c.args.t changing)

pub returns-clause-tx : goal.returns-clause-tx
returns-clause-tx c = (begun_with c.args.v.now c.args.tx.now.contents c.args.t c.args.s.now c.args.binds.now c.in_ok-rows.rows c.in_ok-rows.ensures.started).tx

pub returns-clause-between : goal.returns-clause-between
returns-clause-between c = (begun_with c.args.v.now c.args.tx.now.contents c.args.t c.args.s.now c.args.binds.now c.in_ok-rows.rows c.in_ok-rows.ensures.started).begun

pub returns-clause-count : goal.returns-clause-count
returns-clause-count c = (begun_with c.args.v.now c.args.tx.now.contents c.args.t c.args.s.now c.args.binds.now c.in_ok-rows.rows c.in_ok-rows.ensures.started).count

pub returns-clause-narrow : goal.returns-clause-narrow
returns-clause-narrow c = λ all. started_narrow c.in_ok-rows.rows c.args.tx.now.contents c.args.t c.args.v.now c.args.s.now c.args.binds.now all c.in_ok-rows.ensures.started

pub returns-clause-table : goal.returns-clause-table
returns-clause-table c = (begun_with c.args.v.now c.args.tx.now.contents c.args.t c.args.s.now c.args.binds.now c.in_ok-rows.rows c.in_ok-rows.ensures.started).table
