use Rattle.std.proofs.lemmas.Result.{err_from_is_err_and}
use Rattle.ebr_cross.specs.Catalogue.{View}
use Rattle.ebr_bodies.specs.Ready.{operation}
use Rattle.ebr_statements.proofs.Booking.{still_current}
use Rattle.ebr_statements.proofs.Starting.{fails_after, fails_before, serves_both}
use Rattle.ebr_statements.proofs.start.work_of.Goals as goal

pub returns-in_err-before-clause-ready : goal.returns-in_err-before-clause-ready
returns-in_err-before-clause-ready c =
    let p = err_from_is_err_and c.from_residual.result c.from_residual.ensures.1 in rw (p.1, p.2)
    (λ lists keys current is seen t changing. fails_before (View lists) (operation c.args.s.now) _ _ c.in_err-before.field-0.0 (c.in_err-before.ensures.ready lists keys current is seen t changing))

pub ready_at-requires-2-clause-kept : goal.ready_at-requires-2-clause-kept
ready_at-requires-2-clause-kept c =
    let q = c.requires.kept in
    still_current c.args.c.now c.args.units.now c.ready_at.new.units q (c.ready_at.ensures.current q.lists q.own_keys q.current q.is)

pub returns-in_err-after-clause-ready : goal.returns-in_err-after-clause-ready
returns-in_err-after-clause-ready c =
    let p = err_from_is_err_and c.from_residual-in_err-after.result c.from_residual-in_err-after.ensures.1 in rw (p.1, p.2)
    (λ lists keys current is seen t changing.
    let still = c.ready_at.ensures.current lists keys current is in
    fails_after (View lists) (operation c.args.s.now) _ _ c.in_ok-before.before c.in_err-after.field-0.0 (c.in_ok-before.ensures.ready lists keys current is seen t changing)
    (c.in_err-after.ensures.ready lists keys still is seen t changing))

pub returns-in_err-after-clause-current : goal.returns-in_err-after-clause-current
returns-in_err-after-clause-current c = λ lists keys current is. c.ready_at-2.ensures.current lists keys (c.ready_at.ensures.current lists keys current is) is

pub returns-clause-ready : goal.returns-clause-ready
returns-clause-ready c = λ lists keys current is seen t changing.
    let still = c.ready_at.ensures.current lists keys current is in
    serves_both (View lists) (operation c.args.s.now) _ _ c.operation.result c.in_ok-before.before c.in_ok-after.after c.operation.ensures
    (c.in_ok-before.ensures.ready lists keys current is seen t changing) (c.in_ok-after.ensures.ready lists keys still is seen t changing)

pub returns-clause-current : goal.returns-clause-current
returns-clause-current c = λ lists keys current is. c.ready_at-2.ensures.current lists keys (c.ready_at.ensures.current lists keys current is) is
