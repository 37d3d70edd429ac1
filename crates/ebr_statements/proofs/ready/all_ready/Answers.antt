use Rattle.std.proofs.Common.{◌≡◌, ◌+◌, ◌≤◌, ◌∷◌, drop, length, subst, sym, arith}
use Rattle.std.proofs.lemmas.Grind.{common_steps}
use Rattle.std.proofs.lemmas.Result.{err_from_is_err_and}
use Rattle.ebr_statements.proofs.Gathering.{Gathers, gathers_all, gathers_fails, gathers_more, gathers_none}
use Rattle.ebr_statements.proofs.ready.all_ready.Goals as goal

pub loop-f-init : goal.loop-f-init
loop-f-init c =
    subst (λ all. Gathers c.args.c.now c.args.units.now c.args.firings.now 0 all c.args.units.now) (sym c.new-all.ensures) (gathers_none c.args.c.now c.args.units.now c.args.firings.now c.requires)

pub ready_for-requires : goal.ready_for-requires
ready_for-requires c = c.loop-f.invariant.current

pub returns-in_err-ready_for-clause-ready : goal.returns-in_err-ready_for-clause-ready
returns-in_err-ready_for-clause-ready c =
    let next : drop c.loop-f.f-index c.args.firings.now ≡ c.f-item.result ∷ drop (c.loop-f.f-index + 1) c.args.firings.now = grind (arith, common_steps) in
    let p = err_from_is_err_and c.from_residual.result c.from_residual.ensures.1 in rw (p.1, p.2)
    (gathers_fails c.args.c.now c.args.units.now c.args.firings.now c.loop-f.f-index c.loop-f.all c.loop-f.units c.loop-f.invariant c.f-item.result next c.in_err-ready_for.field-0.0 c.in_err-ready_for.ensures.ready)

pub returns-in_err-ready_for-clause-current : goal.returns-in_err-ready_for-clause-current
returns-in_err-ready_for-clause-current c = λ lists keys current is. c.ready_for.ensures.current lists keys (c.loop-f.invariant.stays lists keys current is) is

pub returns-in_err-push-clause-current : goal.returns-in_err-push-clause-current
returns-in_err-push-clause-current c = λ lists keys current is. c.ready_for.ensures.current lists keys (c.loop-f.invariant.stays lists keys current is) is

pub loop-f-preserved : goal.loop-f-preserved
loop-f-preserved c =
    let next : drop c.loop-f.f-index c.args.firings.now ≡ c.f-item.result ∷ drop (c.loop-f.f-index + 1) c.args.firings.now = grind (arith, common_steps) in
    gathers_more c.args.c.now c.args.units.now c.args.firings.now c.loop-f.f-index c.loop-f.all c.loop-f.units c.loop-f.invariant c.f-item.result next
    c.in_ok-ready_for.field-0 c.push.new.self c.ready_for.new.units c.in_ok-push.ensures.ok c.in_ok-ready_for.ensures.ready c.in_ok-ready_for.ensures.tables c.ready_for.ensures.current

pub returns-clause-ready : goal.returns-clause-ready
returns-clause-ready c =
    let over : length c.args.firings.now ≤ c.loop-f.f-index = grind (arith, common_steps) in
    gathers_all c.args.c.now c.args.units.now c.args.firings.now c.loop-f.f-index c.loop-f.all c.loop-f.units c.loop-f.invariant over

pub returns-clause-tables : goal.returns-clause-tables
returns-clause-tables c = c.loop-f.invariant.tables

pub returns-clause-current : goal.returns-clause-current
returns-clause-current c = c.loop-f.invariant.stays
