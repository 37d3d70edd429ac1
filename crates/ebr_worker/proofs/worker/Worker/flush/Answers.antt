use Rattle.std.proofs.Common.{◌≤◌, length, arith, ap}
use Rattle.ebr_worker.proofs.Outputs.{counted_short, counted_whole, flushed, held_written}
use Rattle.ebr_worker.proofs.worker.Worker.flush.Goals as goal

pub invariant_of-self : goal.invariant_of-self
invariant_of-self g c =
    let within : c.offer-self-inside.result ≤ length c.self.inside.session.printed = omega (arith, ap length c.printed-printed.ensures, c.offer-self-inside.ensures.within) in
    (within, held_written _ _ _ _ _ _ c.printed-printed.ensures c.offer-self-inside.ensures.onward c.self.invariant.1 c.offer-self-inside.ensures.held)

pub returns-then-self-printed : goal.returns-then-self-printed
returns-then-self-printed g c =
    flushed _ _ _ _ _ _ _ _ _ _ _ _ _ c.self.view_is c.offer-self-inside.ensures.onward tt
    (counted_short c.self.inside.session.printed c.printed-printed.result.now c.offer-self-inside.result _ _ c.printed-printed.ensures c.if-self-printed.true c.offer-self-inside.ensures.counted) c.offer-self-inside.ensures.same

pub invariant_of-self-2 : goal.invariant_of-self-2
invariant_of-self-2 g c =
    let within : c.offer-self-inside.result ≤ length c.self.inside.session.printed = omega (arith, ap length c.printed-printed.ensures, c.offer-self-inside.ensures.within) in
    (within, held_written _ _ _ _ _ _ c.printed-printed.ensures c.offer-self-inside.ensures.onward c.self.invariant.1 c.offer-self-inside.ensures.held)

pub returns : goal.returns
returns g c =
    let whole : length c.self.inside.session.printed ≤ c.offer-self-inside.result = omega (arith, ap length c.printed-printed.ensures, c.if-self-printed.false) in
    flushed _ _ _ _ _ _ _ _ _ _ _ _ _ c.self.view_is c.offer-self-inside.ensures.onward whole
    (counted_whole c.self.inside.session.printed c.printed-printed.result.now c.offer-self-inside.result _ _ c.printed-printed.ensures c.offer-self-inside.ensures.within whole c.offer-self-inside.ensures.counted) c.offer-self-inside.ensures.same
