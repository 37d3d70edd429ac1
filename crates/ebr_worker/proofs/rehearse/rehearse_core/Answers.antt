use Rattle.std.proofs.Common.{sym, subst, ◌∙◌}
use Rattle.ebr_worker.specs.Paced.{Paced}
use Rattle.ebr_worker.proofs.Rehearsing.{all_ended, fewer_left, paced_so, turn_behind, works_at}
use Rattle.ebr_worker.proofs.rehearse.rehearse_core.Goals as goal

pub loop-at-smaller : goal.loop-at-smaller
loop-at-smaller g c =
    fewer_left g.K.Keep.as_keeper _ _ _ _ _ c.loop-at.invariant.all_stand c.turn_at.ensures (works_at c.loop-at.workers _ _ (sym c.in-Some.ensures) c.turn_at.ensures.was)

pub loop-at-preserved : goal.loop-at-preserved
loop-at-preserved g c = turn_behind g.K.Keep.as_keeper _ _ _ _ _ _ _ _ c.turn_at.ensures (sym c.in-Some.ensures) c.loop-at.invariant

pub returns-clause-paced : goal.returns-clause-paced
returns-clause-paced g c =
    subst (λ n. Paced n c.args.order.now c.loop-at.engine.history) (c.loop-at.invariant.books ∙ sym c.requires.stand.count)
    (paced_so g.K.Keep.as_keeper _ _ _ _ _ c.loop-at.invariant (sym c.in_default.ensures))

pub returns-clause-ended : goal.returns-clause-ended
returns-clause-ended g c = all_ended _ _ c.loop-at.invariant.all_stand (sym c.in_default.ensures)
