use Rattle.ebr_threads.proofs.Telling.{told_all, went_seats}
use Rattle.ebr_threads.proofs.run.run_named.Goals as goal

pub returns-clause-told : goal.returns-clause-told
returns-clause-told g c =
    told_all c.close.result.history _ _ _ c.unseat_all.new.first.view c.requires.ready
    (went_seats (λ x. x.worker) c.seat_all.new.seats.items c.work.new.seats.items _ _ c.work.ensures.len c.work.ensures.went c.seat_all.ensures.seats c.unseat_all.ensures.workers)
    c.unseat_all.ensures.ended c.unseat_all.ensures.first.1 c.unseat_all.ensures.kept c.close.ensures.told
