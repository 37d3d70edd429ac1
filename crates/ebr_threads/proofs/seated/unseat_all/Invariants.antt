use Rattle.std.proofs.Common.{◌≡◌, ◌++◌, ◌+◌, length, map, vec_len, vec_capacity, None}
use Rattle.std.specs.Prelude.{All}
use Rattle.ebr_turn.specs.declared.view.Stage.TheVariants.{Idle}
use Rattle.ebr_threads.specs.Seating.{HasEnded, HasSat, list_by, workers_of}
use Rattle.ebr_threads.proofs.seated.unseat_all.Given as goal

abbrev pub invariant-loop-seat : goal.invariant-loop-seat
invariant-loop-seat g l =
    (l.first.turn ≡ l.fn.first.turn) × (l.first.view.stage ≡ Idle) × (l.first.view.number ≡ None) × (l.first.view.share + length l.seats.items ≡ l.fn.first.view.share + length l.fn.seats.items)
    × All (λ x. HasSat l.fn.turn.id g.N.Naming.sessions x.worker x.chair) l.seats.items
    × (l.workers.items ++ workers_of (λ x. x.worker) l.seats.items ≡ workers_of (λ x. x.worker) l.fn.seats.items)
    × (l.first.view.kept ≡ map list_by l.workers.items)
    × (vec_len l.workers + vec_len l.seats ≡ vec_len l.fn.seats) × (vec_capacity l.workers ≡ vec_capacity l.fn.workers)
    × All HasEnded l.workers.items

abbrev pub decreases-loop-seat : goal.decreases-loop-seat
decreases-loop-seat g l = vec_len l.seats
