use Rattle.std.proofs.Common.{◌≡◌, ◌++◌, ◌+◌, length, vec_len, vec_capacity}
use Rattle.std.specs.Prelude.{All}
use Rattle.ebr_threads.specs.Seating.{IsReady, workers_of}
use Rattle.ebr_threads.specs.inside.Giving.{Gives}
use Rattle.ebr_threads.proofs.seated.seat_all.Given as goal

abbrev pub invariant-loop-worker : goal.invariant-loop-worker
invariant-loop-worker g l =
    (l.first.turn ≡ l.fn.first.turn) × Gives (length l.fn.workers.items) (length l.workers.items) l.first.view
    × (l.workers.items ++ workers_of (λ x. x.worker) l.seats.items ≡ l.fn.workers.items)
    × All (λ x. IsReady l.fn.turn.id g.N.Naming.sessions x.worker x.chair) l.seats.items
    × (vec_len l.workers + vec_len l.seats ≡ vec_len l.fn.workers) × (vec_capacity l.workers ≡ vec_capacity l.fn.workers) × (vec_capacity l.seats ≡ vec_capacity l.fn.seats)

abbrev pub decreases-loop-worker : goal.decreases-loop-worker
decreases-loop-worker g l = vec_len l.workers
