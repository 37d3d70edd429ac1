use Rattle.std.proofs.Common.{◌≡◌, ◌+◌, ◌≤◌, length}
use Rattle.std.specs.Prelude.{vec_capacity}
use Rattle.std.specs.Vec.Iter.{into_iter_items, into_iter_len}
use Rattle.ebr_worker.specs.Rehearsal.{jobs_of}
use Rattle.ebr_worker.specs.inside.Rehearsal.{AllFrom, EndsAt, IsEndAt}
use Rattle.ebr_worker.proofs.run.results_of.Given as goal

-- so many ends are told, for which there is room, and the workers of the others are left
abbrev pub invariant-loop-worker : goal.invariant-loop-worker
invariant-loop-worker g l = record {
  left : into_iter_len l.worker-iterator ≡ length (into_iter_items l.worker-iterator);
  count : length l.ends.items + length (into_iter_items l.worker-iterator) ≡ length (jobs_of l.fn.workers.items);
  room : length (jobs_of l.fn.workers.items) ≤ vec_capacity l.ends;
  workers : AllFrom (EndsAt (jobs_of l.fn.workers.items) l.engine) (length l.ends.items) (into_iter_items l.worker-iterator);
  ended : AllFrom (IsEndAt g.S.Sink.held g.S.Sink.faults g.S.Sink.word (jobs_of l.fn.workers.items) l.engine.history) 0 l.ends.items;
}
