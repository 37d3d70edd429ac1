use Rattle.std.proofs.Common.{◌≡◌, ◌+◌, ◌≤◌, ◌++◌, length, map}
use Rattle.std.specs.Prelude.{All, vec_capacity}
use Rattle.std.specs.Vec.Iter.{into_iter_items, into_iter_len}
use Rattle.ebr_worker.specs.Runs.{IsUnwritten}
use Rattle.ebr_worker.specs.Work.{Work}
use Rattle.ebr_worker.specs.inside.Rehearsal.{AllFrom, IsBegun}
use Rattle.ebr_worker.proofs.run.sinks_of.Given as goal

-- so many sinks are taken, for which there is room, and the workers of the others are left
abbrev pub invariant-loop-worker : goal.invariant-loop-worker
invariant-loop-worker g l = record {
  left : into_iter_len l.worker-iterator ≡ length (into_iter_items l.worker-iterator);
  count : length l.sinks.items + length (into_iter_items l.worker-iterator) ≡ length l.fn.workers.items;
  room : length l.fn.workers.items ≤ vec_capacity l.sinks;
  begun : AllFrom (λ i w. IsBegun (i + 1) w) (length l.sinks.items) (into_iter_items l.worker-iterator);
  words : map g.S.Sink.word l.sinks.items ++ map (λ (w : Work). w.word) (into_iter_items l.worker-iterator) ≡ map (λ (w : Work). w.word) l.fn.workers.items;
  unwritten : All (IsUnwritten g.S.Sink.held g.S.Sink.faults) l.sinks.items;
}
