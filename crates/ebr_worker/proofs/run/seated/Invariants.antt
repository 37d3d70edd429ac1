use Rattle.std.proofs.Common.{◌≡◌, ◌+◌, ◌≤◌, ◌++◌, length, map}
use Rattle.std.specs.Prelude.{All, vec_capacity}
use Rattle.std.specs.Vec.Iter.{into_iter_items, into_iter_len}
use Rattle.ebr_worker.specs.Rehearsal.{jobs_of}
use Rattle.ebr_worker.specs.Runs.{IsUnwritten}
use Rattle.ebr_worker.specs.Work.{Work}
use Rattle.ebr_worker.specs.inside.Rehearsal.{AllFrom, AreBegun, IsNew, script_of}
use Rattle.ebr_worker.proofs.run.seated.Given as goal

-- so many workers are made, for which there is room, and as many sessions as sinks are left
abbrev pub invariant-loop-sink : goal.invariant-loop-sink
invariant-loop-sink g l = record {
  left : into_iter_len l.sink-iterator ≡ length (into_iter_items l.sink-iterator);
  rest_left : into_iter_len l.rest ≡ length (into_iter_items l.rest);
  same : length (into_iter_items l.rest) ≡ length (into_iter_items l.sink-iterator);
  count : length l.workers.items + length (into_iter_items l.sink-iterator) ≡ length l.fn.sinks.items;
  room : length l.fn.sinks.items ≤ vec_capacity l.workers;
  unwritten : All (IsUnwritten g.S.Sink.held g.S.Sink.faults) (into_iter_items l.sink-iterator);
  new : AllFrom (λ i s. IsNew (i + 1) s) (length l.workers.items) (into_iter_items l.rest);
  begun : AreBegun (jobs_of l.workers.items) l.workers.items;
  scripts : map (λ (w : Work). w.session.script) l.workers.items ++ map script_of (into_iter_items l.rest) ≡ map script_of l.fn.sessions.items;
  words : map (λ (w : Work). w.word) l.workers.items ++ map g.S.Sink.word (into_iter_items l.sink-iterator) ≡ map g.S.Sink.word l.fn.sinks.items;
}
