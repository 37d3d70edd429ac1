use Rattle.std.proofs.Common.{◌≡◌, ◌∷◌, length, ap, arith, refl, rules, subst, sym}
use Rattle.std.specs.Vec.Iter.{into_iter_items}
use Rattle.std.proofs.lemmas.List.{length-map}
use Rattle.ebr_worker.specs.Runs.{AreEnds}
use Rattle.ebr_worker.specs.Rehearsal.{jobs_of}
use Rattle.ebr_worker.specs.Work.{job_of}
use Rattle.ebr_worker.specs.inside.Rehearsal.{AllFrom, EndsAt, IsEndAt}
use Rattle.ebr_worker.proofs.Running.{are_ends, end_at, end_few, end_some, ends_first, next_first, next_rest, next_told, none_told}
use Rattle.ebr_worker.proofs.run.results_of.Goals as goal

pub loop-worker-init : goal.loop-worker-init
loop-worker-init g c =
    let count : length (jobs_of c.args.workers.items) ≡ length c.args.workers.items = length-map c.args.workers.items job_of in
    let items : into_iter_items c.into_iter-worker-iterator.result ≡ c.args.workers.items = search rules in
    record {
      left = search rules;
      count = omega (arith, ap length items, ap length c.requires.empty, count);
      room = omega (arith, c.requires.room, count);
      workers = subst (λ n. AllFrom (EndsAt (jobs_of c.args.workers.items) c.args.engine) n (into_iter_items c.into_iter-worker-iterator.result)) (sym (ap length c.requires.empty))
          (subst (AllFrom (EndsAt (jobs_of c.args.workers.items) c.args.engine) 0) (sym items) (ends_first (jobs_of c.args.workers.items) _ _ refl c.requires.ended));
      ended = none_told (IsEndAt g.S.Sink.held g.S.Sink.faults g.S.Sink.word (jobs_of c.args.workers.items) c.args.engine.history) c.args.ends.items c.requires.empty;
    }

pub into_end-requires-clause-ended : goal.into_end-requires-clause-ended
into_end-requires-clause-ended g c =
    let cut : into_iter_items c.loop-worker.worker-iterator ≡ c.in-Some.worker ∷ into_iter_items c.next.new.self = search rules in
    end_some (jobs_of c.args.workers.items) c.args.engine (length c.loop-worker.ends.items) c.in-Some.worker (next_first (EndsAt (jobs_of c.args.workers.items) c.args.engine) (length c.loop-worker.ends.items) _ _ _ cut c.loop-worker.invariant.workers)

pub into_end-requires-clause-few : goal.into_end-requires-clause-few
into_end-requires-clause-few g c =
    let cut : into_iter_items c.loop-worker.worker-iterator ≡ c.in-Some.worker ∷ into_iter_items c.next.new.self = search rules in
    end_few (jobs_of c.args.workers.items) c.args.engine (length c.loop-worker.ends.items) c.in-Some.worker (next_first (EndsAt (jobs_of c.args.workers.items) c.args.engine) (length c.loop-worker.ends.items) _ _ _ cut c.loop-worker.invariant.workers)

pub loop-worker-preserved : goal.loop-worker-preserved
loop-worker-preserved g c =
    let cut : into_iter_items c.loop-worker.worker-iterator ≡ c.in-Some.worker ∷ into_iter_items c.next.new.self = search rules in
    record {
      left = omega (arith, c.loop-worker.invariant.left, ap length cut);
      count = omega (arith, c.loop-worker.invariant.count, ap length cut, ap length c.push_reserved.ensures.items);
      room = search (rules, arith);
      workers = next_rest (EndsAt (jobs_of c.args.workers.items) c.args.engine) c.loop-worker.ends.items _ c.into_end.result _ _ c.in-Some.worker cut c.push_reserved.ensures.items c.loop-worker.invariant.workers;
      ended = next_told (IsEndAt g.S.Sink.held g.S.Sink.faults g.S.Sink.word (jobs_of c.args.workers.items) c.args.engine.history) c.loop-worker.ends.items _ c.into_end.result c.push_reserved.ensures.items c.loop-worker.invariant.ended
          (end_at g.S.Sink.held g.S.Sink.faults g.S.Sink.word (jobs_of c.args.workers.items) c.args.engine (length c.loop-worker.ends.items) c.in-Some.worker c.into_end.result (next_first (EndsAt (jobs_of c.args.workers.items) c.args.engine) (length c.loop-worker.ends.items) _ _ _ cut c.loop-worker.invariant.workers) c.into_end.ensures.end c.into_end.ensures.sink);
    }

pub returns-clause-ends : goal.returns-clause-ends
returns-clause-ends g c =
    subst (AreEnds g.S.Sink.held g.S.Sink.faults g.S.Sink.word (jobs_of c.args.workers.items) c.into_parts-recovered.result.1) (sym c.from_vec.ensures)
    (are_ends g.S.Sink.held g.S.Sink.faults g.S.Sink.word (jobs_of c.args.workers.items) _ _ _ c.into_parts-recovered.ensures.history c.loop-worker.invariant.ended (search (rules, arith)))
