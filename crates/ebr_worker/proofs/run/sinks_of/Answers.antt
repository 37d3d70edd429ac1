use Rattle.std.proofs.Common.{◌≡◌, ◌+◌, ◌∷◌, length, ap, arith, rules, sym, subst, ◌∙◌}
use Rattle.std.specs.Prelude.{All, map}
use Rattle.std.specs.Vec.Iter.{into_iter_items}
use Rattle.std.proofs.lemmas.List.Elements.{All-push}
use Rattle.ebr_worker.specs.Runs.{IsUnwritten}
use Rattle.ebr_worker.specs.Work.{Work}
use Rattle.ebr_worker.specs.inside.Rehearsal.{IsBegun}
use Rattle.ebr_worker.proofs.Running.{all_none, begun_first, moved, moved_all, moved_none, next_first, next_rest, unwritten_sink, words_back}
use Rattle.ebr_worker.proofs.run.sinks_of.Goals as goal

pub loop-worker-init : goal.loop-worker-init
loop-worker-init g c =
    let items : into_iter_items c.into_iter-worker-iterator.result ≡ c.args.workers.items = search rules in
    record {
      left = search rules;
      count = omega (arith, ap length items, ap length c.requires.empty);
      room = c.requires.room;
      begun = begun_first _ c.args.workers.items _ _ c.requires.begun items (ap length c.requires.empty);
      words = moved_none g.S.Sink.word (λ (w : Work). w.word) c.args.sinks.items _ c.args.workers.items c.requires.empty items;
      unwritten = all_none (IsUnwritten g.S.Sink.held g.S.Sink.faults) c.args.sinks.items c.requires.empty;
    }

pub loop-worker-preserved : goal.loop-worker-preserved
loop-worker-preserved g c =
    let cut : into_iter_items c.loop-worker.worker-iterator ≡ c.in-Some.worker ∷ into_iter_items c.next.new.self = search rules in
    let here = next_first (λ i w. IsBegun (i + 1) w) (length c.loop-worker.sinks.items) _ _ _ cut c.loop-worker.invariant.begun in
    record {
      left = omega (arith, c.loop-worker.invariant.left, ap length cut);
      count = omega (arith, c.loop-worker.invariant.count, ap length cut, ap length c.push_reserved.ensures.items);
      room = search (rules, arith);
      begun = next_rest (λ i w. IsBegun (i + 1) w) c.loop-worker.sinks.items _ c.into_sink.result _ _ c.in-Some.worker cut c.push_reserved.ensures.items c.loop-worker.invariant.begun;
      words = moved g.S.Sink.word (λ (w : Work). w.word) c.loop-worker.sinks.items _ c.into_sink.result _ _ c.in-Some.worker _ c.push_reserved.ensures.items cut c.into_sink.ensures.word c.loop-worker.invariant.words;
      unwritten = subst (All (IsUnwritten g.S.Sink.held g.S.Sink.faults)) (sym c.push_reserved.ensures.items)
          (All-push (IsUnwritten g.S.Sink.held g.S.Sink.faults) c.loop-worker.sinks.items c.into_sink.result c.loop-worker.invariant.unwritten (unwritten_sink g.S.Sink.held g.S.Sink.faults _ c.in-Some.worker c.into_sink.result here c.into_sink.ensures.holds c.into_sink.ensures.counted));
    }

pub returns-clause-words : goal.returns-clause-words
returns-clause-words g c = words_back c.args.workers.items _ (moved_all g.S.Sink.word (λ (w : Work). w.word) c.loop-worker.sinks.items _ _ (search (rules, arith)) c.loop-worker.invariant.words)
