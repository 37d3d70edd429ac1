use Rattle.std.proofs.Common.{◌≡◌, ◌+◌, ◌∷◌, length, ap, arith, rules, sym, subst, ◌∙◌}
use Rattle.std.specs.Prelude.{All}
use Rattle.std.specs.Vec.Iter.{into_iter_items}
use Rattle.ebr_worker.specs.Runs.{IsUnwritten}
use Rattle.ebr_worker.specs.Work.{Work}
use Rattle.ebr_worker.specs.inside.Rehearsal.{IsNew, script_of}
use Rattle.ebr_worker.proofs.Running.{begun_at, begun_none, head_all, moved, moved_all, moved_none, new_first, next_first, next_rest, scripts_by, tail_all, words_by}
use Rattle.ebr_worker.proofs.run.seated.Goals as goal

pub loop-sink-init : goal.loop-sink-init
loop-sink-init g c =
    let items : into_iter_items c.into_iter-sink-iterator.result ≡ c.args.sinks.items = search rules in
    let rest : into_iter_items c.into_iter-rest.result ≡ c.args.sessions.items = search rules in
    record {
      left = search rules;
      rest_left = search rules;
      same = omega (arith, ap length items, ap length rest, c.requires.sinks);
      count = omega (arith, ap length items, ap length c.requires.empty);
      room = omega (arith, c.requires.sinks, c.requires.room);
      unwritten = subst (All (IsUnwritten g.S.Sink.held g.S.Sink.faults)) (sym items) c.requires.unwritten;
      new = new_first _ c.args.sessions.items _ _ c.requires.new rest (ap length c.requires.empty);
      begun = begun_none c.args.workers.items c.requires.empty;
      scripts = moved_none (λ (w : Work). w.session.script) script_of c.args.workers.items _ c.args.sessions.items c.requires.empty rest;
      words = moved_none (λ (w : Work). w.word) g.S.Sink.word c.args.workers.items _ c.args.sinks.items c.requires.empty items;
    }

pub loop-sink-preserved : goal.loop-sink-preserved
loop-sink-preserved g c =
    let cut : into_iter_items c.loop-sink.sink-iterator ≡ c.in-Some.sink ∷ into_iter_items c.next.new.self = search rules in
    let cut_rest : into_iter_items c.loop-sink.rest ≡ c.in-Some-next.session ∷ into_iter_items c.next-in-loop-sink.new.self = search rules in
    let fresh = head_all (IsUnwritten g.S.Sink.held g.S.Sink.faults) _ _ c.in-Some.sink cut c.loop-sink.invariant.unwritten in
    let new = next_first (λ i s. IsNew (i + 1) s) (length c.loop-sink.workers.items) _ _ _ cut_rest c.loop-sink.invariant.new in
    let session = ap (λ (w : Work). w.session) c.new.ensures in
    record {
      left = omega (arith, c.loop-sink.invariant.left, ap length cut);
      rest_left = omega (arith, c.loop-sink.invariant.rest_left, ap length cut_rest);
      same = omega (arith, c.loop-sink.invariant.same, ap length cut, ap length cut_rest);
      count = omega (arith, c.loop-sink.invariant.count, ap length cut, ap length c.push_reserved.ensures.items);
      room = search (rules, arith);
      unwritten = tail_all (IsUnwritten g.S.Sink.held g.S.Sink.faults) _ _ c.in-Some.sink cut c.loop-sink.invariant.unwritten;
      new = next_rest (λ i s. IsNew (i + 1) s) c.loop-sink.workers.items _ c.new.result _ _ c.in-Some-next.session cut_rest c.push_reserved.ensures.items c.loop-sink.invariant.new;
      begun = begun_at c.loop-sink.workers.items _ c.new.result c.in-Some-next.session new session (ap (λ (w : Work). w.written) c.new.ensures) (ap (λ (w : Work). w.faults) c.new.ensures ∙ fresh.1) (ap (λ (w : Work). w.why) c.new.ensures) (ap (λ (w : Work). w.end) c.new.ensures)
          c.push_reserved.ensures.items c.loop-sink.invariant.begun;
      scripts = moved (λ (w : Work). w.session.script) script_of c.loop-sink.workers.items _ c.new.result _ _ c.in-Some-next.session _ c.push_reserved.ensures.items cut_rest (ap (λ (w : Work). w.session.script) c.new.ensures) c.loop-sink.invariant.scripts;
      words = moved (λ (w : Work). w.word) g.S.Sink.word c.loop-sink.workers.items _ c.new.result _ _ c.in-Some.sink _ c.push_reserved.ensures.items cut (ap (λ (w : Work). w.word) c.new.ensures) c.loop-sink.invariant.words;
    }

pub returns-clause-scripts : goal.returns-clause-scripts
returns-clause-scripts g c = scripts_by c.loop-sink.workers.items _ (moved_all (λ (w : Work). w.session.script) script_of c.loop-sink.workers.items _ _ (search (rules, arith)) c.loop-sink.invariant.scripts)

pub returns-clause-words : goal.returns-clause-words
returns-clause-words g c = words_by c.loop-sink.workers.items _ (moved_all (λ (w : Work). w.word) g.S.Sink.word c.loop-sink.workers.items _ _ (search (rules, arith)) c.loop-sink.invariant.words)
