use Rattle.std.proofs.Common.{◌≡◌, false, [], ◌∷◌, ◌++◌, ◌-◌, length, arith, refl, rules, ap, sym, ◌∙◌}
use Rattle.std.specs.Prelude.{map}
use Rattle.ebr_server.specs.Program.{sink_at}
use Rattle.ebr_server.proofs.Back.{back_more, back_none}
use Rattle.ebr_server.proofs.Calls.{called_same, none_called, sinks_at, step_more}
use Rattle.ebr_server.proofs.scripts.make_sinks.Goals as goal

pub loop-word-init : goal.loop-word-init
loop-word-init g c =
    let none : c.args.first - c.args.first ≡ 0 = omega arith in
    record {
      from = omega arith;
      sinks = back_none g.H.Sink.Sink.word g.H.Sink.Sink.held g.H.Sink.Sink.faults c.args.words.now c.args.first _ none _ c.in-Ok.ensures.items;
      room = omega (arith, c.in-Ok.ensures.capacity);
      count = ap length c.in-Ok.ensures.items ∙ omega arith;
      same = λ w. refl;
      same_disks = λ w. refl;
      counted = omega arith;
      reports = refl;
      called = search (rules);
    }

pub returns-in_default-clause-called : goal.returns-in_default-clause-called
returns-in_default-clause-called g c = called_same _ _ _ _ [] _ false false (sym (ap (map g.H.Sink.Sink.word) c.new.ensures.items)) refl (none_called _ _ _ _ refl refl)

pub returns-in-Err-clause-called : goal.returns-in-Err-clause-called
returns-in-Err-clause-called g c =
    sinks_at c.args.words.now _ _ _ c.args.first c.loop-word.word (length c.args.words.now) _ _ c.loop-word.invariant.from (omega arith) c.loop-word.invariant.called c.loop-word.invariant.sinks.words_are c.in-Err.ensures.called

pub loop-word-preserved : goal.loop-word-preserved
loop-word-preserved g c =
    let added : c.push_reserved.new.self.items ≡ c.loop-word.sinks.items ++ c.in-Ok-make_sink.sink ∷ [] = c.push_reserved.ensures.items in
    record {
      from = omega (arith, c.loop-word.invariant.from);
      sinks = back_more g.H.Sink.Sink.word g.H.Sink.Sink.held g.H.Sink.Sink.faults c.args.words.now c.args.first c.loop-word.word _ _ c.in-Ok-make_sink.sink c.loop-word.invariant.from c.loop-word.invariant.sinks added c.in-Ok-make_sink.ensures.made c.in-Ok-make_sink.ensures.asked;
      room = search (rules, arith);
      count = search (rules, arith);
      same = λ w. c.make_sink.ensures.same w ∙ c.loop-word.invariant.same w;
      same_disks = λ w. c.make_sink.ensures.same_disks w ∙ c.loop-word.invariant.same_disks w;
      counted = omega (arith, c.loop-word.invariant.counted, c.make_sink.ensures.counted);
      reports = c.make_sink.ensures.reports ∙ c.loop-word.invariant.reports;
      called = step_more (sink_at c.args.words.now) _ _ _ c.args.first c.loop-word.word c.loop-word.invariant.from c.loop-word.invariant.called c.in-Ok-make_sink.ensures.opened;
    }
