use Rattle.std.proofs.Common.{◌<◌, length, length-take, length-drop, arith, sym, ap}
use Rattle.ebr_value.proofs.Likeness.{all_of_it, loop-step, loop-none}
use Rattle.ebr_value.proofs.pattern.like_after.Goals as goal

pub ends_like-requires : goal.ends_like-requires
ends_like-requires c = all_of_it c.rest_from-rest.result.now c.part_length-length.result c.part_length-length.ensures.value c.if-length-rest.true

pub loop-rest-preserved : goal.loop-rest-preserved
loop-rest-preserved c =
    let l : c.part_length-length.result < length c.rest_from-rest.result.now = omega arith in
    record {
      same = loop-step c.args.pattern.now c.args.text.now c.rest_from-rest.result.now c.rest_from-in-loop-rest.result.now c.loop-rest.at c.loop-rest.place c.part_length-length.result c.in-Some.skipped c.loop-rest.invariant.same c.rest_from-rest.ensures c.rest_from-in-loop-rest.ensures c.part_length-length.ensures.value l (sym c.in-Some.ensures.value);
      within = omega (arith, l, ap length c.rest_from-rest.ensures, length-drop c.loop-rest.at c.args.pattern.now);
      there = omega (arith, l, c.in-Some.ensures.within, ap length c.rest_from-in-loop-rest.ensures, length-drop c.loop-rest.place c.args.text.now, length-take c.part_length-length.result c.rest_from-rest.result.now);
    }

pub returns-in-None : goal.returns-in-None
returns-in-None c =
    let l : c.part_length-length.result < length c.rest_from-rest.result.now = omega arith in
    sym (loop-none c.args.pattern.now c.args.text.now c.rest_from-rest.result.now c.rest_from-in-loop-rest.result.now c.loop-rest.at c.loop-rest.place c.part_length-length.result c.loop-rest.invariant.same c.rest_from-rest.ensures c.rest_from-in-loop-rest.ensures c.part_length-length.ensures.value l (sym c.in-None.ensures.value))
