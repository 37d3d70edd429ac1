use Rattle.std.proofs.Common.{◌≡◌, ◌-◌, arith, length, ap, ◌∙◌, refl}
use Rattle.std.proofs.lemmas.List.{length-drop}
use Rattle.ebr_cut.proofs.Scanning.{cut_end, cut_all, cut_more}
use Rattle.ebr_cut.proofs.pieces.read.Goals as goal

pub returns-then-is_empty : goal.returns-then-is_empty
returns-then-is_empty c =
    let none : length c.rest_from-rest.result.now ≡ 0 = grind arith in
    cut_end c.loop.spans _ c.loop.place c.loop.fresh c.args.script.now c.rest_from-rest.result.now _ c.loop.invariant.same c.rest_from-rest.ensures none

pub loop-preserved : goal.loop-preserved
loop-preserved c =
    let left : length c.rest_from-rest.result.now ≡ length c.args.script.now - c.loop.place = ap length c.rest_from-rest.ensures ∙ length-drop c.loop.place c.args.script.now in
    record {
      same = cut_more c.loop.spans c.add_span.new.spans _ c.loop.counter c.loop.place _ c.loop.fresh c.args.script.now c.rest_from-rest.result.now c.front-next.result _ c.loop-test.true
          c.loop.invariant.same c.rest_from-rest.ensures (grind arith) c.front-next.ensures.value refl c.in_ok-add_span.ensures;
      within = omega (arith, left, c.front-next.ensures.within, c.loop.invariant.within);
    }

pub returns : goal.returns
returns c = cut_all c.loop.spans _ c.loop.counter c.loop.place c.loop.fresh _ _ c.loop.invariant.same c.loop-test.false
