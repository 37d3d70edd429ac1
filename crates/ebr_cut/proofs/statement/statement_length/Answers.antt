use Rattle.std.proofs.Common.{◌≡◌, ◌-◌, length, ap, sym, ◌∙◌, refl, arith}
use Rattle.std.proofs.lemmas.List.{length-drop}
use Rattle.ebr_cut.specs.Reading.{bit_front}
use Rattle.ebr_cut.proofs.Passed.{pass_end, pass_all, pass_more}
use Rattle.ebr_cut.proofs.statement.statement_length.Goals as goal

pub returns-then-length-eq0-clause-value : goal.returns-then-length-eq0-clause-value
returns-then-length-eq0-clause-value c =
    pass_end bit_front _ c.loop.place c.args.bytes.now c.rest_from.result.now _ c.rest_from.ensures (sym c.bit_length-length.ensures.value ∙ c.if-length-eq0.true) c.loop.invariant.same

pub loop-preserved : goal.loop-preserved
loop-preserved c =
    let left : length c.rest_from.result.now ≡ length c.args.bytes.now - c.loop.place = ap length c.rest_from.ensures ∙ length-drop c.loop.place c.args.bytes.now in
    record {
      same = pass_more bit_front _ c.loop.counter c.loop.place c.bit_length-length.result _ c.args.bytes.now c.rest_from.result.now _ c.loop-test.true c.rest_from.ensures
          c.bit_length-length.ensures.value refl c.loop.invariant.same;
      within = omega (arith, left, c.bit_length-length.ensures.within, c.loop.invariant.within);
    }

pub returns-clause-value : goal.returns-clause-value
returns-clause-value c = pass_all bit_front _ c.loop.counter c.loop.place _ _ c.loop-test.false c.loop.invariant.same
