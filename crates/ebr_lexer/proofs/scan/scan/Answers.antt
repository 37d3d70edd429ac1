use Rattle.std.proofs.Common.{◌≡◌, ◌-◌, arith, length, sym, ap, ◌∙◌, refl}
use Rattle.std.proofs.lemmas.List.{length-drop}
use Rattle.std.proofs.lemmas.Result.{err_from_is_err_and}
use Rattle.ebr_lexer.proofs.Scanning.{tells_end, tells_all, tells_stop, tells_more}
use Rattle.ebr_lexer.proofs.scan.scan.Goals as goal

pub returns-then-is_empty : goal.returns-then-is_empty
returns-then-is_empty c =
    let z : length c.rest_from-rest.result.now ≡ 0 = grind arith in
    tells_end c.loop.tokens _ c.loop.place _ _ c.loop.invariant.same (ap length (sym c.rest_from-rest.ensures) ∙ z)

pub returns-in_err-what : goal.returns-in_err-what
returns-in_err-what c =
    let p = err_from_is_err_and c.from_residual.result c.from_residual.ensures.1 in
    rw (p.1, p.2) (tells_stop c.in_err-what.field-0.0 c.loop.tokens _ c.loop.counter c.loop.place c.args.bytes.now c.rest_from-rest.result.now _ c.loop-test.true
    c.loop.invariant.same c.rest_from-rest.ensures (grind arith) c.in_err-what.ensures.value)

pub loop-preserved : goal.loop-preserved
loop-preserved c =
    let left : length c.rest_from-rest.result.now ≡ length c.args.bytes.now - c.loop.place = ap length c.rest_from-rest.ensures ∙ length-drop c.loop.place c.args.bytes.now in
    record {
      same = tells_more c.loop.tokens c.add_token.new.tokens _ c.loop.counter c.loop.place _ c.args.bytes.now c.rest_from-rest.result.now c.in_ok-what.field-0 _ c.loop-test.true
          c.loop.invariant.same c.rest_from-rest.ensures (grind arith) c.in_ok-what.ensures.value refl c.in_ok-add_token.ensures;
      within = omega (arith, left, c.in_ok-what.ensures.within, c.loop.invariant.within);
    }

pub returns : goal.returns
returns c = tells_all c.loop.tokens _ c.loop.counter c.loop.place _ _ c.loop.invariant.same c.loop-test.false
