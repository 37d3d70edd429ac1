use Rattle.std.proofs.Common.{arith}
use Rattle.ebr_value.proofs.Numerals.{more_digits, digit_at, at_most_18}
use Rattle.ebr_value.proofs.numeral.decimal.Goals as goal

pub overflow_mul-value : goal.overflow_mul-value
overflow_mul-value c =
    let d = digit_at c.args.digits.now c.loop-byte.byte-index 0 c.requires.all c.loop-byte-test.true in
    omega (arith, (more_digits _ _ _ _ c.loop-byte.invariant.small c.loop-byte-test.true c.requires.few d.0 d.1).1)

pub overflow_add-value : goal.overflow_add-value
overflow_add-value c =
    let d = digit_at c.args.digits.now c.loop-byte.byte-index 0 c.requires.all c.loop-byte-test.true in
    omega (arith, d, (more_digits _ _ _ _ c.loop-byte.invariant.small c.loop-byte-test.true c.requires.few d.0 d.1).1)

pub returns-clause-small : goal.returns-clause-small
returns-clause-small c = at_most_18 c.loop-byte.value c.loop-byte.byte-index c.loop-byte.invariant.small (omega (arith, c.requires.few))
