use Rattle.std.proofs.Common.{int_div, sym, ◌∙◌}
use Rattle.std.specs.Int.{w64}
use Rattle.std.proofs.lemmas.Int.{to_z-of_z}
use Rattle.ebr_value.proofs.Numbers.{quotient_is, divides}
use Rattle.ebr_value.proofs.number.quotient_of.Goals as goal

pub returns : goal.returns
returns c =
    let a = to_z-of_z w64 c.args.a c.ranges.a in
    let b = to_z-of_z w64 c.args.b c.ranges.b in
    c.whole.ensures (int_div c.args.a c.args.b) (divides c.args.a c.args.b c.checked_div.result c.if-b-eq0.false (rw (a, b) at c.checked_div.ensures)) ∙ sym (quotient_is c.args.a c.args.b c.if-b-eq0.false)
