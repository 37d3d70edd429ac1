use Rattle.std.proofs.Common.{FitsSigned, ap, sym, ◌∙◌}
use Rattle.std.specs.Int.{w64}
use Rattle.std.proofs.lemmas.Int.{to_z-of_z}
use Rattle.ebr_value.specs.Outcomes.{whole}
use Rattle.ebr_value.proofs.Numbers.{remainder_is}
use Rattle.ebr_value.proofs.number.remainder_of.Goals as goal

pub returns : goal.returns
returns c =
    let a = to_z-of_z w64 c.args.a c.ranges.a in
    let b = to_z-of_z w64 c.args.b c.ranges.b in
    let f : FitsSigned w64 c.wrapping_rem.result = record { sfits = c.wrapping_rem.type_inv } in
    c.whole-2.ensures c.wrapping_rem.result (f, to_z-of_z w64 c.wrapping_rem.result f) ∙ ap whole (rw (a, b) at c.wrapping_rem.ensures) ∙ sym (remainder_is c.args.a c.args.b c.if-b-eq0.false)
