use Rattle.std.proofs.Common.{◌≡◌, ◌+◌, drop, Some, None, sym, ap, ◌∙◌}
use Rattle.std.specs.Prelude.{slice_get}
use Rattle.std.specs.Option.{option_copied}
use Rattle.ebr_bodies.specs.Bodies.{put}
use Rattle.ebr_statements.proofs.Putting.{all_put, one_put}
use Rattle.ebr_statements.proofs.row.put.Goals as goal

pub returns-in_default : goal.returns-in_default
returns-in_default c =
    let none : slice_get c.args.values.now c.loop-at.at ≡ None = sym c.get.ensures.value ∙ ap (λ o. option_copied o) c.in_default.is in
    c.from_vec.ensures ∙ sym (all_put c.args.places.now c.args.values.now c.loop-at.items.items c.loop-at.at none) ∙ c.loop-at.invariant

pub loop-at-preserved : goal.loop-at-preserved
loop-at-preserved c =
    let value : slice_get c.args.values.now c.loop-at.at ≡ Some c.in_ok-clone_in.field-0 =
    sym c.get.ensures.value ∙ ap (λ o. option_copied o) c.in-Some.is ∙ ap (λ x. Some x) (sym c.in_ok-clone_in.ensures) in
    ap (put (drop (c.loop-at.at + 1) c.args.places.now) (drop (c.loop-at.at + 1) c.args.values.now)) c.set.ensures
    ∙ sym (one_put c.args.places.now c.args.values.now c.loop-at.items.items c.loop-at.at 0 c.in_ok-clone_in.field-0 c.loop-at-test.true value)
    ∙ c.loop-at.invariant
