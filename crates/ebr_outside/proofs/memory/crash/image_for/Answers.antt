use Rattle.std.proofs.Common.{◌≡◌, ◌∷◌, [], ◌++◌, ◌+◌, ℕ, List, take, sym, ◌∙◌, ap, subst}
use Rattle.std.proofs.lemmas.List.{take_more}
use Rattle.ebr_outside.specs.inside.Crash.{LeftBy, rest_after}
use Rattle.ebr_outside.specs.declared.memory.disk_call.DiskCall.{DiskCall}
use Rattle.ebr_outside.proofs.Crashing.{LeftSoFar, goes_on}
use Rattle.ebr_outside.proofs.memory.crash.image_for.Goals as goal

pub loop-call-preserved : goal.loop-call-preserved
loop-call-preserved c =
    let item = c.call-item.result in
    let past = c.args.past.now in
    let at = c.loop-call.call-index in
    let more : take (at + 1) past ≡ take at past ++ item ∷ [] = take_more past at item c.loop-call-test.true ∙ ap (λ (x : DiskCall). take at past ++ x ∷ []) (sym c.call-item.is) in
    let by = subst (λ r. LeftBy c.chosen.result r c.loop-call.image.items item c.leave.new.image.items) c.as_slice.ensures.value c.in_ok-leave.ensures in
    let on = goes_on c.args.first.now (take at past) c.args.pick c.loop-call.image.items c.loop-call.reads.items c.loop-call.rest item c.chosen.result c.leave.new.image.items c.apply.new.bytes.items
    c.loop-call.invariant c.chosen.ensures by c.in_ok-apply.ensures.ok in
    subst (λ (k : ℕ). LeftSoFar c.args.first.now (take (at + 1) past) c.args.pick c.leave.new.image.items c.apply.new.bytes.items k) (sym c.rest_after-rest.ensures)
    (subst (λ (p : List DiskCall). LeftSoFar c.args.first.now p c.args.pick c.leave.new.image.items c.apply.new.bytes.items (rest_after c.args.pick c.loop-call.rest item)) (sym more) on)
