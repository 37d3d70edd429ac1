use Rattle.std.proofs.Common.{rules, ◌<◌, ◌∙◌, length, set, sym, ap}
use Rattle.ebr_memory.specs.Levels.{with_top}
use Rattle.ebr_memory.proofs.Places.{put_within}
use Rattle.ebr_memory.proofs.memory.put_fault.Goals as goal

pub returns-then-place-len : goal.returns-then-place-len
returns-then-place-len c =
    let h : c.args.place < length c.places.faults.top = search rules in
    c.set.ensures
    ∙ ap (λ v. with_top (set c.places.faults.top c.args.place v) c.places.faults) c.in_ok-clone_in.ensures
    ∙ sym (ap (λ xs. with_top xs c.places.faults) (put_within c.args.fault.now c.args.place c.args.fault.now c.places.faults.top h))
    ∙ c.places.invariant
