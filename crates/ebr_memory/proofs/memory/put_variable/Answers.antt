use Rattle.std.proofs.Common.{rules, ◌<◌, ◌∙◌, length, set, sym, ap}
use Rattle.ebr_base.specs.declared.value.Value.TheVariants as value
use Rattle.ebr_memory.specs.Levels.{with_top}
use Rattle.ebr_memory.proofs.Places.{put_within}
use Rattle.ebr_memory.proofs.memory.put_variable.Goals as goal

pub returns-then-place-len : goal.returns-then-place-len
returns-then-place-len c =
    let h : c.args.place < length c.places.variables.top = search rules in
    c.set.ensures
    ∙ ap (λ v. with_top (set c.places.variables.top c.args.place v) c.places.variables) c.places.invariant.value_is
    ∙ sym (ap (λ xs. with_top xs c.places.variables) (put_within value.Null c.args.place c.args.value c.places.variables.top h))
    ∙ c.places.invariant.same
