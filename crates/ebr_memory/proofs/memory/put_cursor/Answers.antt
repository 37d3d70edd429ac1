use Rattle.std.proofs.Common.{rules, ◌<◌, ◌∙◌, length, set, sym, ap}
use Rattle.ebr_run.specs.Cursors.{Closed}
use Rattle.ebr_memory.specs.Levels.{with_top}
use Rattle.ebr_memory.proofs.Places.{put_within}
use Rattle.ebr_memory.proofs.memory.put_cursor.Goals as goal

pub returns-then-place-len : goal.returns-then-place-len
returns-then-place-len c =
    let h : c.args.place < length c.places.cursors.top = search rules in
    c.set.ensures
    ∙ ap (λ v. with_top (set c.places.cursors.top c.args.place v) c.places.cursors) c.places.invariant.cursor_is
    ∙ sym (ap (λ xs. with_top xs c.places.cursors) (put_within Closed c.args.place c.args.cursor c.places.cursors.top h))
    ∙ c.places.invariant.same
