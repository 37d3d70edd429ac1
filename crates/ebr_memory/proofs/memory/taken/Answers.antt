use Rattle.std.proofs.Common.{rules, ◌<◌, ◌≤◌, ◌∙◌, length, sym, ap}
use Rattle.ebr_run.specs.Cursors.{Closed}
use Rattle.ebr_run.specs.Packages.{put}
use Rattle.ebr_memory.specs.Levels.{with_top}
use Rattle.ebr_memory.proofs.Places.{nothing_at, put_over}
use Rattle.ebr_memory.proofs.memory.taken.Goals as goal

pub returns-then-place-len-clause-others : goal.returns-then-place-len-clause-others
returns-then-place-len-clause-others c cursor =
    let within : c.args.place < length c.args.cursors.now.top = search rules in
    ap (λ l. with_top (put Closed c.args.place cursor l.top) l) c.replace.ensures.put
    ∙ ap (λ xs. with_top xs c.args.cursors.now) (put_over Closed c.args.place cursor c.closed.result c.args.cursors.now.top within)

pub returns-else-place-len-clause-taken : goal.returns-else-place-len-clause-taken
returns-else-place-len-clause-taken c =
    let behind : length c.args.cursors.now.top ≤ c.args.place = search rules in
    c.closed-else-place-len.ensures ∙ sym (nothing_at Closed c.args.place c.args.cursors.now.top behind)
