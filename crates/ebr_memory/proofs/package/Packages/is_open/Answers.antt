use Rattle.std.proofs.Common.{sym, ap, ◌∙◌}
use Rattle.ebr_run.specs.Cursors as cursors
use Rattle.ebr_run.specs.Packages.{state_of}
use Rattle.ebr_run.specs.Values.{cursor_in}
use Rattle.ebr_memory.proofs.States.{found_at, found_none}
use Rattle.ebr_memory.proofs.package.Packages.is_open.Goals as goal

pub returns-in-Some : goal.returns-in-Some
returns-in-Some c =
    let found = found_at c.args.name.now c.self.inside.states.entries c.in-Some.state.now (sym c.in-Some.ensures.value) in
    c.is_open.ensures ∙ sym (ap (λ o. cursors.is_open (cursor_in o c.args.place)) (ap (state_of c.args.name.now) (sym c.self.view_is) ∙ found.1))

pub returns-in-None : goal.returns-in-None
returns-in-None c =
    let lost = found_none c.args.name.now c.self.inside.states.entries (sym c.in-None.ensures.value) in
    sym (ap (λ o. cursors.is_open (cursor_in o c.args.place)) (ap (state_of c.args.name.now) (sym c.self.view_is) ∙ lost))
