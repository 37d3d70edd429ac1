use Rattle.std.proofs.Common.{◌≡◌, IfOk, sym, subst, ap, ◌∙◌}
use Rattle.ebr_run.specs.Cursors as cursors
use Rattle.ebr_run.specs.Packages.{state_of}
use Rattle.ebr_run.specs.Values.{cursor_in}
use Rattle.ebr_memory.proofs.States.{found_at, found_none}
use Rattle.ebr_memory.proofs.package.Packages.attribute.Goals as goal

pub returns-in-Some : goal.returns-in-Some
returns-in-Some c =
    let found = found_at c.args.name.now c.self.inside.states.entries c.in-Some.state.now (sym c.in-Some.ensures.value) in
    subst (λ o. IfOk c.cursor_attribute.result (λ value. value ≡ cursors.attribute_of c.args.attribute (cursor_in o c.args.place)))
    (sym (ap (state_of c.args.name.now) (sym c.self.view_is) ∙ found.1)) c.cursor_attribute.ensures

pub returns-in-None : goal.returns-in-None
returns-in-None c =
    let lost = found_none c.args.name.now c.self.inside.states.entries (sym c.in-None.ensures.value) in
    c.closed_attribute.ensures ∙ sym (ap (λ o. cursors.attribute_of c.args.attribute (cursor_in o c.args.place)) (ap (state_of c.args.name.now) (sym c.self.view_is) ∙ lost))
