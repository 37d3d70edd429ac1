use Rattle.std.proofs.Common.{sym, ap, ◌∙◌}
use Rattle.ebr_run.specs.Packages.{state_of}
use Rattle.ebr_memory.specs.Packages.{made_of, status}
use Rattle.ebr_memory.proofs.States.{found_at, found_none}
use Rattle.ebr_memory.proofs.package.Packages.status.Goals as goal

pub returns-in-Some : goal.returns-in-Some
returns-in-Some c =
    let found = found_at c.args.name.now c.self.inside.states.entries c.in-Some.state.now (sym c.in-Some.ensures.value) in
    c.status_of.ensures ∙ sym (ap (λ o. status o (made_of c.args.made)) (ap (state_of c.args.name.now) (sym c.self.view_is) ∙ found.1))

pub returns-in-None : goal.returns-in-None
returns-in-None c =
    let lost = found_none c.args.name.now c.self.inside.states.entries (sym c.in-None.ensures.value) in
    sym (ap (λ o. status o (made_of c.args.made)) (ap (state_of c.args.name.now) (sym c.self.view_is) ∙ lost))
