use Rattle.std.proofs.Common.{Some, option_map, sym, ap, ◌∙◌}
use Rattle.ebr_run.specs.Packages.{state_of}
use Rattle.ebr_memory.specs.Packages.{member}
use Rattle.ebr_memory.proofs.States.{found_at, found_none}
use Rattle.ebr_memory.proofs.package.Packages.member.Goals as goal

pub returns-in_ok-variable-in-Some : goal.returns-in_ok-variable-in-Some
returns-in_ok-variable-in-Some c =
    let found = found_at c.args.name.now c.self.inside.states.entries c.in-Some.state.now (sym c.in-Some.ensures.value) in
    ap Some c.in_ok-variable-in-Some.ensures ∙ sym (ap (option_map (member c.args.place)) (ap (state_of c.args.name.now) (sym c.self.view_is) ∙ found.1))

pub returns-in-None : goal.returns-in-None
returns-in-None c =
    let lost = found_none c.args.name.now c.self.inside.states.entries (sym c.in-None.ensures.value) in
    sym (ap (option_map (member c.args.place)) (ap (state_of c.args.name.now) (sym c.self.view_is) ∙ lost))
