use Rattle.std.proofs.Common.{map, ap, ◌∙◌}
use Rattle.ebr_run.specs.Packages.{forget}
use Rattle.ebr_memory.specs.inside.Views.{package_of}
use Rattle.ebr_memory.proofs.States.{once_of, removed}
use Rattle.ebr_memory.proofs.package.Packages.forget.Goals as goal

pub returns : goal.returns
returns c =
    ap (map package_of) c.shift_remove.ensures.entries
    ∙ removed c.args.name.now c.self.inside.states.entries (once_of c.args.name.now c.self.inside.states.entries c.shift_remove.new.self.entries c.shift_remove.ensures.entries c.shift_remove.ensures.updates.1)
    ∙ ap (forget c.args.name.now) c.self.view_is
