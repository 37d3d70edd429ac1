use Rattle.std.proofs.Common.{◌∙◌, reverse, set, ap}
use Rattle.ebr_memory.specs.Levels.{with_top}
use Rattle.ebr_memory.proofs.Cuts.{levels-set}
use Rattle.ebr_memory.proofs.levels.Levels.set.Goals as goal

pub returns : goal.returns
returns g c = levels-set c.self.inside.base (reverse c.self.inside.bases.items) c.self.inside.items.items c.args.at c.args.item ∙ ap (λ l. with_top (set l.top c.args.at c.args.item) l) c.self.view_is
