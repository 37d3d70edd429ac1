use Rattle.std.proofs.Common.{◌+◌, ◌∙◌, reverse, set, ap}
use Rattle.ebr_memory.specs.Levels.{levels, with_top}
use Rattle.ebr_memory.proofs.Cuts.{levels-set}
use Rattle.ebr_memory.proofs.levels.Levels.replace.Goals as goal

pub returns-clause-put : goal.returns-clause-put
returns-clause-put g c =
    ap (λ x. levels c.self.inside.base (reverse c.self.inside.bases.items) (set c.self.inside.items.items (c.self.inside.base + c.args.at) x)) c.replace.ensures.after
    ∙ levels-set c.self.inside.base (reverse c.self.inside.bases.items) c.self.inside.items.items c.args.at c.args.item
    ∙ ap (λ l. with_top (set l.top c.args.at c.args.item) l) c.self.view_is
