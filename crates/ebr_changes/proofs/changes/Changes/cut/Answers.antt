use Rattle.ebr_changes.proofs.FiledLemmas.{own_less}
use Rattle.ebr_changes.proofs.changes.Changes.cut.Goals as goal

pub invariant_of-self : goal.invariant_of-self
invariant_of-self c = own_less c.self.inside.changes.items c.truncate.new.self.items c.self.inside.index c.cut.new.self c.args.n c.self.invariant c.cut.ensures.keeps c.cut.ensures.rest c.truncate.ensures.items
