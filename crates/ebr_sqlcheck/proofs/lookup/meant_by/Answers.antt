use Rattle.std.proofs.Common.{sym, ◌∙◌}
use Rattle.ebr_sqlcheck.proofs.ByName.{nothing}
use Rattle.ebr_sqlcheck.proofs.lookup.meant_by.Goals as goal

pub returns-in-None : goal.returns-in-None
returns-in-None c = nothing c.args.list.now c.args.path.now.name c.args.path.now.member (sym c.in-None.is ∙ c.places.ensures)
