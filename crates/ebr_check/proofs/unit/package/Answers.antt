use Rattle.std.proofs.lemmas.Result.{on_ok_weaker}
use Rattle.ebr_scope.specs.Lent.{env}
use Rattle.ebr_check.proofs.Parts.{package_noted}
use Rattle.ebr_check.proofs.unit.package.Goals as goal

pub returns : goal.returns
returns c =
    on_ok_weaker c.items.result
    (package_noted c.args.list.now (env c.args.place.now c.args.known.now) c.add_heads.new.known
    c.args.least.now c.specifies.new.least c.declares_items.new.least c.item_pragmas.new.least c.items.new.least
    c.specifies.ensures c.in_ok-declares_items.ensures c.in_ok-item_pragmas.ensures c.in_ok-add_heads.ensures)
    c.items.ensures.least
