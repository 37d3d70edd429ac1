use Rattle.std.proofs.lemmas.Result.{on_ok_weaker}
use Rattle.ebr_scope.specs.Lent.{env}
use Rattle.ebr_check.proofs.Parts.{specification_known}
use Rattle.ebr_check.proofs.unit.add_specification.Goals as goal

pub returns : goal.returns
returns c =
    on_ok_weaker c.items.result
    (specification_known c.args.list.now (env c.args.place.now c.args.known.now) c.add_heads.new.known c.items.new.known c.in_ok-add_heads.ensures)
    c.items.ensures.known
