use Rattle.std.proofs.Common.{ap, ◌∙◌}
use Rattle.std.proofs.lemmas.Result.{on_ok_weaker}
use Rattle.ebr_scope.specs.Lent.{env}
use Rattle.ebr_check.proofs.Parts.{trigger_noted}
use Rattle.ebr_check.proofs.unit.trigger_over.Goals as goal

pub returns : goal.returns
returns c =
    on_ok_weaker c.block.result
    (trigger_noted c.args.it.now c.args.list.now c.args.seen.now.view (env c.outside.result c.new-known.result) (env c.within_trigger-place.result c.new-known.result)
    c.args.least.now c.block.new.least
    (ap (env c.outside.result) c.new-known.ensures ∙ c.outside.ensures)
    (c.within_trigger-place.ensures c.new-known.result))
    c.block.ensures.least
