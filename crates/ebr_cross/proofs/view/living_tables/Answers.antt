use Rattle.std.proofs.Common.{◌∙◌}
use Rattle.ebr_cross.proofs.Applied.{if_ok-map}
use Rattle.ebr_cross.proofs.InOrder.{one-copy, all-copied}
use Rattle.ebr_cross.proofs.view.living_tables.Goals as goal

pub loop-def-preserved : goal.loop-def-preserved
loop-def-preserved c =
    one-copy c.args.tables.now.living c.loop-def.copies c.push.new.self c.loop-def.at c.in-Some.def.now c.in_ok-clone_in.field-0 c.loop-def.invariant.0 c.in-Some.ensures.table c.in_ok-clone_in.ensures c.in_ok-push.ensures.ok

pub returns : goal.returns
returns c =
    if_ok-map c.new.result
    (λ s same. same ∙ all-copied c.args.tables.now.living c.loop-def.copies c.loop-def.at c.loop-def.invariant.0 c.in_default.ensures.table)
    c.new.ensures
