use Rattle.std.proofs.Common.{◌<◌, length, arith}
use Rattle.std.proofs.lemmas.Grind.{common_steps}
use Rattle.ebr_stmtcode.proofs.Fields.{fields_more}
use Rattle.ebr_stmtcode.proofs.rows.store_fields.Goals as goal

pub loop-at-preserved : goal.loop-at-preserved
loop-at-preserved c =
    let l : c.loop-at.at < length c.args.types.now = grind (arith, common_steps) in
    fields_more c.args.first c.loop-at.at c.in_ok-variable.variable c.args.types.now _ _ _ l c.loop-at.invariant c.in_ok-variable.ensures c.in_ok-act.ensures
