use Rattle.std.proofs.Common.{rules, arith}
use Rattle.std.proofs.lemmas.Grind.{common_steps}
use Rattle.std.proofs.lemmas.List.Elements.{All-more}
use Rattle.ebr_core.specs.inside.Stored.{HasShortName}
use Rattle.ebr_core.proofs.kept.columns_kept.Goals as goal

pub loop-column-preserved : goal.loop-column-preserved
loop-column-preserved c =
    (grind (arith, common_steps), All-more HasShortName c.args.columns.now c.loop-column.column-index c.column-item.result (search rules) c.loop-column.invariant.1 (search rules))
