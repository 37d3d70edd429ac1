use Rattle.std.proofs.Common.{rules, arith}
use Rattle.std.proofs.lemmas.Grind.{common_steps}
use Rattle.std.proofs.lemmas.List.Elements.{All-more}
use Rattle.ebr_recovery.specs.Recovery.{HasRoom}
use Rattle.ebr_enginetests.proofs.recovered.copies.Goals as goal

pub loop-r-preserved : goal.loop-r-preserved
loop-r-preserved c = (grind (arith, common_steps), All-more HasRoom c.args.records.now c.loop-r.r-index c.r-item.result (search rules) c.loop-r.invariant.1 (search rules))
