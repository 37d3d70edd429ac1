use Rattle.std.proofs.Common.{arith, ◌∙◌}
use Rattle.std.proofs.lemmas.Grind.{common_steps}
use Rattle.ebr_turntests.proofs.Rows.{wrote_all}
use Rattle.ebr_turntests.proofs.writers.write_all.Goals as goal

pub returns : goal.returns
returns g c = let closed = c.close-2.ensures in
    wrote_all c.args.writers _ c.args.count _ c.close-2.result.entries.items closed.0 _ (c.in-Ok.ensures.turn.0 ∙ c.new.ensures) (grind (arith, common_steps)) c.join_all.ensures.gathers closed.1 closed.2
