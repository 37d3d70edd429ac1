use Rattle.ebr_seats.proofs.Calls.{closing_level, closing_more}
use Rattle.ebr_seats.proofs.call.close_levels.Goals as goal

pub close_top-requires-clause-level : goal.close_top-requires-clause-level
close_top-requires-clause-level c = closing_level c.args.tx.now.contents c.loop-turn.tx.contents c.args.s c.args.levels c.loop-turn._turn c.loop-turn-test.true c.loop-turn.invariant

pub loop-turn-preserved : goal.loop-turn-preserved
loop-turn-preserved c =
    closing_more c.args.tx.now.contents c.loop-turn.tx.contents c.args.s c.args.levels c.loop-turn._turn c.loop-turn-test.true c.loop-turn.invariant
    c.close_top.new.tx.contents c.close_top.ensures.contents c.close_top.ensures.stacks c.close_top.ensures.storable
