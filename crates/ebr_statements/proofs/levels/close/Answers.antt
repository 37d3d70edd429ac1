use Rattle.std.proofs.Common.{◌≤◌, arith}
use Rattle.ebr_levels.proofs.EndLemmas.{turn_level}
use Rattle.ebr_statements.proofs.Opening.{closing_begins, closing_ends, closing_more}
use Rattle.ebr_statements.proofs.levels.close.Goals as goal

pub loop-turn-init : goal.loop-turn-init
loop-turn-init c = closing_begins c.args.tx.now.contents c.args.t c.args.opened c.requires.top c.requires.storable

pub close_top-requires-clause-level : goal.close_top-requires-clause-level
close_top-requires-clause-level c =
    turn_level c.loop-turn.tx.contents c.args.t c.args.opened c.loop-turn._turn c.loop-turn-test.true c.loop-turn.invariant.top

pub loop-turn-preserved : goal.loop-turn-preserved
loop-turn-preserved c =
    closing_more c.args.tx.now.contents c.loop-turn.tx.contents c.close_top.new.tx.contents c.args.t c.args.opened c.loop-turn._turn c.loop-turn-test.true c.loop-turn.invariant
    c.close_top.ensures.contents c.close_top.ensures.storable

pub returns-clause-contents : goal.returns-clause-contents
returns-clause-contents c =
    let over : c.args.opened ≤ c.loop-turn._turn = omega (arith, c.loop-turn-test.false) in
    closing_ends c.args.tx.now.contents c.loop-turn.tx.contents c.args.t c.args.opened c.loop-turn._turn over c.loop-turn.invariant
