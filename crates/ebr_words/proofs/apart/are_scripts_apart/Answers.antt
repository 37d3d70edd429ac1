use Rattle.std.proofs.Common.{false, true, sym}
use Rattle.ebr_words.proofs.Differing.{found, script_goes_on, script_twice}
use Rattle.ebr_words.proofs.apart.are_scripts_apart.Goals as goal

pub returns-then-stands_in : goal.returns-then-stands_in
returns-then-stands_in c =
    sym (script_twice c.args.scripts.now c.loop-at.at c.index-scripts-at.result _ _ c.loop-at-test.true c.index-scripts-at.is c.loop-at.invariant
    (found _ true _ _ _ _ c.as_slice.ensures c.rest_from.ensures c.stands_in.ensures c.if-stands_in.true))

pub loop-at-preserved : goal.loop-at-preserved
loop-at-preserved c =
    script_goes_on c.args.scripts.now c.loop-at.at c.index-scripts-at.result _ _ c.loop-at-test.true c.index-scripts-at.is c.loop-at.invariant
    (found _ false _ _ _ _ c.as_slice.ensures c.rest_from.ensures c.stands_in.ensures c.if-stands_in.false)
