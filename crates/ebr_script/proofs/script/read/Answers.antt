use Rattle.std.proofs.Common.{◌∙◌}
use Rattle.ebr_script.proofs.PieceTexts.{piece_more, pieces_all}
use Rattle.ebr_script.proofs.script.read.Goals as goal

pub loop-span-preserved : goal.loop-span-preserved
loop-span-preserved c =
    piece_more c.args.script.now c.as_slice-span-items.result.now c.loop-span.span-index _ c.loop-span.pieces c.push.new.self c.in_ok-piece.field-0 c.loop-span-test.true
    c.loop-span.invariant c.in_ok-piece.ensures c.in_ok-push.ensures.ok

pub returns : goal.returns
returns c =
    pieces_all c.args.script.now c.as_slice-span-items.result.now c.loop-span.span-index c.loop-span.pieces (c.as_slice-span-items.ensures ∙ c.in_ok-spans.ensures.value) c.loop-span-test.false
    c.loop-span.invariant
