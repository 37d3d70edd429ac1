use Rattle.std.proofs.Common.{ap, ◌∙◌}
use Rattle.ebr_turn.specs.Chairs.{joined}
use Rattle.ebr_turntests.proofs.Rows.{popped, joins_one}
use Rattle.ebr_turntests.proofs.writers.join_all.Goals as goal

pub loop-writer-preserved : goal.loop-writer-preserved
loop-writer-preserved c =
    let inv = c.loop-writer.invariant in
    let now = c.join.ensures.chair ∙ ap (λ x. joined c.loop-writer.first.view x.view) c.into_chair.ensures in
    let p = popped c.args.turn.now.id c.args.count _ _ c.in-Some.writer inv.4 c.in-Some.ensures.items in
    let j = joins_one c.args.turn.now.id c.args.count _ _ _ c.in-Some.writer _ _ inv.4 c.in-Some.ensures.items inv.6 inv.5 now in
    (c.join.ensures.turn ∙ inv.0, ap (λ v. v.stage) now ∙ inv.1, ap (λ v. v.number) now ∙ inv.2, j.0 ∙ inv.3, p.0, j.1, j.2)
