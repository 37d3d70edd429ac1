use Rattle.std.proofs.Common.{◌≡◌, ◌+◌, ◌-◌, drop, ap, ◌∙◌, arith}
use Rattle.std.proofs.lemmas.List.{drop-drop}
use Rattle.ebr_scope.proofs.nest.Nest.cut.Goals as goal

pub loop-turn-preserved : goal.loop-turn-preserved
loop-turn-preserved c =
    let left = c.len-turn-end.result - (c.loop-turn._turn + 1) in
    let one : 1 + left ≡ c.len-turn-end.result - c.loop-turn._turn = omega (arith, c.loop-turn-test.true) in
    ap (drop left) c.pop.ensures ∙ drop-drop left 1 c.loop-turn.self ∙ ap (λ n. drop n c.loop-turn.self) one ∙ c.loop-turn.invariant
