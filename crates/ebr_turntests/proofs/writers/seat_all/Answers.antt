use Rattle.std.proofs.Common.{rules, ◌≡◌, ◌+◌, suc, ap, sym, refl, subst, ◌∙◌, arith}
use Rattle.ebr_turn.specs.Chairs.{In, parted, fresh}
use Rattle.ebr_turntests.specs.Rows.{gave, AllNew}
use Rattle.ebr_turntests.proofs.Rows.{below, parted_gave, one_new}
use Rattle.ebr_turntests.proofs.writers.seat_all.Goals as goal

pub split-chair-requires-clause-new : goal.split-chair-requires-clause-new
split-chair-requires-clause-new c = let is = c.loop-before.invariant.1 in let n = c.loop-before.before in
    (ap (λ v. v.gives) is, λ i. let less = below n (n + 1) (subst (λ v. In (n + 1) v.given) is i) in omega arith)

pub loop-before-preserved : goal.loop-before-preserved
loop-before-preserved c = let inv = c.loop-before.invariant in let n = c.loop-before.before in let split = c.split-chair.ensures in let more : suc n ≡ n + 1 = omega arith in (
  split.turn.0 ∙ inv.0,
  split.parent ∙ (ap (parted (n + 1)) inv.1 ∙ (parted_gave n (c.args.writers + 1) ∙ ap (λ k. gave k (c.args.writers + 1)) more)),
  search rules,
  subst (AllNew c.args.first.now.turn c.args.count) (sym c.push_reserved.ensures.items)
      (one_new c.args.first.now.turn c.args.count n c.loop-before.seats.items _ inv.3 inv.2 (split.turn.1 ∙ inv.0, split.child ∙ ap (fresh (n + 1)) inv.1, refl, refl)),
  search rules,
)
