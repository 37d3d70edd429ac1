use Rattle.std.proofs.Common.{rules, sym, subst, ap, ◌∙◌, ◌≤◌, ◌^◌}
use Rattle.ebr_turn.specs.Chairs.{In}
use Rattle.ebr_turn.proofs.Moves.{splits}
use Rattle.ebr_turn.proofs.turn.Turn.split_off.Goals as goal

pub split_seat-seat-requires : goal.split_seat-seat-requires
split_seat-seat-requires g c = let is = c.parent.view_is in (
  search rules,
  search rules,
  splits g.T.Booked.booked _ _ _ g.N.Numbered.number _ (ap (λ s. s.view.stage) is ∙ c.requires.idle) (subst (λ s. 2 ≤ s.view.share) (sym is) c.requires.share.0) (subst (λ s. 2 ^ 31 ≤ s.view.left) (sym is) c.requires.share.1)
      (ap (λ s. s.view.gives) is ∙ c.requires.new.0) (λ i. c.requires.new.1 (subst (λ n. In n c.args.parent.now.view.given) (sym c.requires.number) (subst (λ s. In g.N.Numbered.number s.view.given) is i))),
)
