use Rattle.std.proofs.Common.{rules, ap, ◌∙◌}
use Rattle.ebr_turn.specs.inside.Rule.{carried}
use Rattle.ebr_turn.proofs.Moves.{joins}
use Rattle.ebr_turn.proofs.turn.Turn.join.Goals as goal

pub join_seat-requires : goal.join_seat-requires
join_seat-requires g c =
    let idle = ap (λ s. s.view.stage) c.into.view_is ∙ c.requires.idle.0 in
    let other = ap (λ s. s.view.stage) c.other.view_is ∙ c.requires.idle.1 in (
      search rules,
      search rules,
      c.other.invariant.0 ∙ ap carried other,
      search rules,
      joins g.T.Booked.booked _ _ _ _ _ _ idle other c.into.invariant.1 c.other.invariant.1,
    )
