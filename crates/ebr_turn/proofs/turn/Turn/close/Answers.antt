use Rattle.std.proofs.Common.{refl, sym, subst, ap, ◌∙◌}
use Rattle.std.specs.Option.{IsSome}
use Rattle.ebr_turn.specs.Chairs.{Closes}
use Rattle.ebr_turn.proofs.Moves.{unwrapped, is_closed}
use Rattle.ebr_turn.proofs.turn.Turn.close.Goals as goal

pub unwrap-requires : goal.unwrap-requires
unwrap-requires g c =
    let idle = ap (λ s. s.view.stage) c.last.view_is ∙ c.requires.idle in
    let share = ap (λ s. s.view.share) c.last.view_is ∙ (c.requires.share ∙ sym (ap (λ t. t.seats) c.self.view_is)) in
    subst IsSome (sym (unwrapped g.T.Booked.booked _ _ _ _ _ _ c.take-value.result idle share c.close_with-closed.ensures.values.2 c.take-value.ensures.value).1) refl

pub returns : goal.returns
returns g c =
    let idle = ap (λ s. s.view.stage) c.last.view_is ∙ c.requires.idle in
    let share = ap (λ s. s.view.share) c.last.view_is ∙ (c.requires.share ∙ sym (ap (λ t. t.seats) c.self.view_is)) in
    subst (λ t. Closes g.T.Booked.booked t.base c.args.last.view c.unwrap.result) c.self.view_is
    (subst (λ s. Closes g.T.Booked.booked (g.T.Booked.booked c.self.inside.table.shared.key.0.value) s.view c.unwrap.result) c.last.view_is
    (is_closed g.T.Booked.booked _ _ _ _ _ _ c.take-value.result c.unwrap.result idle share c.close_with-closed.ensures.values.2 c.take-value.ensures.value c.unwrap.ensures))
