use Rattle.std.proofs.Common.{rules, ap, sym, ◌∙◌, ◌∷◌, ◌<◌, Some, subst}
use Rattle.atomic_table.specs.Table.{rest}
use Rattle.ebr_turn.proofs.Moves.{draws}
use Rattle.ebr_turn.proofs.turn.Turn.enter.Goals as goal

pub fetch_add-ticket-requires : goal.fetch_add-ticket-requires
fetch_add-ticket-requires g c = let is = c.chair.view_is in (
  ap (λ s. s.turn) is ∙ (c.requires.turn ∙ sym (ap (λ t. t.id) c.self.view_is)),
  search rules,
  draws g.T.Booked.booked _ _ _ _ _ (ap (λ s. s.view.stage) is ∙ c.requires.idle) (subst (λ s. 0 < s.view.left) (sym is) c.requires.left) c.chair.invariant.1,
)

pub exchange-requires : goal.exchange-requires
exchange-requires g c = let met = c.wait.ensures.met in let now = ap (λ m. m.1) met.1 in
    (c.wait.ensures.turn.0 ∙ (c.fetch_add-ticket.ensures.0 ∙ (ap (λ s. s.turn) c.chair.view_is ∙ (c.requires.turn ∙ sym (ap (λ t. t.id) c.self.view_is)))), (Some met.0, now ∙ ap (λ cs. (0, Some met.0) ∷ rest cs) (sym now)))
