use Rattle.std.proofs.Common.{rules, ◌<◌, ap, sym, subst, ◌∙◌}
use Rattle.ebr_turn.proofs.Moves.{looks}
use Rattle.ebr_turn.proofs.turn.Turn.wait.Goals as goal

pub load-serving-requires : goal.load-serving-requires
load-serving-requires g c = let same = c.loop.invariant.2 in let waits = c.requires.waits in (
  c.loop.invariant.0 ∙ (c.requires.turn ∙ sym (ap (λ t. t.id) c.self.view_is)),
  search rules,
  looks g.T.Booked.booked _ _ _ _ _ c.args.ticket (ap (λ m. m.0.stage) same ∙ waits.0) (subst (λ m. 0 < m.0.share) (sym same) waits.2),
)

pub loop-preserved : goal.loop-preserved
loop-preserved g c = let same = c.loop.invariant.2 in let went = c.load-serving.ensures in
    (went.0 ∙ c.loop.invariant.0, went.1 ∙ c.loop.invariant.1, (went.2 c.args.ticket (ap (λ m. m.0.stage) same ∙ c.requires.waits.0)).1 c.if-serving-ticket.false ∙ same, search rules)
