use Rattle.ebr_turn.specs.Chairs.{Leaves, Left}
use Rattle.ebr_turn.proofs.Moves.{advances_after, left_any}
use Rattle.std.proofs.Common.{rules, sym, subst}
use mathlib.Core.Option.{none}
use Rattle.atomic_table.specs.Table.{step}
use Rattle.ebr_turn.proofs.turn.Turn.leave.Goals as goal

pub fetch_add-served-requires : goal.fetch_add-served-requires
fetch_add-served-requires g c = (
  search rules,
  search rules,
  advances_after g.T.Booked.booked _ _ _ _ c.chair.inside.seat.me _ c.args.value (subst (λ s. Leaves g.T.Booked.booked s.view c.args.value) (sym c.chair.view_is) c.requires.entry) c.chair.invariant.0 c.exchange-old.ensures.3 c.chair.invariant.1,
)

pub returns-clause-left : goal.returns-clause-left
returns-clause-left g c = subst (λ s. Left g.T.Booked.booked s.view c.args.value c.fetch_add-served.new.seat.me.0) c.chair.view_is
    (left_any g.T.Booked.booked (step 0 0 0 0 none) c.chair.inside.seat.me _ _ c.args.value 0 c.exchange-old.ensures.3 c.fetch_add-served.ensures.2)
