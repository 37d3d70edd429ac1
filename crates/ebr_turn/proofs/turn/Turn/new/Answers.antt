use Rattle.std.proofs.Common.{rules, ◌≡◌, ◌∷◌, [], Some, subst}
use Rattle.atomic_table.specs.Table.{opening}
use Rattle.ebr_turn.specs.Chairs.{opener}
use Rattle.ebr_turn.specs.inside.Rule.{Sits}
use Rattle.ebr_turn.proofs.Moves.{starts}
use Rattle.ebr_turn.proofs.turn.Turn.new.Goals as goal

pub new-requires-2 : goal.new-requires-2
new-requires-2 g c = let same : Some c.of.result.value ∷ [] ≡ c.push.new.self.items = search rules in
    subst (λ l. Sits g.T.Booked.booked (g.T.Booked.booked c.of.result.value) c.args.seats (opening (0 ∷ 0 ∷ []) l (opener (g.T.Booked.booked c.of.result.value) c.args.seats))) same
    (starts g.T.Booked.booked c.of.result.value c.args.seats c.requires)
