use Rattle.std.proofs.Common.{◌≡◌, ◌-◌}
use Rattle.ebr_editions.specs.Editions.{max_editions}
use Rattle.ebr_cross.specs.Catalogue.{ForLists}
use Rattle.ebr_fire.specs.Fires.{descendants, line_down}
use Rattle.ebr_fire.specs.inside.Groups.{with_editions}
use Rattle.ebr_fire.proofs.actual.add_descendants.Given as goal

abbrev pub invariant-loop-turn : goal.invariant-loop-turn
invariant-loop-turn l = ForLists l.c (λ lists. with_editions lists l.kind l.on l.triggers.keys (line_down l.c.chain.made (max_editions - l._turn) l.next) ≡ with_editions lists l.kind l.on l.initial.triggers.keys (descendants l.c.chain.made l.fn.e))
