use Rattle.std.proofs.Common.{◌≡◌}
use Rattle.ebr_editions.specs.Editions.{line_from}
use Rattle.ebr_editions.proofs.Entries.{above}
use Rattle.ebr_cross.specs.Catalogue.{ForLists}
use Rattle.ebr_fire.specs.Fires.{ancestors}
use Rattle.ebr_fire.specs.inside.Groups.{with_editions}
use Rattle.ebr_fire.proofs.actual.add_ancestors.Given as goal

abbrev pub invariant-loop-next : goal.invariant-loop-next
invariant-loop-next l = ForLists l.c (λ lists. with_editions lists l.kind l.on l.triggers.keys (line_from l.c.chain.made l.next) ≡ with_editions lists l.kind l.on l.initial.triggers.keys (ancestors l.c.chain.made l.fn.e))

abbrev pub decreases-loop-next : goal.decreases-loop-next
decreases-loop-next l = above l.next
