use Rattle.std.proofs.Common.{◌≡◌}
use Rattle.ebr_editions.specs.Editions.{line_from}
use Rattle.ebr_editions.specs.Objects.{nearest}
use Rattle.ebr_editions.specs.inside.Held.{held_object, held_visible}
use Rattle.ebr_editions.proofs.Entries.{above}
use Rattle.ebr_editions.proofs.actuals.Actuals.seen.Given as goal

-- what is seen from the next edition on is what is seen from the first
abbrev pub invariant-loop-next : goal.invariant-loop-next
invariant-loop-next g l = nearest (λ d. held_object l.self d l.key) (line_from l.chain.made l.next) ≡ held_visible l.chain.made l.self l.fn.e l.key

abbrev pub decreases-loop-next : goal.decreases-loop-next
decreases-loop-next g l = above l.next
