use Rattle.std.proofs.Common.{◌≡◌, drop, filter}
use Rattle.ebr_editions.specs.Objects.{actual_object, is_in, keys_of}
use Rattle.ebr_cross.specs.Catalogue.{ForLists}
use Rattle.ebr_fire.specs.inside.Groups.{with_edition, with_keys}
use Rattle.ebr_fire.proofs.actual.add_edition.Given as goal

abbrev pub invariant-loop-at : goal.invariant-loop-at
invariant-loop-at l = ForLists l.c (λ lists. with_keys (λ key. actual_object lists.entries l.d key) l.kind l.on l.triggers.keys (drop l.at (keys_of (filter (is_in l.d) lists.entries))) ≡ with_edition lists l.kind l.on l.initial.triggers.keys l.d)
