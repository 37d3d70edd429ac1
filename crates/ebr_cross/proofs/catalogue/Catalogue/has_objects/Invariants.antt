use Rattle.std.proofs.Common.{◌≡◌, is_some, drop}
use Rattle.std.specs.List.{list_any}
use Rattle.ebr_editions.specs.Objects.{actual_object}
use Rattle.ebr_cross.specs.Catalogue.{ForLists}
use Rattle.ebr_cross.specs.Definitions.{has_objects}
use Rattle.ebr_cross.proofs.catalogue.Catalogue.has_objects.Given as goal

abbrev pub invariant-loop-key : goal.invariant-loop-key
invariant-loop-key l = ForLists l.self (λ c. list_any (λ key. is_some (actual_object c.entries l.e key)) (drop l.key-index l.key-items) ≡ has_objects c l.e)
