use Rattle.std.proofs.Common.{◌≡◌, not, ◌&&◌, drop}
use Rattle.std.specs.List.{list_any}
use Rattle.ebr_base.specs.Keys.{same_key}
use Rattle.ebr_cross.specs.Catalogue.{ForLists, visible}
use Rattle.ebr_cross.specs.Definitions.{shows_table, has_other_view}
use Rattle.ebr_cross.proofs.catalogue.Catalogue.has_other_view.Given as goal

-- the keys from here on have another view exactly where all of them have one
abbrev pub invariant-loop-other : goal.invariant-loop-other
invariant-loop-other l = ForLists l.self (λ c. list_any (λ k. not (same_key k l.key) && shows_table l.table (visible c l.e k)) (drop l.other-index l.other-items) ≡ has_other_view c l.e l.table l.key)
