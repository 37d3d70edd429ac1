-- Catalogues that agree in an edition, and one that sees the same and has another stamp next.
use Rattle.std.proofs.Common.{◌≡◌, ℕ, true, List, fold, Some, None, refl, ap, arith}
use Rattle.std.specs.Prelude.{codes}
use Rattle.ebr_base.specs.declared.numbers.EditionNo.{EditionNo}
use Rattle.ebr_base.specs.declared.object.ObjectKey.{ObjectKey}
use Rattle.ebr_ast.specs.declared.unit.UnitTree.{UnitTree}
use Rattle.ebr_ast.specs.declared.view.EditionView.{EditionView}
use Rattle.ebr_ast.specs.declared.view.Object.{Object}
use Rattle.ebr_editions.specs.Editions.{first_edition}
use Rattle.ebr_cross.specs.declared.record.CatalogueRecord.TheVariants as made
use Rattle.ebr_cross.specs.Catalogue.{Lists, first_lists, in_order}
use Rattle.ebr_cross.specs.Definitions.{object_of}
use Rattle.ebr_cross.specs.Kinds.{unit_key}
use Rattle.ebr_cross.specs.Records.{with_object, with_record}
use Rattle.ebr_core.specs.Apart.{SeesAlike, StampsAlike}

abbrev second : EditionNo
second = record { 0 = 2 }

abbrev key : ObjectKey
key = unit_key (codes "P")

module _ (text : List ℕ) (tree : UnitTree) where
  abbrev defined_in : Lists → EditionNo → Lists
  defined_in c e = with_object c e key (Some (object_of c e key text tree true))

  -- What a child edition defines changes nothing of its parent.
  abbrev upgraded : Lists
  upgraded = defined_in (with_record first_lists (made.Edition (codes "V2") first_edition)) second

  pub child_apart : StampsAlike first_lists upgraded first_edition
  unfolding in_order
  child_apart = record { view = refl; count = refl }

  -- An object that was defined and dropped is not seen, but the next one has another stamp.
  abbrev dropped : Lists
  dropped = with_object (defined_in first_lists first_edition) first_edition key None

  pub seen_alike : SeesAlike first_lists dropped first_edition
  unfolding in_order
  seen_alike = refl

  abbrev last_stamp : EditionView → ℕ
  last_stamp v = fold (λ n (o : Object). o.stamp.count) 0 v.objects

  pub stamps_differ : SeesAlike (defined_in first_lists first_edition) (defined_in dropped first_edition) first_edition → ⊥
  unfolding in_order
  stamps_differ same =
      let numbers : ◌≡◌ {A = ℕ} 1 3 = ap last_stamp same in
      omega (arith, numbers)
