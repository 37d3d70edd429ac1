-- How the code of `Chain` stands to the editions.
use Rattle.std.specs.Prelude.{◌≡◌, ℕ, List, map}
use Rattle.ebr_base.specs.declared.numbers.EditionNo.{EditionNo}
use Rattle.ebr_editions.specs.declared.entry.EditionEntry.{EditionEntry}
use Rattle.ebr_editions.specs.Editions.{IsLine, living}

abbrev pub named : EditionEntry → (List ℕ × EditionNo)
named x = (x.name, x.number)

-- The map from names to numbers holds the living editions in the order of creation.
pub record IsIndexed (made : List EditionEntry) (index : List (List ℕ × EditionNo)) (default : EditionNo) : Type 0 where
  pub living : index ≡ map named (living made)
  pub line : IsLine (record { made = made; default = default })
