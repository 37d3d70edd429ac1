-- What a definition leaves is read off its record.
use Rattle.std.specs.Prelude.{◌≡◌, ℕ, List, [], ◌∷◌, ◌++◌, Some, Ok}
use Rattle.ebr_base.specs.declared.numbers.EditionNo.{EditionNo}
use Rattle.ebr_ast.specs.declared.definition.Definition.{Definition}
use Rattle.ebr_cross.specs.declared.record.CatalogueRecord.{CatalogueRecord}
use Rattle.ebr_cross.specs.Definitions.{outcome}
use Rattle.ebr_cross.specs.Records.{with_record}
use Rattle.ebr_script.specs.Pieces.{CreatesObject, stored_definition}
use Rattle.ebr_record.specs.declared.record.Record.{Record}
use Rattle.ebr_core.specs.Records.{record_of, catalogue_of}

-- Whatever a definition makes of the catalogue of some records, it is the catalogue of these records and the definition's. One
-- that creates an object comes with the text that spells it.
abbrev pub AreReadBack : List Record → Type 0
AreReadBack records =
    (e : EditionNo) (sessions : List EditionNo) (what : Definition) (text : List ℕ) (r : CatalogueRecord)
    → (CreatesObject what → stored_definition text ≡ Some what) → outcome (catalogue_of records) e sessions what text ≡ Ok r
    → catalogue_of (records ++ record_of r ∷ []) ≡ with_record (catalogue_of records) r
