-- The records of a database that the machine reaches, one by one.
use Rattle.std.proofs.Common.{◌≡◌, ℕ, ◌≤◌, List, [], ◌∷◌, ◌++◌, length, sym, subst}
use Rattle.std.specs.Prelude.{Some, Ok}
use Rattle.ebr_base.specs.declared.numbers.EditionNo.{EditionNo}
use Rattle.ebr_ast.specs.declared.definition.Definition.{Definition}
use Rattle.ebr_cross.specs.declared.record.CatalogueRecord.{CatalogueRecord}
use Rattle.ebr_cross.specs.Catalogue.{Lists}
use Rattle.ebr_cross.specs.Definitions.{outcome}
use Rattle.ebr_script.specs.Pieces.{CreatesObject, stored_definition}
use Rattle.ebr_record.specs.declared.record.Record.{Record}
use Rattle.ebr_core.specs.Records.{record_of, catalogue_of}
use Rattle.ebr_core.specs.inside.Stored.{AreSmall, max_stored}
use Rattle.ebr_core.specs.inside.Tables.{AreAllowed}
use Rattle.ebr_core.specs.inside.Reached.{AreReached}
use Rattle.ebr_core.proofs.Spellings.{small_after}
use Rattle.ebr_core.proofs.ReadsBack.{are_read_back, catalogue_of-append}
use Rattle.ebr_core.proofs.AllowedTables.{allowed_after, none_allowed}
use Rattle.ebr_core.proofs.SmallRecords.{fit, keeps_small}

-- of an empty database
pub none_reached : AreReached []
none_reached = record { small = none_small; allowed = none_allowed }
  where
    none_small : AreSmall (catalogue_of [])
    none_small e key o is = cc

-- of records with the same catalogue
pub reached_same : (records more : List Record) → catalogue_of more ≡ catalogue_of records → AreReached records → AreReached more
reached_same records more same h =
    record { small = subst AreSmall (sym same) h.small; allowed = subst (λ (c : Lists). AreAllowed c.tables) (sym same) h.allowed }

-- one more definition
pub reached_more : (records : List Record) (e : EditionNo) (sessions : List EditionNo) (what : Definition) (text : List ℕ) (r : CatalogueRecord)
    → (CreatesObject what → stored_definition text ≡ Some what) → length text ≤ max_stored → outcome (catalogue_of records) e sessions what text ≡ Ok r
    → AreReached records → AreReached (records ++ record_of r ∷ [])
reached_more records e sessions what text r spells short is h =
    let c = catalogue_of records in
    let small = (fit c e sessions what text r h.small short is).0 in
    record {
      small = subst AreSmall (sym (catalogue_of-append records (record_of r))) (small_after c (record_of r) (keeps_small r small) h.small);
      allowed = subst (λ (c : Lists). AreAllowed c.tables) (sym (are_read_back records e sessions what text r spells is)) (allowed_after c e sessions what text r is h.allowed);
    }
