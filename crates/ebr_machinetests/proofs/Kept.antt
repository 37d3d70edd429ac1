-- The catalogue is kept of lists, from one definition to the next.
use Rattle.std.proofs.Common.{◌≡◌, Result, Ok, Err, IfOk, subst, sym}
use Rattle.ebr_base.specs.declared.clone_in.NoMemory.{NoMemory}
use Rattle.ebr_cross.specs.declared.catalogue.Catalogue.{Catalogue}
use Rattle.ebr_cross.specs.declared.record.CatalogueRecord.{CatalogueRecord}
use Rattle.ebr_cross.specs.Catalogue.{HaveOwnKeys, Lists, first_lists, as_catalogue}
use Rattle.ebr_cross.specs.Following.{CarriesOut}
use Rattle.ebr_cross.specs.Records.{with_record}
use Rattle.ebr_units.specs.Living.{IsKept}

pub kept-first : {E : Type 0} (r : Result Catalogue E) → IfOk r (λ c. c ≡ as_catalogue first_lists) → IfOk r (λ c. IsKept c)
kept-first (Ok c) is = record { lists = first_lists; own_keys = tt; is = is }
kept-first (Err x) is = tt

pub kept-carried : (old new : Catalogue) (made : CatalogueRecord) (result : Result (Unit {0}) NoMemory) → CarriesOut old new made result → ((c : Lists) → HaveOwnKeys c → HaveOwnKeys (with_record c made)) → IsKept old → IsKept new
kept-carried old new made (Ok u) carries own_keys is =
    record { lists = with_record is.lists made; own_keys = own_keys is.lists is.own_keys; is = carries is.lists is.is }
kept-carried old new made (Err e) carries own_keys is = subst IsKept (sym carries) is
