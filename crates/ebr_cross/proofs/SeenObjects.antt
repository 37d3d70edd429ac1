-- Definitions and drops of objects, by what the edition sees.
use Rattle.std.proofs.Common.{◌≡◌, ◌≢◌, ℕ, Bool, true, cond, List, Option, Some, None, is_some, Ok, Err, refl, sym, ap, ◌∙◌}
use Rattle.ebr_base.specs.declared.code.Code.TheVariants.{Ora}
use Rattle.ebr_base.specs.declared.numbers.EditionNo.{EditionNo}
use Rattle.ebr_base.specs.declared.object.ObjectKey.{ObjectKey}
use Rattle.ebr_ast.specs.declared.definition.ObjectKind.{ObjectKind}
use Rattle.ebr_ast.specs.declared.definition.ObjectKind.TheVariants as kind
use Rattle.ebr_ast.specs.declared.view.Object.{Object}
use Rattle.ebr_cross.specs.declared.record.CatalogueRecord.{CatalogueRecord}
use Rattle.ebr_cross.specs.declared.record.CatalogueRecord.TheVariants as made
use Rattle.ebr_cross.specs.Catalogue.{Lists, visible}
use Rattle.ebr_cross.specs.Kinds.{key_of}
use Rattle.ebr_cross.specs.Definitions.{object_of, put_object, altered, is_object_of, gone_record, missing_code, drop_object}

-- ALTER TRIGGER puts the object that is seen, enabled or disabled
pub alter-same : (c : Lists) (e : EditionNo) (key wanted : ObjectKey) (enabled : Bool) (o x : Object) → key ≡ wanted → Some o ≡ visible c e key → x ≡ o
    → put_object c e key (object_of c e key x.text x.tree enabled) ≡ altered c e wanted enabled (visible c e wanted)
alter-same c e key wanted enabled o x is seen copied =
    ap (λ (k : Object). put_object c e key (object_of c e key k.text k.tree enabled)) copied
    ∙ (ap (altered c e key enabled) seen ∙ ap (λ k. altered c e k enabled (visible c e k)) is)

-- every kind but a package is dropped alone
pub gone-alone : (e : EditionNo) (k : ObjectKind) (name : List ℕ) → k ≢ kind.Package → made.ObjectGone e (key_of k name) ≡ gone_record e k name
gone-alone e kind.Procedure name h = refl
gone-alone e kind.Function name h = refl
gone-alone e kind.Package name h = absurd (h refl)
gone-alone e kind.PackageBody name h = refl
gone-alone e kind.Trigger name h = refl
gone-alone e kind.View name h = refl

-- the record of a drop under such a key
pub dropped : (c : Lists) (e : EditionNo) (k : ObjectKind) (key : ObjectKey) (name : List ℕ) (r : CatalogueRecord) → key ≡ key_of k name → is_object_of k (visible c e key) ≡ true → r ≡ gone_record e k name → drop_object c e k name ≡ Ok r
dropped c e k key name r is seen gone =
    ap (λ q. cond (is_object_of k (visible c e q)) (Ok (gone_record e k name)) (Err (missing_code k))) (sym is)
    ∙ (ap (λ b. cond b (Ok (gone_record e k name)) (Err (missing_code k))) seen ∙ ap Ok (sym gone))
