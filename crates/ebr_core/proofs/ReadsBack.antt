-- The record of a definition is read back as what the definition left.
use Rattle.std.proofs.Common.{◌≡◌, ℕ, Bool, true, false, List, [], ◌∷◌, ◌++◌, refl, sym, ap, ◌∙◌, subst}
use Rattle.std.specs.Prelude.{Option, Some, None, Result, Ok, Err, if◌then◌else◌}
use Rattle.std.proofs.lemmas.Grind.{fold-append}
use Rattle.ebr_base.specs.declared.code.Code.{Code}
use Rattle.ebr_base.specs.declared.code.Code.TheVariants.{Ebr}
use Rattle.ebr_base.specs.declared.numbers.EditionNo.{EditionNo}
use Rattle.ebr_base.specs.declared.object.ObjectKey.{ObjectKey}
use Rattle.ebr_base.specs.declared.table.TableDef.{TableDef}
use Rattle.ebr_base.specs.declared.value.ColType.{ColType}
use Rattle.ebr_ast.specs.declared.definition.Definition.{Definition}
use Rattle.ebr_ast.specs.declared.definition.Definition.TheVariants as definition
use Rattle.ebr_ast.specs.declared.definition.ObjectKind.{ObjectKind}
use Rattle.ebr_ast.specs.declared.definition.ObjectKind.TheVariants as kind
use Rattle.ebr_ast.specs.declared.unit.UnitTree.{UnitTree}
use Rattle.ebr_ast.specs.declared.view.Object.{Object}
use Rattle.ebr_editions.specs.Editions.{create_answer, drop_answer}
use Rattle.ebr_tables.specs.Tables.{first_refusal, unless_refused, add_answer, remove_answer}
use Rattle.ebr_columns.specs.Columns.{column_type}
use Rattle.ebr_cross.specs.declared.record.CatalogueRecord.{CatalogueRecord}
use Rattle.ebr_cross.specs.declared.record.CatalogueRecord.TheVariants as made
use Rattle.ebr_cross.specs.Catalogue.{Lists, first_lists, visible, table_in}
use Rattle.ebr_cross.specs.Definitions as spec
use Rattle.ebr_cross.specs.Kinds.{kind_of, name_of, key_of}
use Rattle.ebr_cross.specs.Records.{with_record}
use Rattle.ebr_script.specs.Pieces.{CreatesObject, stored_definition}
use Rattle.ebr_record.specs.declared.record.Record.{Record}
use Rattle.ebr_core.specs.Records.{record_of, with_named, with_stored, after_record, catalogue_of}
use Rattle.ebr_core.specs.ReadBack.{AreReadBack}
use Rattle.ebr_core.specs.inside.Stored.{SpellsObject, AreSpelled}
use Rattle.ebr_core.proofs.Spellings.{spelled, visible-of}

pub catalogue_of-append : (records : List Record) (r : Record) → catalogue_of (records ++ r ∷ []) ≡ after_record (catalogue_of records) r
catalogue_of-append records r = fold-append after_record first_lists records (r ∷ [])

-- what is read off the record is what the definition left
abbrev ReadsBack : Lists → CatalogueRecord → Type 0
ReadsBack c r = after_record c (record_of r) ≡ with_record c r

object_reads_back : (c : Lists) (e : EditionNo) (key : ObjectKey) (text : List ℕ) (u : UnitTree) (enabled : Bool) → SpellsObject key text u
    → ReadsBack c (made.Object (spec.object_of c e key text u enabled))
object_reads_back c e key text u enabled s =
    ap (with_stored c e enabled text) s.spelled
    ∙ ap (λ k. with_named c e enabled text u k (name_of u)) s.kind_is
    ∙ ap (with_named c e enabled text u (Some s.k)) s.name_is
    ∙ ap (λ key. with_record c (made.Object (spec.object_of c e key text u enabled))) (sym s.key_is)

ok_or : CatalogueRecord → Result CatalogueRecord Code → CatalogueRecord
ok_or x (Ok y) = y
ok_or x (Err code) = x

abbrev as_ok : CatalogueRecord → Result CatalogueRecord Code
as_ok x = Ok x

same_ok : (x y : CatalogueRecord) → as_ok x ≡ as_ok y → x ≡ y
unfolding ok_or
same_ok x y is = ap (ok_or x) is

-- A property of every record that an answer may have.
module _ (P : CatalogueRecord → Type 0) where
  pub recorded : {T : Type 0} → (f : T → CatalogueRecord) → (o : Result T Code) (r : CatalogueRecord) → ((x : T) → o ≡ Ok x → P (f x)) → spec.recording f o ≡ Ok r → P r
  recorded f (Ok x) r all is = subst P (same_ok (f x) r is) (all x refl)
  recorded f (Err code) r all is = cc

  pub unless : (x : CatalogueRecord) (o : Option Code) (r : CatalogueRecord) → (o ≡ None → P x) → unless_refused o x ≡ Ok r → P r
  unless x None r here is = subst P (same_ok x r is) (here refl)
  unless x (Some code) r here is = cc

  pub chosen : (x : CatalogueRecord) (b : Bool) (code : Code) (r : CatalogueRecord) → P x → (if b then Ok x else Err code) ≡ Ok r → P r
  chosen x true code r here is = subst P (same_ok x r is) here
  chosen x false code r here is = cc

dropped : (c : Lists) (sessions : List EditionNo) (cascade : Bool) (o : Result EditionNo Code) (r : CatalogueRecord) → spec.dropped_edition c sessions cascade o ≡ Ok r → ReadsBack c r
dropped c sessions cascade (Ok e) r is = unless (ReadsBack c) (made.EditionGone e) (spec.drop_refusal c sessions cascade e) r (λ none. refl) is
dropped c sessions cascade (Err code) r is = cc

added : (c : Lists) (t : Option TableDef) (name : List ℕ) (ty : Option ColType) (r : CatalogueRecord) → spec.added_column t name ty ≡ Ok r → ReadsBack c r
added c t name (Some ty) r is =
    recorded (ReadsBack c) (λ u. made.Column (spec.id_of t) (spec.new_column name ty)) (add_answer t (spec.new_column name ty)) r (λ u there. refl) is
added c None name None r is = cc
added c (Some t) name None r is = cc

altered : (c : Lists) (e : EditionNo) (key : ObjectKey) (enabled : Bool) (o : Option Object) (r : CatalogueRecord)
    → ((p : Object) → o ≡ Some p → SpellsObject key p.text p.tree) → spec.altered c e key enabled o ≡ Ok r → ReadsBack c r
altered c e key enabled None r all is = cc
altered c e key enabled (Some o) r all is =
    let new : Object = spec.object_of c e key o.text o.tree enabled in
    unless (ReadsBack c) (made.Object new) (first_refusal ((spec.is_full c e key new, Ebr 34) ∷ [])) r (λ none. object_reads_back c e key o.text o.tree enabled (all o refl)) is

gone : (c : Lists) (e : EditionNo) (k : ObjectKind) (name : List ℕ) → ReadsBack c (spec.gone_record e k name)
gone c e kind.Package name = refl
gone c e kind.Procedure name = refl
gone c e kind.Function name = refl
gone c e kind.PackageBody name = refl
gone c e kind.Trigger name = refl
gone c e kind.View name = refl

created : (c : Lists) (e : EditionNo) (replace : Bool) (u : UnitTree) (text : List ℕ) (k : Option ObjectKind) (name : Option (List ℕ)) (r : CatalogueRecord)
    → stored_definition text ≡ Some (definition.CreateObject replace u) → kind_of u ≡ k → name_of u ≡ name → spec.object_named c e replace u text k name ≡ Ok r → ReadsBack c r
created c e replace u text (Some k) (Some name) r spells kind_is name_is is =
    let new : Object = spec.object_of c e (key_of k name) text u (spec.is_enabled u) in
    let s : SpellsObject (key_of k name) text u = record { replace = replace; k = k; name = name; spelled = spells; kind_is = kind_is; name_is = name_is; key_is = refl } in
    unless (ReadsBack c) (made.Object new) (first_refusal (spec.object_refusals c e replace k (key_of k name) u new)) r (λ none. object_reads_back c e (key_of k name) text u (spec.is_enabled u) s) is
created c e replace u text (Some k) None r spells kind_is name_is is = cc
created c e replace u text None name r spells kind_is name_is is = cc

-- whatever a definition leaves
pub reads_back : (c : Lists) (e : EditionNo) (sessions : List EditionNo) (what : Definition) (text : List ℕ) (r : CatalogueRecord)
    → AreSpelled c → (CreatesObject what → stored_definition text ≡ Some what) → spec.outcome c e sessions what text ≡ Ok r → after_record c (record_of r) ≡ with_record c r
reads_back c e sessions (definition.CreateEdition name parent) text r all spells is =
    recorded (ReadsBack c) (λ d. made.Edition name (spec.parent_in c parent)) (create_answer c.editions.made name parent) r (λ d there. refl) is
reads_back c e sessions (definition.DropEdition name cascade) text r all spells is = dropped c sessions cascade (drop_answer c.editions.made name) r is
reads_back c e sessions (definition.DefaultEdition name) text r all spells is =
    recorded (ReadsBack c) made.Default (spec.set_edition c.editions.made name) r (λ d there. refl) is
reads_back c e sessions (definition.CreateTable name columns key) text r all spells is =
    unless (ReadsBack c) _ (spec.table_refusal c e name columns key) r (λ none. refl) is
reads_back c e sessions (definition.AddColumn table column ty) text r all spells is = added c (table_in c table) column (column_type ty) r is
reads_back c e sessions (definition.DropTable name) text r all spells is =
    recorded (ReadsBack c) made.TableGone (remove_answer (table_in c name)) r (λ d there. refl) is
reads_back c e sessions (definition.AlterTrigger name enabled) text r all spells is =
    let key : ObjectKey = key_of kind.Trigger name in
    altered c e key enabled (visible c e key) r (visible-of (λ key o. SpellsObject key o.text o.tree) c all e key) is
reads_back c e sessions (definition.DropObject k name) text r all spells is =
    chosen (ReadsBack c) (spec.gone_record e k name) (spec.is_object_of k (visible c e (key_of k name))) (spec.missing_code k) r (gone c e k name) is
reads_back c e sessions (definition.CreateObject replace u) text r all spells is =
    created c e replace u text (kind_of u) (name_of u) r (spells tt) refl refl is

pub are_read_back : (records : List Record) → AreReadBack records
are_read_back records e sessions what text r spells is =
    catalogue_of-append records (record_of r) ∙ reads_back (catalogue_of records) e sessions what text r (spelled records) spells is
