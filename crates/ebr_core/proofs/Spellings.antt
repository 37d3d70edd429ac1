-- What holds of each object that a record enters holds of each object that counts. So each is spelled by its text, each text is
-- small where those of all records are, and each object stands under its own key.
use Rattle.std.proofs.Common.{◌≡◌, ℕ, Bool, true, false, List, [], ◌∷◌, ◌++◌, refl, sym, ap, ◌∙◌, subst}
use Rattle.std.specs.Prelude.{Option, Some, None, IfSome, fold, is_some, if◌then◌else◌}
use Rattle.std.specs.List.{AllByRecursion}
use Rattle.std.proofs.lemmas.Grind.{fold-append}
use Rattle.std.proofs.lemmas.Option.{same_Some}
use Rattle.std.proofs.lemmas.Bool.{and_parts}
use Rattle.ebr_base.specs.declared.numbers.EditionNo.{EditionNo}
use Rattle.ebr_base.specs.declared.object.ObjectKey.{ObjectKey}
use Rattle.ebr_base.specs.Keys.{same_key}
use Rattle.ebr_ast.specs.declared.definition.Definition.{Definition}
use Rattle.ebr_ast.specs.declared.definition.Definition.TheVariants as definition
use Rattle.ebr_ast.specs.declared.definition.ObjectKind.{ObjectKind}
use Rattle.ebr_ast.specs.declared.definition.ObjectKind.TheVariants as kind
use Rattle.ebr_ast.specs.declared.unit.UnitTree.{UnitTree}
use Rattle.ebr_ast.specs.declared.view.Object.{Object}
use Rattle.ebr_editions.specs.Editions.{line_of}
use Rattle.ebr_editions.specs.Objects.{ObjectEntry, is_entry_of, is_in, last_entry, last_object, nearest, entry_or, with_entry, next_stamp, without_both, Visible}
use Rattle.ebr_cross.specs.Catalogue.{Lists, HaveOwnKeys, first_lists, visible}
use Rattle.ebr_cross.specs.Definitions.{object_of}
use Rattle.ebr_cross.specs.Kinds.{kind_of, name_of, key_of}
use Rattle.ebr_cross.specs.declared.record.CatalogueRecord.TheVariants as made
use Rattle.ebr_cross.proofs.OwnKeys.{key-same, own_kept}
use Rattle.ebr_script.specs.Pieces.{stored_definition}
use Rattle.ebr_record.specs.declared.record.DroppedClass.{DroppedClass}
use Rattle.ebr_record.specs.declared.record.DroppedClass.TheVariants as dropped
use Rattle.ebr_record.specs.declared.record.Record.{Record}
use Rattle.ebr_record.specs.declared.record.Record.TheVariants as left
use Rattle.ebr_core.specs.Records.{gone, with_named, with_stored, after_record, catalogue_of}
use Rattle.ebr_core.specs.inside.Stored.{SpellsObject, OfObjects, IsSpelled, AreSpelled, HasSmallText, AreSmall, KeepsSmall}

last_entry-append : (entries : List (ObjectEntry Object)) (x : ObjectEntry Object) (e : EditionNo) (key : ObjectKey)
    → last_entry (entries ++ x ∷ []) e key ≡ (if is_entry_of e key x then Some x else last_entry entries e key)
last_entry-append entries x e key = fold-append (λ found y. if is_entry_of e key y then Some y else found) None entries (x ∷ [])

abbrev object_in : Option (ObjectEntry Object) → Option (Option Object)
object_in None = None
object_in (Some x) = Some x.object

-- what is visible counts in some edition of the line
seen_in_line : (at : EditionNo → Option (Option Object)) (es : List EditionNo) (o : Object) → nearest at es ≡ Some o → (e : EditionNo) × (at e ≡ Some (Some o))
seen_in_line at [] o is = cc
seen_in_line at (e ∷ es) o is = by (at e) refl is (seen_in_line at es o)
  where
    by : (x : Option (Option Object)) → at e ≡ x → entry_or x (nearest at es) ≡ Some o → (nearest at es ≡ Some o → (e : EditionNo) × (at e ≡ Some (Some o))) → (e : EditionNo) × (at e ≡ Some (Some o))
    by None here is later = later is
    by (Some x) here is later = (e, here ∙ ap (λ x. Some x) is)

module _ (P : ObjectKey → Object → Type 0) where
  -- one more entry, whose object, if it has one, is so
  more : (entries : List (ObjectEntry Object)) (d : EditionNo) (under : ObjectKey) (object : Option Object)
      → OfObjects P entries → IfSome object (P under) → OfObjects P (with_entry entries d under object)
  more entries d under object all here e key o found =
      by (is_entry_of e key x) refl (sym (ap object_in (last_entry-append entries x e key)) ∙ found)
    where
      x : ObjectEntry Object
      x = record { edition = d; key = under; object = object; stamp = next_stamp entries d }

      new : (object : Option Object) → IfSome object (P under) → Some object ≡ Some (Some o) → key ≡ under → P key o
      new None here is same = cc
      new (Some p) here is same =
          let at : P under o = subst (P under) (same_Some p o (same_Some (Some p) (Some o) is)) here in
          subst (λ k. P k o) (sym same) at

      by : (b : Bool) → is_entry_of e key x ≡ b → object_in (if b then Some x else last_entry entries e key) ≡ Some (Some o) → P key o
      by true is at = new object here at (key-same key under (and_parts (is_in e x) (same_key key under) is).1)
      by false is at = all e key o at

  without : (c : Lists) (e : EditionNo) (key other : ObjectKey) → OfObjects P c.entries → OfObjects P (without_both c.editions.made c.entries e key other)
  without c e key other all = by (is_some (Visible c.editions.made c.entries e other))
    where
      hidden : OfObjects P (with_entry c.entries e key None)
      hidden = more c.entries e key None all tt

      by : (b : Bool) → OfObjects P (if b then with_entry (with_entry c.entries e key None) e other None else with_entry c.entries e key None)
      by true = more (with_entry c.entries e key None) e other None hidden tt
      by false = hidden

  -- the object that a text spells is so
  abbrev Enters : List ℕ → Bool → Type 0
  Enters text enabled = (c : Lists) (e : EditionNo) (key : ObjectKey) (u : UnitTree) → SpellsObject key text u → P key (object_of c e key text u enabled)

  abbrev EntersOf : Record → Type 0
  EntersOf (left.Object e enabled text) = Enters text enabled
  EntersOf r = Unit {0}

  named : (c : Lists) (e : EditionNo) (enabled replace : Bool) (text : List ℕ) (u : UnitTree) (k : Option ObjectKind) (name : Option (List ℕ))
      → stored_definition text ≡ Some (definition.CreateObject replace u) → kind_of u ≡ k → name_of u ≡ name → Enters text enabled
      → OfObjects P c.entries → OfObjects P (with_named c e enabled text u k name).entries
  named c e enabled replace text u (Some k) (Some name) spelled kind_is name_is enters all =
      more c.entries e (key_of k name) _ all
      (enters c e (key_of k name) u (record { replace = replace; k = k; name = name; spelled = spelled; kind_is = kind_is; name_is = name_is; key_is = refl }))
  named c e enabled replace text u (Some k) None spelled kind_is name_is enters all = all
  named c e enabled replace text u None name spelled kind_is name_is enters all = all

  stored : (c : Lists) (e : EditionNo) (enabled : Bool) (text : List ℕ) (d : Option Definition)
      → stored_definition text ≡ d → Enters text enabled → OfObjects P c.entries → OfObjects P (with_stored c e enabled text d).entries
  stored c e enabled text None is enters all = all
  stored c e enabled text (Some (definition.CreateObject replace u)) is enters all = named c e enabled replace text u (kind_of u) (name_of u) is refl refl enters all
  stored c e enabled text (Some d) is enters all = all

  dropped_of : (c : Lists) (e : EditionNo) (k : DroppedClass) (name : List ℕ) → OfObjects P c.entries → OfObjects P (after_record c (left.Gone e k name)).entries
  dropped_of c e dropped.Unit name all = more c.entries e _ None all tt
  dropped_of c e dropped.Body name all = more c.entries e _ None all tt
  dropped_of c e dropped.Trigger name all = more c.entries e _ None all tt
  dropped_of c e dropped.Package name all = without c e (key_of kind.Package name) (key_of kind.PackageBody name) all

  pub after : (c : Lists) (r : Record) → EntersOf r → OfObjects P c.entries → OfObjects P (after_record c r).entries
  after c (left.Object e enabled text) enters all = stored c e enabled text (stored_definition text) refl enters all
  after c (left.Gone e k name) enters all = dropped_of c e k name all
  after c (left.Commit changes) enters all = all
  after c (left.Edition name parent) enters all = all
  after c (left.EditionGone e) enters all = all
  after c (left.Default e) enters all = all
  after c (left.Table name columns key) enters all = all
  after c (left.Column id column) enters all = all
  after c (left.TableGone id) enters all = all

  pub folded : (records : List Record) (c : Lists) → AllByRecursion EntersOf records → OfObjects P c.entries → OfObjects P (fold after_record c records).entries
  folded [] c enters all = all
  folded (r ∷ records) c enters all = folded records (after_record c r) enters.1 (after c r enters.0 all)

  nothing : OfObjects P []
  nothing e key o is = cc

  pub visible-of : (c : Lists) → OfObjects P c.entries → (e : EditionNo) (key : ObjectKey) (o : Object) → visible c e key ≡ Some o → P key o
  visible-of c all e key o is =
      let found = seen_in_line (λ d. last_object c.entries d key) (line_of c.editions.made e) o is in
      all found.0 key o found.1

-- each object is spelled by its text
spells : (r : Record) → EntersOf IsSpelled r
spells (left.Object e enabled text) = λ c e key u s. s
spells (left.Gone e k name) = tt
spells (left.Commit changes) = tt
spells (left.Edition name parent) = tt
spells (left.EditionGone e) = tt
spells (left.Default e) = tt
spells (left.Table name columns key) = tt
spells (left.Column id column) = tt
spells (left.TableGone id) = tt

all_spell : (records : List Record) → AllByRecursion (EntersOf IsSpelled) records
all_spell [] = tt
all_spell (r ∷ records) = (spells r, all_spell records)

pub spelled : (records : List Record) → AreSpelled (catalogue_of records)
spelled records = folded IsSpelled records first_lists (all_spell records) (nothing IsSpelled)

-- each text is small where those of all records are
keeps : (r : Record) → KeepsSmall r → EntersOf HasSmallText r
keeps (left.Object e enabled text) small = λ c e key u s. small
keeps (left.Gone e k name) small = tt
keeps (left.Commit changes) small = tt
keeps (left.Edition name parent) small = tt
keeps (left.EditionGone e) small = tt
keeps (left.Default e) small = tt
keeps (left.Table name columns key) small = tt
keeps (left.Column id column) small = tt
keeps (left.TableGone id) small = tt

all_keep : (records : List Record) → AllByRecursion KeepsSmall records → AllByRecursion (EntersOf HasSmallText) records
all_keep [] small = tt
all_keep (r ∷ records) small = (keeps r small.0, all_keep records small.1)

pub small : (records : List Record) → AllByRecursion KeepsSmall records → AreSmall (catalogue_of records)
small records all = folded HasSmallText records first_lists (all_keep records all) (nothing HasSmallText)

-- one more record
pub small_after : (c : Lists) (r : Record) → KeepsSmall r → AreSmall c → AreSmall (after_record c r)
small_after c r here all = after HasSmallText c r (keeps r here) all

-- each object stands under its own key
own_named : (c : Lists) (e : EditionNo) (enabled : Bool) (text : List ℕ) (u : UnitTree) (k : Option ObjectKind) (name : Option (List ℕ))
    → HaveOwnKeys c → HaveOwnKeys (with_named c e enabled text u k name)
own_named c e enabled text u (Some k) (Some name) own = own_kept c (made.Object (object_of c e (key_of k name) text u enabled)) own
own_named c e enabled text u (Some k) None own = own
own_named c e enabled text u None name own = own

own_stored : (c : Lists) (e : EditionNo) (enabled : Bool) (text : List ℕ) (d : Option Definition) → HaveOwnKeys c → HaveOwnKeys (with_stored c e enabled text d)
own_stored c e enabled text None own = own
own_stored c e enabled text (Some (definition.CreateObject replace u)) own = own_named c e enabled text u (kind_of u) (name_of u) own
own_stored c e enabled text (Some d) own = own

own_after : (c : Lists) (r : Record) → HaveOwnKeys c → HaveOwnKeys (after_record c r)
own_after c (left.Object e enabled text) own = own_stored c e enabled text (stored_definition text) own
own_after c (left.Gone e k name) own = own_kept c (gone e k name) own
own_after c (left.Commit changes) own = own
own_after c (left.Edition name parent) own = own
own_after c (left.EditionGone e) own = own
own_after c (left.Default e) own = own
own_after c (left.Table name columns key) own = own
own_after c (left.Column id column) own = own
own_after c (left.TableGone id) own = own

own_folded : (records : List Record) (c : Lists) → HaveOwnKeys c → HaveOwnKeys (fold after_record c records)
own_folded [] c own = own
own_folded (r ∷ records) c own = own_folded records (after_record c r) (own_after c r own)

pub own_keys : (records : List Record) → HaveOwnKeys (catalogue_of records)
own_keys records = own_folded records first_lists tt
