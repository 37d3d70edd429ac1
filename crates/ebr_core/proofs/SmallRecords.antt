-- What definitions leave has room in a record: its text is small, or it has few columns and a short key.
use Rattle.std.proofs.Common.{◌≡◌, ℕ, ◌<◌, ◌≤◌, Bool, true, false, ◌||◌, List, [], ◌∷◌, length, refl, arith, eqb}
use Rattle.std.specs.Prelude.{Option, Some, None, Result, Ok, Err, nat_eq, nat_le}
use Rattle.std.specs.List.{list_any, AllByRecursion, IsDistinct}
use Rattle.std.proofs.lemmas.Bool.{or_parts}
use Rattle.std.proofs.lemmas.Bool.Decides.{nat_tests}
use Rattle.std.proofs.lemmas.Map.Steps.{length-le_from_distinct_below}
use Rattle.ebr_base.specs.declared.code.Code.{Code}
use Rattle.ebr_base.specs.declared.numbers.EditionNo.{EditionNo}
use Rattle.ebr_base.specs.declared.object.ObjectKey.{ObjectKey}
use Rattle.ebr_base.specs.declared.table.TableDef.{TableDef}
use Rattle.ebr_base.specs.declared.value.ColType.{ColType}
use Rattle.ebr_ast.specs.declared.definition.Definition.{Definition}
use Rattle.ebr_ast.specs.declared.definition.Definition.TheVariants as definition
use Rattle.ebr_ast.specs.declared.definition.ObjectKind.{ObjectKind}
use Rattle.ebr_ast.specs.declared.definition.ObjectKind.TheVariants as kind
use Rattle.ebr_ast.specs.declared.unit.UnitTree.{UnitTree}
use Rattle.ebr_ast.specs.declared.view.Object.{Object}
use Rattle.ebr_editions.specs.Editions.{create_answer, drop_answer}
use Rattle.ebr_tables.specs.Definitions.{has_repetition, is_bad_key}
use Rattle.ebr_tables.specs.Tables.{IsTable, add_answer, remove_answer, next_id, kept_as}
use Rattle.ebr_tables.proofs.Allowed.{kept-is}
use Rattle.ebr_columns.specs.Columns.{column_type, table_of}
use Rattle.ebr_cross.specs.declared.record.CatalogueRecord.{CatalogueRecord}
use Rattle.ebr_cross.specs.declared.record.CatalogueRecord.TheVariants as made
use Rattle.ebr_cross.specs.Catalogue.{Lists, visible, table_in}
use Rattle.ebr_cross.specs.Definitions as spec
use Rattle.ebr_cross.specs.Kinds.{kind_of, name_of, key_of}
use Rattle.ebr_core.specs.Records.{record_of}
use Rattle.ebr_core.specs.inside.Stored.{AreSmall, HasSmallText, IsSmall, KeepsSmall, max_stored}
use Rattle.ebr_core.specs.inside.Tables.{HasNextId}
use Rattle.ebr_core.proofs.ReadsBack.{recorded, unless, chosen}
use Rattle.ebr_core.proofs.Spellings.{visible-of}
use Rattle.ebr_core.proofs.AllowedTables.{new_table}

-- ---- keys

apart : (x : ℕ) (xs : List ℕ) → list_any (nat_eq x) xs ≡ false → AllByRecursion (λ y. eqb x y ≡ false) xs
apart x [] none = tt
apart x (y ∷ xs) none = let s = or_parts (nat_eq x y) (list_any (nat_eq x) xs) none in (s.0, apart x xs s.1)

distinct : (xs : List ℕ) → has_repetition nat_eq xs ≡ false → IsDistinct eqb xs
unfolding IsDistinct
distinct [] none = tt
distinct (x ∷ xs) none = let s = or_parts (list_any (nat_eq x) xs) (has_repetition nat_eq xs) none in (apart x xs s.0, distinct xs s.1)

-- a place of a list that has no place from n on
below : (n q : ℕ) (xs : List ℕ) → list_any (nat_le n) xs ≡ false → list_any (eqb q) xs ≡ true → q < n
below n q [] h e = absurd cc
below n q (x ∷ xs) h e = let s = or_parts (nat_le n x) (list_any (nat_le n) xs) h in by (eqb q x) refl s.0 e (below n q xs s.1)
  where
    by : (b : Bool) → eqb q x ≡ b → nat_le n x ≡ false → (b || list_any (eqb q) xs) ≡ true → (list_any (eqb q) xs ≡ true → q < n) → q < n
    by true is le e rest = grind (arith, nat_tests)
    by false is le e rest = rest e

-- a key has no more places than there are columns
short_key : (n : ℕ) (key : List ℕ) → is_bad_key n key ≡ false → length key ≤ n
short_key n key good =
    let s = or_parts (has_repetition nat_eq key) (list_any (nat_le n) key) good in
    length-le_from_distinct_below key n (distinct key s.0) (λ q there. below n q key s.1 there)

small_table : (d : TableDef) → IsTable d → IsSmall (made.Table d)
small_table d is = (is.few, within)
  where
    key : length d.key ≤ length d.columns
    key = short_key (length d.columns) d.key (or_parts _ (is_bad_key (length d.columns) d.key) is.allowed).1

    within : length d.key ≤ 64
    within = let few : length d.columns ≤ 64 = is.few in omega (arith, key, few)

-- ---- what a definition leaves

-- it is small, and a table has the next id
abbrev IsFit : Lists → CatalogueRecord → Type 0
IsFit c r = IsSmall r × HasNextId c r

dropped : (c : Lists) (sessions : List EditionNo) (cascade : Bool) (o : Result EditionNo Code) (r : CatalogueRecord) → spec.dropped_edition c sessions cascade o ≡ Ok r → IsFit c r
dropped c sessions cascade (Ok e) r is = unless (IsFit c) (made.EditionGone e) (spec.drop_refusal c sessions cascade e) r (λ none. (tt, tt)) is
dropped c sessions cascade (Err code) r is = absurd cc

added : (c : Lists) (t : Option TableDef) (name : List ℕ) (ty : Option ColType) (r : CatalogueRecord) → spec.added_column t name ty ≡ Ok r → IsFit c r
added c t name (Some ty) r is =
    recorded (IsFit c) (λ u. made.Column (spec.id_of t) (spec.new_column name ty)) (add_answer t (spec.new_column name ty)) r (λ u there. (tt, tt)) is
added c None name None r is = absurd cc
added c (Some t) name None r is = absurd cc

altered : (c : Lists) (e : EditionNo) (key : ObjectKey) (enabled : Bool) (o : Option Object) (r : CatalogueRecord)
    → ((p : Object) → o ≡ Some p → length p.text ≤ max_stored) → spec.altered c e key enabled o ≡ Ok r → IsFit c r
altered c e key enabled None r all is = absurd cc
altered c e key enabled (Some o) r all is = unless (IsFit c) (made.Object (spec.object_of c e key o.text o.tree enabled)) _ r (λ none. (all o refl, tt)) is

gone : (c : Lists) (e : EditionNo) (k : ObjectKind) (name : List ℕ) → IsFit c (spec.gone_record e k name)
gone c e kind.Package name = (tt, tt)
gone c e k name = (tt, tt)

created : (c : Lists) (e : EditionNo) (replace : Bool) (u : UnitTree) (text : List ℕ) (k : Option ObjectKind) (name : Option (List ℕ)) (r : CatalogueRecord)
    → length text ≤ max_stored → spec.object_named c e replace u text k name ≡ Ok r → IsFit c r
created c e replace u text (Some k) (Some name) r short is =
    unless (IsFit c) (made.Object (spec.object_of c e (key_of k name) text u (spec.is_enabled u))) _ r (λ none. (short, tt)) is
created c e replace u text (Some k) None r short is = absurd cc
created c e replace u text None name r short is = absurd cc

-- What a definition leaves is small, where its text and those of the catalogue are; and a table has the next id.
pub fit : (c : Lists) (e : EditionNo) (sessions : List EditionNo) (what : Definition) (text : List ℕ) (r : CatalogueRecord)
    → AreSmall c → length text ≤ max_stored → spec.outcome c e sessions what text ≡ Ok r → IsSmall r × HasNextId c r
fit c e sessions (definition.CreateEdition name parent) text r all short is =
    recorded (IsFit c) (λ d. made.Edition name (spec.parent_in c parent)) (create_answer c.editions.made name parent) r (λ d there. (tt, tt)) is
fit c e sessions (definition.DropEdition name cascade) text r all short is = dropped c sessions cascade (drop_answer c.editions.made name) r is
fit c e sessions (definition.DefaultEdition name) text r all short is =
    recorded (IsFit c) made.Default (spec.set_edition c.editions.made name) r (λ d there. (tt, tt)) is
fit c e sessions (definition.CreateTable name columns key) text r all short is =
    let d = table_of name columns key in
    unless (IsFit c) (made.Table (kept_as (next_id c.tables) d)) (spec.table_refusal c e name columns key) r
    (λ none. let new = new_table c e name columns key none in (small_table (kept_as (next_id c.tables) d) (kept-is (next_id c.tables) d new.good new.few), refl)) is
fit c e sessions (definition.AddColumn table column ty) text r all short is = added c (table_in c table) column (column_type ty) r is
fit c e sessions (definition.DropTable name) text r all short is =
    recorded (IsFit c) made.TableGone (remove_answer (table_in c name)) r (λ id there. (tt, tt)) is
fit c e sessions (definition.AlterTrigger name enabled) text r all short is =
    let key : ObjectKey = key_of kind.Trigger name in altered c e key enabled (visible c e key) r (visible-of HasSmallText c all e key) is
fit c e sessions (definition.DropObject k name) text r all short is =
    chosen (IsFit c) (spec.gone_record e k name) (spec.is_object_of k (visible c e (key_of k name))) (spec.missing_code k) r (gone c e k name) is
fit c e sessions (definition.CreateObject replace u) text r all short is = created c e replace u text (kind_of u) (name_of u) r short is

-- so is the text of its record
pub keeps_small : (r : CatalogueRecord) → IsSmall r → KeepsSmall (record_of r)
keeps_small (made.Object o) small = small
keeps_small r small = tt
