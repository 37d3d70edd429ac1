-- What definitions leave of the tables: they are as tables are, so they are narrow.
use Rattle.std.proofs.Common.{◌≡◌, ◌==◌, ℕ, ◌<◌, ◌≤◌, ◌^◌, Bool, true, false, cond, not, List, [], ◌∷◌, map, length, refl, sym, ap, ◌∙◌, subst, arith}
use Rattle.std.specs.Prelude.{Option, Some, None, option_map, Result, Ok, Err, is_some, find, All, if◌then◌else◌, nat_lt}
use Rattle.std.specs.Option.{unwrap_or}
use Rattle.std.specs.List.{list_any}
use Rattle.std.specs.Str.{bytes_eq}
use Rattle.std.specs.Cmp.Lexicographic.{bytes_decides}
use Rattle.std.proofs.lemmas.Bool.{or_parts}
use Rattle.std.proofs.lemmas.Bool.Decides.{nat_tests}
use Rattle.std.proofs.lemmas.Cmp.{nat_list_eq_equiv}
use Rattle.std.proofs.lemmas.List.Elements.{All-cons, All-head, All-tail, All-push, All-filter, All-weaker, All-nil, recursion_from_All}
use Rattle.ebr_base.specs.declared.code.Code.{Code}
use Rattle.ebr_base.specs.declared.numbers.EditionNo.{EditionNo}
use Rattle.ebr_base.specs.declared.object.ObjectKey.{ObjectKey}
use Rattle.ebr_base.specs.declared.table.Column as column
use Rattle.ebr_base.specs.declared.table.TableDef.{TableDef}
use Rattle.ebr_base.specs.declared.value.ColType.{ColType}
use Rattle.ebr_base.specs.Keys.{table_named}
use Rattle.ebr_ast.specs.declared.definition.ColumnTree.{ColumnTree}
use Rattle.ebr_ast.specs.declared.definition.Definition.{Definition}
use Rattle.ebr_ast.specs.declared.definition.Definition.TheVariants as definition
use Rattle.ebr_ast.specs.declared.definition.ObjectKind.{ObjectKind}
use Rattle.ebr_ast.specs.declared.definition.ObjectKind.TheVariants as kind
use Rattle.ebr_ast.specs.declared.unit.UnitTree.{UnitTree}
use Rattle.ebr_ast.specs.declared.view.Object.{Object}
use Rattle.ebr_editions.specs.Editions.{create_answer, drop_answer}
use Rattle.ebr_tables.specs.Definitions.{has_repetition}
use Rattle.ebr_tables.specs.Definitions as tables
use Rattle.ebr_tables.specs.Tables.{AllTables, IdsAscend, IsTable, add_answer, add_refusal, has_id, kept_as, next_id, no_tables, remove_answer, same_table_name, unless_refused, widened, with_column, with_definition, without_table}
use Rattle.ebr_tables.proofs.Names.{has, none-any, others-none, map-none, distinct-filter, distinct-map, once-push, ascend-filter, ascend-map, ascend-push}
use Rattle.ebr_tables.proofs.Allowed.{kept-is, widened-is}
use Rattle.ebr_columns.specs.Columns.{column_type, column_of, is_bad_table, table_of}
use Rattle.ebr_columns.proofs.TableTrees.{allowed, length-same}
use Rattle.ebr_cross.specs.declared.record.CatalogueRecord.{CatalogueRecord}
use Rattle.ebr_cross.specs.declared.record.CatalogueRecord.TheVariants as made
use Rattle.ebr_cross.specs.Catalogue.{Lists, visible, table_in}
use Rattle.ebr_cross.specs.Definitions as spec
use Rattle.ebr_cross.specs.Kinds.{kind_of, name_of, key_of}
use Rattle.ebr_cross.specs.Records.{table_name, with_record}
use Rattle.ebr_exec.specs.Narrow.{AreNarrow, IsNarrow}
use Rattle.ebr_core.specs.inside.Tables.{AreAllowed}
use Rattle.ebr_core.proofs.ReadsBack.{recorded, unless, chosen}

some_same : {X : Type 0} {x y : X} → Some x ≡ Some y → x ≡ y
some_same h = cc

-- ---- what nothing refuses of CREATE TABLE

passed : (b : Bool) (code : Code) (rest : Option Code) → (if b then Some code else rest) ≡ None → (b ≡ false) × (rest ≡ None)
passed true code rest e = absurd cc
passed false code rest e = (refl, e)

none_there : (o : Option TableDef) → is_some o ≡ false → o ≡ None
none_there None is = refl
none_there (Some t) is = absurd cc

at_most : (m n : ℕ) → nat_lt n m ≡ false → m ≤ n
at_most m n h = grind (arith, nat_tests)

pub record IsNewTable (c : Lists) (d : TableDef) : Type 0 where
  pub new : table_named d.name c.tables.living ≡ None
  pub good : tables.is_bad_table d ≡ false
  pub few : length d.columns ≤ 64

pub new_table : (c : Lists) (e : EditionNo) (name : List ℕ) (columns : List ColumnTree) (key : List (List ℕ)) → spec.table_refusal c e name columns key ≡ None
    → IsNewTable c (table_of name columns key)
unfolding table_of
new_table c e name columns key none =
    let taken = passed (spec.is_taken c e name) _ _ none in
    let bad = passed (is_bad_table columns key) _ _ taken.1 in
    let wide = passed (nat_lt 64 (length columns)) _ _ bad.1 in
    record {
      new = none_there (table_in c name) (or_parts (is_some (table_in c name)) _ taken.0).0;
      good = allowed name columns key bad.0;
      few = subst (λ n. n ≤ 64) (sym (length-same column_of columns)) (at_most (length columns) 64 wide.0);
    }

-- ---- tables by their ids

-- a table that is found has an id above all before it
above : (name : List ℕ) (a made : ℕ) (ts : List TableDef) (t : TableDef) → IdsAscend a made ts → table_named name ts ≡ Some t → a < t.id.0
above name a made [] t h e = absurd cc
above name a made (u ∷ ts) t h e = by (bytes_eq name u.name) (above name u.id.0 made ts t h.2) e
  where
    by : (b : Bool) → (table_named name ts ≡ Some t → u.id.0 < t.id.0) → cond b (Some u) (table_named name ts) ≡ Some t → a < t.id.0
    by true f e = subst (λ (x : TableDef). a < x.id.0) (some_same e) h.0
    by false f e = let up : u.id.0 < t.id.0 = f e in let first : a < u.id.0 = h.0 in omega arith

own_id : (n : ℕ) → (n == n) ≡ true
own_id n = grind (arith, nat_tests)

other_id : (n m : ℕ) → m < n → (m == n) ≡ false
other_id n m h = grind (arith, nat_tests)

abbrev name_found : Option TableDef → List ℕ
name_found o = unwrap_or (option_map (λ (t : TableDef). t.name) o) []

-- the table that a name finds, found by its id, has the name
named_by_id : (name : List ℕ) (a made : ℕ) (ts : List TableDef) (t : TableDef) → IdsAscend a made ts → table_named name ts ≡ Some t → name_found (find (has_id t.id) ts) ≡ name
named_by_id name a made [] t h e = absurd cc
named_by_id name a made (u ∷ ts) t h e = by (bytes_eq name u.name) refl (named_by_id name u.id.0 made ts t h.2) e
  where
    by : (b : Bool) → bytes_eq name u.name ≡ b → (table_named name ts ≡ Some t → name_found (find (has_id t.id) ts) ≡ name) → cond b (Some u) (table_named name ts) ≡ Some t
        → name_found (cond (has_id t.id u) (Some u) (find (has_id t.id) ts)) ≡ name
    by true is f e =
        subst (λ (x : TableDef). name_found (cond (has_id x.id u) (Some u) (find (has_id x.id) ts)) ≡ name) (some_same e)
        (ap (λ b. name_found (cond b (Some u) (find (has_id u.id) ts))) (own_id u.id.0) ∙ sym ((bytes_decides name u.name).0 is))
    by false is f e =
        ap (λ b. name_found (cond b (Some u) (find (has_id t.id) ts))) (other_id t.id.0 u.id.0 (above name u.id.0 made ts t h.2 e)) ∙ f e

-- ---- what each record leaves

abbrev widened_if : List ℕ → column.Column → TableDef → TableDef
widened_if name c t = if bytes_eq name t.name then widened c t else t

same_name : (name : List ℕ) (c : column.Column) (t : TableDef) → (widened_if name c t).name ≡ t.name
same_name name c t = by (bytes_eq name t.name)
  where
    by : (b : Bool) → (if b then widened c t else t).name ≡ t.name
    by true = refl
    by false = refl

same_id : (name : List ℕ) (c : column.Column) (t : TableDef) → (widened_if name c t).id ≡ t.id
same_id name c t = by (bytes_eq name t.name)
  where
    by : (b : Bool) → (if b then widened c t else t).id ≡ t.id
    by true = refl
    by false = refl

-- the tables after a column was added to one of them, which refused nothing
each_widened : (n : List ℕ) (c : column.Column) (ts : List TableDef) → has_repetition same_table_name ts ≡ false → add_refusal (table_named n ts) c ≡ None → All IsTable ts → All IsTable (map (widened_if n c) ts)
each_widened n c [] e none all = all
each_widened n c (t ∷ ts) e none all =
    let s = or_parts (list_any (same_table_name t) ts) (has_repetition same_table_name ts) e in
    by (has n t) refl s.0 none (each_widened n c ts s.1)
  where
    by : (b : Bool) → has n t ≡ b → list_any (same_table_name t) ts ≡ false → add_refusal (cond b (Some t) (table_named n ts)) c ≡ None
        → (add_refusal (table_named n ts) c ≡ None → All IsTable ts → All IsTable (map (widened_if n c) ts))
        → All IsTable (cond b (widened c t) t ∷ map (widened_if n c) ts)
    by true is others none rest =
        All-cons IsTable (widened c t) (map (widened_if n c) ts) (widened-is c t (All-head IsTable t ts all) none)
        (subst (All IsTable) (sym (map-none n (widened c) ts (others-none n t ts is others))) (All-tail IsTable t ts all))
    by false is others none rest = All-cons IsTable t (map (widened_if n c) ts) (All-head IsTable t ts all) (rest none (All-tail IsTable t ts all))

pub none_allowed : AreAllowed no_tables
none_allowed = record { names = refl; ids = tt; each = All-nil IsTable }

one_more : (s : AllTables) (d : TableDef) → table_named d.name s.living ≡ None → tables.is_bad_table d ≡ false → length d.columns ≤ 64 → AreAllowed s → AreAllowed (with_definition s (kept_as (next_id s) d))
one_more s d new good few h =
    let t = kept_as (next_id s) d in
    record {
      names = once-push same_table_name (λ a b. nat_list_eq_equiv.symm a.name b.name) t s.living h.names (none-any d.name s.living new);
      ids = ascend-push s.made t 0 s.living refl (omega arith) h.ids;
      each = All-push IsTable s.living t h.each (kept-is (next_id s) d good few);
    }

pub one_wider : (s : AllTables) (name : List ℕ) (c : column.Column) → add_refusal (table_named name s.living) c ≡ None → AreAllowed s → AreAllowed (with_column s name c)
one_wider s name c none h = record {
  names = distinct-map (widened_if name c) s.living (same_name name c) ∙ h.names;
  ids = ascend-map s.made (widened_if name c) 0 s.living (same_id name c) h.ids;
  each = each_widened name c s.living h.names none h.each;
}

pub one_less : (s : AllTables) (name : List ℕ) → AreAllowed s → AreAllowed (without_table s name)
one_less s name h = record {
  names = distinct-filter (λ t. not (has name t)) s.living h.names;
  ids = ascend-filter s.made (λ t. not (has name t)) 0 s.living h.ids;
  each = All-filter (λ t. not (has name t)) IsTable s.living h.each;
}

-- what a definition leaves has tables that are as tables are
abbrev IsKept : Lists → CatalogueRecord → Type 0
IsKept c r = AreAllowed c.tables → AreAllowed (with_record c r).tables

abbrev nothing : Unit {0}
nothing = tt

unrefused : (o : Option Code) → unless_refused o nothing ≡ Ok nothing → o ≡ None
unrefused None is = refl
unrefused (Some code) is = absurd cc

wider : (c : Lists) (name : List ℕ) (t : Option TableDef) (column : column.Column) → table_in c name ≡ t → add_answer t column ≡ Ok nothing → IsKept c (made.Column (spec.id_of t) column)
wider c name None column there is h = absurd cc
wider c name (Some t) column there is h =
    subst (λ n. AreAllowed (with_column c.tables n column)) (sym (named_by_id name 0 c.tables.made c.tables.living t h.ids there))
    (one_wider c.tables name column (ap (λ o. add_refusal o column) there ∙ unrefused (add_refusal (Some t) column) is) h)

added : (c : Lists) (table name : List ℕ) (ty : Option ColType) (r : CatalogueRecord) → spec.added_column (table_in c table) name ty ≡ Ok r → IsKept c r
added c table name (Some ty) r is =
    let new = spec.new_column name ty in
    recorded (IsKept c) (λ u. made.Column (spec.id_of (table_in c table)) new) (add_answer (table_in c table) new) r
    (λ u there. wider c table (table_in c table) new refl there) is
added c table name None r is = refused (table_in c table) is
  where
    refused : (t : Option TableDef) → spec.added_column t name None ≡ Ok r → IsKept c r
    refused None is = absurd cc
    refused (Some t) is = absurd cc

dropped : (c : Lists) (sessions : List EditionNo) (cascade : Bool) (o : Result EditionNo Code) (r : CatalogueRecord) → spec.dropped_edition c sessions cascade o ≡ Ok r → IsKept c r
dropped c sessions cascade (Ok e) r is = unless (IsKept c) (made.EditionGone e) (spec.drop_refusal c sessions cascade e) r (λ none h. h) is
dropped c sessions cascade (Err code) r is = absurd cc

altered : (c : Lists) (e : EditionNo) (key : ObjectKey) (enabled : Bool) (o : Option Object) (r : CatalogueRecord) → spec.altered c e key enabled o ≡ Ok r → IsKept c r
altered c e key enabled None r is = absurd cc
altered c e key enabled (Some o) r is = unless (IsKept c) (made.Object (spec.object_of c e key o.text o.tree enabled)) _ r (λ none h. h) is

gone : (c : Lists) (e : EditionNo) (k : ObjectKind) (name : List ℕ) → IsKept c (spec.gone_record e k name)
gone c e kind.Package name = λ h. h
gone c e k name = λ h. h

created : (c : Lists) (e : EditionNo) (replace : Bool) (u : UnitTree) (text : List ℕ) (k : Option ObjectKind) (name : Option (List ℕ)) (r : CatalogueRecord)
    → spec.object_named c e replace u text k name ≡ Ok r → IsKept c r
created c e replace u text (Some k) (Some name) r is =
    unless (IsKept c) (made.Object (spec.object_of c e (key_of k name) text u (spec.is_enabled u))) _ r (λ none h. h) is
created c e replace u text (Some k) None r is = absurd cc
created c e replace u text None name r is = absurd cc

pub allowed_after : (c : Lists) (e : EditionNo) (sessions : List EditionNo) (what : Definition) (text : List ℕ) (r : CatalogueRecord)
    → spec.outcome c e sessions what text ≡ Ok r → AreAllowed c.tables → AreAllowed (with_record c r).tables
allowed_after c e sessions (definition.CreateEdition name parent) text r is =
    recorded (IsKept c) (λ d. made.Edition name (spec.parent_in c parent)) (create_answer c.editions.made name parent) r (λ d there h. h) is
allowed_after c e sessions (definition.DropEdition name cascade) text r is = dropped c sessions cascade (drop_answer c.editions.made name) r is
allowed_after c e sessions (definition.DefaultEdition name) text r is =
    recorded (IsKept c) made.Default (spec.set_edition c.editions.made name) r (λ d there h. h) is
allowed_after c e sessions (definition.CreateTable name columns key) text r is =
    let d = table_of name columns key in
    unless (IsKept c) (made.Table (kept_as (next_id c.tables) d)) (spec.table_refusal c e name columns key) r
    (λ none. let new = new_table c e name columns key none in one_more c.tables d new.new new.good new.few) is
allowed_after c e sessions (definition.AddColumn table column ty) text r is = added c table column (column_type ty) r is
allowed_after c e sessions (definition.DropTable name) text r is =
    recorded (IsKept c) made.TableGone (remove_answer (table_in c name)) r (λ id there. one_less c.tables (table_name c.tables id)) is
allowed_after c e sessions (definition.AlterTrigger name enabled) text r is =
    let key : ObjectKey = key_of kind.Trigger name in altered c e key enabled (visible c e key) r is
allowed_after c e sessions (definition.DropObject k name) text r is =
    chosen (IsKept c) (spec.gone_record e k name) (spec.is_object_of k (visible c e (key_of k name))) (spec.missing_code k) r (gone c e k name) is
allowed_after c e sessions (definition.CreateObject replace u) text r is = created c e replace u text (kind_of u) (name_of u) r is

-- so few columns that a record can count a row's values
pub narrow : (s : AllTables) → AreAllowed s → AreNarrow s.living
narrow s h = recursion_from_All IsNarrow s.living (All-weaker IsTable IsNarrow (λ t is. below (length t.columns) is.few) s.living h.each)
  where
    below : (n : ℕ) → n ≤ 64 → n < 2 ^ 16
    below n le = omega arith
