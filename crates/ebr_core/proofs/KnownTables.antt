-- The tables that the data has, and the living ones of the catalogue: both are read off the records.
use Rattle.std.proofs.Common.{◌≡◌, ◌==◌, ℕ, suc, ◌≤◌, ◌+◌, length, Bool, true, false, cond, ◌||◌, not, List, [], ◌∷◌, ◌++◌, refl, sym, ap, ◌∙◌, subst, arith}
use Rattle.std.specs.Prelude.{Option, Some, None, option_map, unwrap_or, fold, find, All, if◌then◌else◌}
use Rattle.std.specs.Option.{option_or}
use Rattle.std.specs.List.{list_any, filter_map}
use Rattle.std.specs.Str.{bytes_eq}
use Rattle.std.proofs.lemmas.Bool.Decides.{nat_tests}
use Rattle.std.proofs.lemmas.List.{append_assoc, append-nil}
use Rattle.std.proofs.lemmas.List.Elements.{All-weaker, All-push, All-map, All-filter, All-nil, All-head, All-tail, filter_map-append}
use Rattle.std.proofs.lemmas.List.Folds.{list_any-append, find-append}
use Rattle.ebr_base.specs.declared.numbers.EditionNo.{EditionNo}
use Rattle.ebr_base.specs.declared.numbers.TableId.{TableId}
use Rattle.ebr_base.specs.declared.row.Change.{Change}
use Rattle.ebr_base.specs.declared.table.Column as column
use Rattle.ebr_base.specs.declared.table.TableDef.{TableDef}
use Rattle.ebr_ast.specs.declared.definition.Definition.{Definition}
use Rattle.ebr_ast.specs.declared.definition.Definition.TheVariants as definition
use Rattle.ebr_ast.specs.declared.definition.ObjectKind.{ObjectKind}
use Rattle.ebr_ast.specs.declared.unit.UnitTree.{UnitTree}
use Rattle.ebr_versions.specs.declared.table.Table.{Table as Added}
use Rattle.ebr_versions.specs.Data.{is_table}
use Rattle.ebr_versions.specs.Keys.{is_added, key_places}
use Rattle.ebr_tables.specs.Tables.{AllTables, next_id, widened}
use Rattle.ebr_tx.specs.Data.{Data}
use Rattle.ebr_tx.specs.Calls.{IsKnown}
use Rattle.ebr_dml.specs.Steps.{AreKnown}
use Rattle.ebr_cross.specs.declared.record.CatalogueRecord.{CatalogueRecord}
use Rattle.ebr_cross.specs.declared.record.CatalogueRecord.TheVariants as made
use Rattle.ebr_cross.specs.Catalogue.{Lists, first_lists}
use Rattle.ebr_cross.specs.Kinds.{kind_of, name_of}
use Rattle.ebr_cross.specs.Records.{table_name}
use Rattle.ebr_record.specs.declared.record.DroppedClass.{DroppedClass}
use Rattle.ebr_record.specs.declared.record.DroppedClass.TheVariants as dropped
use Rattle.ebr_script.specs.Pieces.{stored_definition}
use Rattle.ebr_record.specs.declared.record.Record.{Record}
use Rattle.ebr_record.specs.declared.record.Record.TheVariants as left
use Rattle.ebr_database.specs.Database.{Database, commit_in, tables_from, data_of}
use Rattle.ebr_core.specs.Records.{record_of, with_named, with_stored, after_record, catalogue_of}
use Rattle.ebr_core.specs.inside.Tables.{IsAddedWithKey, HasLiving, HasNextId, with_table_of}

-- ---- tables that were added

abbrev is_it : TableId → Added → Bool
is_it id x = is_table x.id id

abbrev numbered : ℕ → TableId
numbered n = record { 0 = n }

apart : (m n : ℕ) → m ≤ n → (m == suc n) ≡ false
apart m n le = grind (arith, nat_tests)

same : (n : ℕ) → (n == n) ≡ true
same n = grind (arith, nat_tests)

or_true : (b : Bool) → (b || true) ≡ true
or_true true = refl
or_true false = refl

-- the next id wasn't added
none_next : (added : List Added) (n : ℕ) → All (λ (x : Added). x.id.0 ≤ n) added → is_added added (numbered (suc n)) ≡ false
none_next [] n all = refl
none_next (x ∷ added) n all =
    ap (λ b. b || is_added added (numbered (suc n))) (apart x.id.0 n (All-head (λ (x : Added). x.id.0 ≤ n) x added all))
    ∙ none_next added n (All-tail (λ (x : Added). x.id.0 ≤ n) x added all)

none_found : (id : TableId) (added : List Added) → is_added added id ≡ false → find (is_it id) added ≡ None
none_found id [] is = refl
none_found id (x ∷ added) is = by (is_it id x) is (none_found id added)
  where
    by : (b : Bool) → (b || is_added added id) ≡ false → (is_added added id ≡ false → find (is_it id) added ≡ None) → cond b (Some x) (find (is_it id) added) ≡ None
    by true is rest = absurd cc
    by false is rest = rest is

still_found : (id : TableId) (added : List Added) (more : Option Added) → is_added added id ≡ true → option_or (find (is_it id) added) more ≡ find (is_it id) added
still_found id [] more is = absurd cc
still_found id (x ∷ added) more is = by (is_it id x) is (still_found id added more)
  where
    by : (b : Bool) → (b || is_added added id) ≡ true → (is_added added id ≡ true → option_or (find (is_it id) added) more ≡ find (is_it id) added)
        → option_or (cond b (Some x) (find (is_it id) added)) more ≡ cond b (Some x) (find (is_it id) added)
    by true is rest = refl
    by false is rest = rest is

abbrev key_found : Option Added → List ℕ
key_found o = unwrap_or (option_map (λ (x : Added). x.key) o) []

-- what was added stays so where one more is
known_still : (added : List Added) (x : Added) (t : TableDef) → IsAddedWithKey added t → IsAddedWithKey (added ++ x ∷ []) t
known_still added x t h = record {
  is = list_any-append (is_it t.id) added (x ∷ []) ∙ ap (λ b. b || list_any (is_it t.id) (x ∷ [])) h.is;
  key = ap key_found (find-append (is_it t.id) added (x ∷ []) ∙ still_found t.id added (find (is_it t.id) (x ∷ [])) h.is) ∙ h.key;
}

-- a table of the next id, with its key
known_next : (added : List Added) (n : ℕ) (t : TableDef) → All (λ (x : Added). x.id.0 ≤ n) added → t.id ≡ numbered (suc n)
    → IsAddedWithKey (added ++ record { id = numbered (suc n); key = t.key } ∷ []) t
known_next added n t all next = subst (λ id. IsAddedWithKey (added ++ x ∷ []) (record t { id = id })) (sym next) here
  where
    x : Added
    x = record { id = numbered (suc n); key = t.key }

    here : IsAddedWithKey (added ++ x ∷ []) (record t { id = numbered (suc n) })
    here = record {
      is = list_any-append (is_it x.id) added (x ∷ []) ∙ ap (λ b. list_any (is_it x.id) added || (b || false)) (same (suc n)) ∙ or_true (list_any (is_it x.id) added);
      key = ap key_found (
          find-append (is_it x.id) added (x ∷ [])
          ∙ ap (λ o. option_or o (find (is_it x.id) (x ∷ []))) (none_found x.id added (none_next added n all))
          ∙ ap (λ b. cond b (Some x) None) (same (suc n)));
    }

-- ---- what each record adds

abbrev adding : List Added → ℕ → Record → List Added
adding added n (left.Table name columns key) = added ++ record { id = numbered (suc n); key = key } ∷ []
adding added n r = added

named_same : (c : Lists) (e : EditionNo) (enabled : Bool) (text : List ℕ) (u : UnitTree) (k : Option ObjectKind) (name : Option (List ℕ)) → (with_named c e enabled text u k name).tables ≡ c.tables
named_same c e enabled text u (Some k) (Some name) = refl
named_same c e enabled text u (Some k) None = refl
named_same c e enabled text u None name = refl

stored_same : (c : Lists) (e : EditionNo) (enabled : Bool) (text : List ℕ) (d : Option Definition) → (with_stored c e enabled text d).tables ≡ c.tables
stored_same c e enabled text None = refl
stored_same c e enabled text (Some (definition.CreateObject replace u)) = named_same c e enabled text u (kind_of u) (name_of u)
stored_same c e enabled text (Some d) = refl

gone_same : (c : Lists) (e : EditionNo) (k : DroppedClass) (name : List ℕ) → (after_record c (left.Gone e k name)).tables ≡ c.tables
gone_same c e dropped.Unit name = refl
gone_same c e dropped.Body name = refl
gone_same c e dropped.Trigger name = refl
gone_same c e dropped.Package name = refl

-- what the rest adds behind a record
from_next : (added : List Added) (c : Lists) (r : Record) (rest : List Record)
    → adding added c.tables.made r ++ tables_from (after_record c r).tables.made rest ≡ added ++ tables_from c.tables.made (r ∷ rest)
from_next added c (left.Table name columns key) rest = append_assoc added (record { id = numbered (suc c.tables.made); key = key } ∷ []) (tables_from (suc c.tables.made) rest)
from_next added c (left.Object e enabled text) rest = ap (λ (s : AllTables). added ++ tables_from s.made rest) (stored_same c e enabled text (stored_definition text))
from_next added c (left.Gone e k name) rest = ap (λ (s : AllTables). added ++ tables_from s.made rest) (gone_same c e k name)
from_next added c r rest = refl

same_known : (added : List Added) (t u : TableDef) → t.id ≡ u.id → t.key ≡ u.key → IsAddedWithKey added u → IsAddedWithKey added t
same_known added t u id key h = record {
  is = ap (is_added added) id ∙ h.is;
  key = ap (key_places added) id ∙ h.key ∙ sym key;
}

widened_known : (added : List Added) (name : List ℕ) (column : column.Column) (t : TableDef) → IsAddedWithKey added t → IsAddedWithKey added (if bytes_eq name t.name then widened column t else t)
widened_known added name column t h = by (bytes_eq name t.name)
  where
    by : (b : Bool) → IsAddedWithKey added (if b then widened column t else t)
    by true = same_known added (widened column t) t refl refl h
    by false = h

living_after : (added : List Added) (c : Lists) (r : Record) → HasLiving added c.tables → HasLiving (adding added c.tables.made r) (after_record c r).tables
living_after added c (left.Table name columns key) h =
    let n = c.tables.made in
    let x : Added = record { id = numbered (suc n); key = key } in
    let t : TableDef = record { id = numbered (suc n); name = name; columns = columns; key = key } in
    record {
      numbers = All-push (λ (x : Added). x.id.0 ≤ suc n) added x (All-weaker (λ (x : Added). x.id.0 ≤ n) (λ (x : Added). x.id.0 ≤ suc n) (λ x le. omega arith) added h.numbers) (omega arith);
      each = All-push (IsAddedWithKey (added ++ x ∷ [])) c.tables.living t
          (All-weaker (IsAddedWithKey added) (IsAddedWithKey (added ++ x ∷ [])) (known_still added x) c.tables.living h.each)
          (known_next added n t h.numbers refl);
    }
living_after added c (left.Column id column) h =
    let name = table_name c.tables id in
    record {
      numbers = h.numbers;
      each = All-map (IsAddedWithKey added) (λ t. if bytes_eq name t.name then widened column t else t) c.tables.living
          (All-weaker (IsAddedWithKey added) (λ t. IsAddedWithKey added (if bytes_eq name t.name then widened column t else t)) (widened_known added name column) c.tables.living h.each);
    }
living_after added c (left.TableGone id) h =
    record {
      numbers = h.numbers;
      each = All-filter (λ t. not (bytes_eq (table_name c.tables id) t.name)) (IsAddedWithKey added) c.tables.living h.each;
    }
living_after added c (left.Object e enabled text) h = subst (HasLiving added) (sym (stored_same c e enabled text (stored_definition text))) h
living_after added c (left.Gone e k name) h = subst (HasLiving added) (sym (gone_same c e k name)) h
living_after added c r h = h

folded : (records : List Record) (c : Lists) (added : List Added) → HasLiving added c.tables → HasLiving (added ++ tables_from c.tables.made records) (fold after_record c records).tables
folded [] c added h = subst (λ l. HasLiving l c.tables) (sym (append-nil added)) h
folded (r ∷ records) c added h =
    subst (λ l. HasLiving l (fold after_record (after_record c r) records).tables) (from_next added c r records)
    (folded records (after_record c r) (adding added c.tables.made r) (living_after added c r h))

has_living : (records : List Record) → HasLiving (tables_from 0 records) (catalogue_of records).tables
has_living records = folded records first_lists [] (record { numbers = All-nil (λ (x : Added). x.id.0 ≤ 0); each = All-nil (IsAddedWithKey []) })

-- ---- how many were ever made

made_from : (records : List Record) (c : Lists) → (fold after_record c records).tables.made ≡ c.tables.made + length (tables_from c.tables.made records)
made_from [] c = omega arith
made_from (left.Table name columns key ∷ records) c =
    let with_one : Lists = after_record c (left.Table name columns key) in
    let rest : (fold after_record with_one records).tables.made ≡ suc c.tables.made + length (tables_from (suc c.tables.made) records) = made_from records with_one in
    omega (arith, rest)
made_from (left.Object e enabled text ∷ records) c =
    made_from records (after_record c (left.Object e enabled text)) ∙ ap (λ (s : AllTables). s.made + length (tables_from s.made records)) (stored_same c e enabled text (stored_definition text))
made_from (left.Gone e k name ∷ records) c =
    made_from records (after_record c (left.Gone e k name)) ∙ ap (λ (s : AllTables). s.made + length (tables_from s.made records)) (gone_same c e k name)
made_from (r ∷ records) c = made_from records (after_record c r)

-- The catalogue counts the tables that the data has.
pub made_is : (records : List Record) → (catalogue_of records).tables.made ≡ length (tables_from 0 records)
made_is records = let all : (catalogue_of records).tables.made ≡ 0 + length (tables_from 0 records) = made_from records first_lists in omega (arith, all)

-- ---- what the data knows

-- the living tables were added with their keys
pub known : (db : Database) → AreKnown (data_of db) (catalogue_of db.records).tables.living
known db =
    All-weaker (IsAddedWithKey (data_of db).tables) (IsKnown (data_of db)) (λ t h. record { added = h.is; key = h.key }) (catalogue_of db.records).tables.living
    (has_living db.records).each

-- the next table's id wasn't added
pub not_added : (db : Database) → is_added (data_of db).tables (next_id (catalogue_of db.records).tables) ≡ false
not_added db = none_next (data_of db).tables (catalogue_of db.records).tables.made (has_living db.records).numbers

-- so it is of a table that a definition makes
pub new_not_added : (db : Database) (d : TableDef) → HasNextId (catalogue_of db.records) (made.Table d) → is_added (data_of db).tables d.id ≡ false
new_not_added db d next = ap (is_added (data_of db).tables) next ∙ not_added db

last_one : (added : List Added) (c : Lists) (r : Record) → added ++ tables_from c.tables.made (r ∷ []) ≡ adding (added ++ []) c.tables.made r
last_one added c (left.Table name columns key) = ap (λ l. l ++ record { id = numbered (suc c.tables.made); key = key } ∷ []) (sym (append-nil added))
last_one added c r = refl

from_append : (records : List Record) (c : Lists) (added : List Added) (r : Record)
    → added ++ tables_from c.tables.made (records ++ r ∷ []) ≡ adding (added ++ tables_from c.tables.made records) (fold after_record c records).tables.made r
from_append [] c added r = last_one added c r
from_append (q ∷ records) c added r =
    sym (from_next added c q (records ++ r ∷ []))
    ∙ from_append records (after_record c q) (adding added c.tables.made q) r
    ∙ ap (λ l. adding l (fold after_record (after_record c q) records).tables.made r) (from_next added c q records)

-- one more record, whose table, if it makes one, has the next id
added_by : (db : Database) (r : CatalogueRecord) → HasNextId (catalogue_of db.records) r
    → adding (tables_from 0 db.records) (catalogue_of db.records).tables.made (record_of r) ≡ (with_table_of (data_of db) r).tables
added_by db (made.Table d) next = ap (λ id. tables_from 0 db.records ++ record { id = id; key = d.key } ∷ []) (sym next)
added_by db r next = refl

no_commit : (r : CatalogueRecord) → filter_map commit_in (record_of r ∷ []) ≡ []
no_commit (made.Edition name parent) = refl
no_commit r = refl

same_commits : (db : Database) (r : CatalogueRecord) → filter_map commit_in (db.records ++ record_of r ∷ []) ≡ (data_of db).commits
same_commits db r =
    filter_map-append commit_in db.records (record_of r ∷ [])
    ∙ ap (λ l. (data_of db).commits ++ l) (no_commit r)
    ∙ append-nil (data_of db).commits

live_of : (d : Data) (r : CatalogueRecord) → with_table_of d r ≡ record d { tables = (with_table_of d r).tables }
live_of d (made.Table t) = refl
live_of d r = refl

-- the data after a definition's record
pub data_after : (db : Database) (r : CatalogueRecord) → HasNextId (catalogue_of db.records) r
    → data_of (record db { records = db.records ++ record_of r ∷ [] }) ≡ with_table_of (data_of db) r
data_after db r next =
    let data_with : List (List Change) → List Added → Data = λ commits tables. record { commits = commits; tables = tables; live = db.live; locks = db.locks } in
    ap (λ commits. data_with commits (tables_from 0 (db.records ++ record_of r ∷ []))) (same_commits db r)
    ∙ ap (data_with (data_of db).commits) (from_append db.records first_lists [] (record_of r) ∙ added_by db r next)
    ∙ sym (live_of (data_of db) r)
