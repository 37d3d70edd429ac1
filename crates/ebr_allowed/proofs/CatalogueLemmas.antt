-- What holds of the editions and tables of allowed records.
use Rattle.std.proofs.Common.{◌≡◌, ◌≢◌, ℕ, Bool, true, false, ◌&&◌, not, List, [], ◌∷◌, ◌++◌, map, refl, sym, ap, subst, ◌∙◌, append-nil, append_assoc, arith}
use Rattle.std.specs.Prelude.{Option, Some, None, if◌then◌else◌, is_some, slice_get}
use Rattle.std.specs.List.{filter_map, list_all}
use Rattle.std.specs.Str.{bytes_eq}
use Rattle.std.proofs.lemmas.Bool.{and_parts, both_ways, eq-eqb}
use Rattle.std.proofs.lemmas.Cmp.{nat_list_eq_equiv}
use Rattle.ebr_base.specs.declared.code.Code.{Code}
use Rattle.ebr_base.specs.declared.numbers.EditionNo.{EditionNo}
use Rattle.ebr_base.specs.declared.row.Change.{Change}
use Rattle.ebr_base.specs.declared.table.Column as column
use Rattle.ebr_base.specs.declared.table.TableDef.{TableDef}
use Rattle.ebr_base.specs.Keys.{table_named}
use Rattle.ebr_ast.specs.declared.definition.Definition.{Definition}
use Rattle.ebr_ast.specs.declared.definition.Definition.TheVariants as definition
use Rattle.ebr_ast.specs.declared.definition.ObjectKind.{ObjectKind}
use Rattle.ebr_ast.specs.declared.unit.UnitTree.{UnitTree}
use Rattle.ebr_versions.specs.declared.table.Table.{Table as Added}
use Rattle.ebr_editions.specs.declared.entry.EditionEntry.{EditionEntry}
use Rattle.ebr_editions.specs.Editions.{Editions, IsNumberedFrom, child_of, edition_of, gone, is_edition, is_living, living_entry, new_edition}
use Rattle.ebr_editions.proofs.Line.{edition_of-gone, numbered-gone, numbered-push}
use Rattle.ebr_editions.proofs.Lists.{find-append}
use Rattle.ebr_tables.specs.Definitions.{has_repetition}
use Rattle.ebr_tables.specs.Tables.{AllTables, IdsAscend, create_refusal, is_not_null, next_id, same_table_name, widened}
use Rattle.ebr_tables.proofs.Names.{ascend-filter, ascend-map, ascend-push, distinct-filter, distinct-map, has, none-any, once-push}
use Rattle.ebr_cross.specs.Catalogue.{Lists, first_lists}
use Rattle.ebr_cross.specs.Kinds.{kind_of, name_of}
use Rattle.ebr_cross.specs.Records.{table_name}
use Rattle.ebr_script.specs.Pieces.{stored_definition}
use Rattle.ebr_record.specs.declared.record.DroppedClass.{DroppedClass}
use Rattle.ebr_record.specs.declared.record.DroppedClass.TheVariants as dropped
use Rattle.ebr_record.specs.declared.record.Record.{Record}
use Rattle.ebr_record.specs.declared.record.Record.TheVariants as left
use Rattle.ebr_database.specs.Database.{commit_in, tables_from}
use Rattle.ebr_core.specs.Records.{after_record, catalogue_of, with_named, with_stored}
use Rattle.ebr_allowed.specs.Allowed.{AllowedBehind, AllowedIn, AreAllowed}
use Rattle.ebr_allowed.proofs.RecordLemmas.{catalogue_more}

-- Editions are numbered in order, and the default one lives; no two living tables share a name, and their ids ascend.
pub record Stands (c : Editions) (s : AllTables) : Type 0 where
  pub numbered : IsNumberedFrom 0 c.made
  pub first : is_living c.made c.default ≡ true
  pub names : has_repetition same_table_name s.living ≡ false
  pub ids : IdsAscend 0 s.made s.living

abbrev pub CatalogueStands : Lists → Type 0
CatalogueStands c = Stands c.editions c.tables

stands_first : CatalogueStands first_lists
stands_first = record { numbered = (refl, tt); first = refl; names = refl; ids = tt }

-- ---- editions

pub living_more : (made more : List EditionEntry) (e : EditionNo) → is_living made e ≡ true → is_living (made ++ more) e ≡ true
living_more made more e lives = by (edition_of made e) refl lives
  where
    by : (o : Option EditionEntry) → edition_of made e ≡ o → living_entry o ≡ true → is_living (made ++ more) e ≡ true
    by None is h = absurd (both_ways false refl h)
    by (Some x) is h = ap living_entry (find-append (λ (y : EditionEntry). is_edition y.number e) made more x is) ∙ h

pub still_living : (e d : EditionNo) (made : List EditionEntry) → d ≢ e → is_living made d ≡ true → is_living (map (gone e) made) d ≡ true
still_living e d made other lives = ap living_entry (edition_of-gone e d made other) ∙ lives

not_true : (b : Bool) → not b ≡ true → b ≡ false
not_true true h = absurd (both_ways false refl h)
not_true false h = refl

pub not_default : (c : Editions) (e : EditionNo) → is_edition e c.default ≡ false → c.default ≢ e
not_default c e h same = both_ways (is_edition e c.default) h (ap (is_edition e) same ∙ eq-eqb e.0 e.0 refl)

-- ---- tables

same_beside : (name : List ℕ) (c : column.Column) (t : TableDef) → let now = if bytes_eq name t.name then widened c t else t in (now.name ≡ t.name) × (now.id ≡ t.id)
same_beside name c t = by (bytes_eq name t.name)
  where
    by : (b : Bool) → let now = if b then widened c t else t in (now.name ≡ t.name) × (now.id ≡ t.id)
    by true = (refl, refl)
    by false = (refl, refl)

none_refused : (o : Option Code) → not (is_some o) ≡ true → o ≡ None
none_refused None h = refl
none_refused (Some code) h = absurd (both_ways false refl h)

first_passed : (b : Bool) (code : Code) (rest : Option Code) → (if b then Some code else rest) ≡ None → b ≡ false
first_passed true code rest e = absurd cc
first_passed false code rest e = refl

none_there : (o : Option TableDef) → is_some o ≡ false → o ≡ None
none_there None is = refl
none_there (Some t) is = absurd cc

-- ---- what a record leaves

named_alike : (c : Lists) (e : EditionNo) (enabled : Bool) (text : List ℕ) (u : UnitTree) (k : Option ObjectKind) (name : Option (List ℕ)) → CatalogueStands c → CatalogueStands (with_named c e enabled text u k name)
named_alike c e enabled text u (Some k) (Some name) h = h
named_alike c e enabled text u (Some k) None h = h
named_alike c e enabled text u None name h = h

stored_alike : (c : Lists) (e : EditionNo) (enabled : Bool) (text : List ℕ) (d : Option Definition) → CatalogueStands c → CatalogueStands (with_stored c e enabled text d)
stored_alike c e enabled text None h = h
stored_alike c e enabled text (Some (definition.CreateObject replace u)) h = named_alike c e enabled text u (kind_of u) (name_of u) h
stored_alike c e enabled text (Some d) h = h

gone_alike : (c : Lists) (e : EditionNo) (k : DroppedClass) (name : List ℕ) → CatalogueStands c → CatalogueStands (after_record c (left.Gone e k name))
gone_alike c e dropped.Unit name h = h
gone_alike c e dropped.Body name h = h
gone_alike c e dropped.Trigger name h = h
gone_alike c e dropped.Package name h = h

pub stands_after : (c : Lists) (tables : List Added) (commits : List (List Change)) (r : Record) → AllowedIn c tables commits r → CatalogueStands c → CatalogueStands (after_record c r)
stands_after c tables commits (left.Commit changes) a h = h
stands_after c tables commits (left.Edition name parent) a h = record {
  numbered = numbered-push 0 c.editions.made (new_edition c.editions.made name (Some parent)) h.numbered (omega arith);
  first = living_more c.editions.made (new_edition c.editions.made name (Some parent) ∷ []) c.editions.default h.first;
  names = h.names;
  ids = h.ids;
}
stands_after c tables commits (left.EditionGone e) a h =
    let parts = and_parts (is_living c.editions.made e && not (is_some (child_of c.editions.made e))) (not (is_edition e c.editions.default)) a in
    record {
      numbered = numbered-gone 0 e c.editions.made h.numbered;
      first = still_living e c.editions.default c.editions.made (not_default c.editions e (not_true (is_edition e c.editions.default) parts.1)) h.first;
      names = h.names;
      ids = h.ids;
    }
stands_after c tables commits (left.Default e) a h = record { numbered = h.numbered; first = a; names = h.names; ids = h.ids }
stands_after c tables commits (left.Object e enabled text) a h = stored_alike c e enabled text (stored_definition text) h
stands_after c tables commits (left.Gone e k name) a h = gone_alike c e k name h
stands_after c tables commits (left.Table name columns key) a h =
    let t : TableDef = record { id = next_id c.tables; name = name; columns = columns; key = key } in
    let parts = and_parts (not (is_some (create_refusal c.tables t))) (list_all (λ place. is_not_null (slice_get columns place)) key) a in
    let none : table_named name c.tables.living ≡ None = none_there (table_named name c.tables.living) (first_passed (is_some (table_named name c.tables.living)) _ _ (none_refused (create_refusal c.tables t) parts.0)) in
    record {
      numbered = h.numbered;
      first = h.first;
      names = once-push same_table_name (λ a b. nat_list_eq_equiv.symm a.name b.name) t c.tables.living h.names (none-any name c.tables.living none);
      ids = ascend-push c.tables.made t 0 c.tables.living refl (omega arith) h.ids;
    }
stands_after c tables commits (left.Column id new) a h = record {
  numbered = h.numbered;
  first = h.first;
  names = distinct-map (λ t. if bytes_eq (table_name c.tables id) t.name then widened new t else t) c.tables.living (λ t. (same_beside (table_name c.tables id) new t).0) ∙ h.names;
  ids = ascend-map c.tables.made (λ t. if bytes_eq (table_name c.tables id) t.name then widened new t else t) 0 c.tables.living (λ t. (same_beside (table_name c.tables id) new t).1) h.ids;
}
stands_after c tables commits (left.TableGone id) a h = record {
  numbered = h.numbered;
  first = h.first;
  names = distinct-filter (λ t. not (has (table_name c.tables id) t)) c.tables.living h.names;
  ids = ascend-filter c.tables.made (λ t. not (has (table_name c.tables id) t)) 0 c.tables.living h.ids;
}

stands_behind : (before records : List Record) → AllowedBehind before records → CatalogueStands (catalogue_of before) → CatalogueStands (catalogue_of (before ++ records))
stands_behind before [] a h = subst (λ (rs : List Record). CatalogueStands (catalogue_of rs)) (sym (append-nil before)) h
stands_behind before (r ∷ rest) a h =
    subst (λ (rs : List Record). CatalogueStands (catalogue_of rs)) (append_assoc before (r ∷ []) rest)
    (stands_behind (before ++ r ∷ []) rest a.1
    (subst CatalogueStands (sym (catalogue_more before r)) (stands_after (catalogue_of before) (tables_from 0 before) (filter_map commit_in before) r a.0 h)))

-- the catalogue of allowed records
pub catalogue_stands : (records : List Record) → AreAllowed records → CatalogueStands (catalogue_of records)
catalogue_stands records a = stands_behind [] records a stands_first
