-- What a definition makes is allowed.
use Rattle.std.proofs.Common.{◌≡◌, ℕ, suc, ◌≤◌, Bool, true, false, cond, ◌&&◌, not, List, [], ◌∷◌, ◌++◌, length, refl, sym, ap, subst, ◌∙◌, arith}
use Rattle.std.specs.Prelude.{Option, Some, None, Result, Ok, Err, find, fold, if◌then◌else◌, is_some, nat_le, nat_lt, option_map, slice_get, unwrap_or}
use Rattle.std.specs.List.{AllByRecursion, list_all, list_any}
use Rattle.std.specs.Str.{bytes_eq}
use Rattle.std.proofs.lemmas.Bool.{and_from, both_ways, or_parts}
use Rattle.std.proofs.lemmas.Bool.Decides.{nat_tests}
use Rattle.std.proofs.lemmas.Option.{same_Some}
use Rattle.std.proofs.lemmas.List.Elements.{recursion_from_All}
use Rattle.ebr_base.specs.declared.code.Code.{Code}
use Rattle.ebr_base.specs.declared.code.Code.TheVariants.{Ebr, Ora}
use Rattle.ebr_base.specs.declared.numbers.EditionNo.{EditionNo}
use Rattle.ebr_base.specs.declared.numbers.TableId.{TableId}
use Rattle.ebr_base.specs.declared.object.ObjectKey.{ObjectKey}
use Rattle.ebr_base.specs.declared.table.Column as column
use Rattle.ebr_base.specs.declared.table.TableDef.{TableDef}
use Rattle.ebr_base.specs.declared.value.ColType.{ColType}
use Rattle.ebr_base.specs.Keys.{table_named}
use Rattle.ebr_ast.specs.declared.definition.ColumnTree.{ColumnTree}
use Rattle.ebr_ast.specs.declared.definition.Definition.{Definition}
use Rattle.ebr_ast.specs.declared.definition.Definition.TheVariants as definition
use Rattle.ebr_ast.specs.declared.definition.ObjectKind.{ObjectKind}
use Rattle.ebr_ast.specs.declared.definition.ObjectKind.TheVariants as kind
use Rattle.ebr_ast.specs.declared.unit.UnitTree.{UnitTree}
use Rattle.ebr_ast.specs.declared.unit.UnitTree.TheVariants as unit
use Rattle.ebr_ast.specs.declared.view.Object.{Object}
use Rattle.ebr_editions.specs.declared.entry.EditionEntry.{EditionEntry}
use Rattle.ebr_editions.specs.Editions.{child_of, create_answer, create_below, drop_answer, drop_named, edition_named, edition_of, first_edition, is_edition, is_living, leaf, living, living_entry, max_editions, named_parent}
use Rattle.ebr_editions.proofs.Line.{IsFound, each-found, edition_of-living, found-lives}
use Rattle.ebr_editions.proofs.Lists.{each-find}
use Rattle.ebr_tables.specs.Tables.{IsTable, add_answer, add_refusal, create_refusal, first_refusal, has_id, is_not_null, kept_as, next_id, remove_answer, unless_refused}
use Rattle.ebr_tables.proofs.Allowed.{kept-is}
use Rattle.ebr_columns.specs.Columns.{column_of, column_type, is_bad_table, table_of}
use Rattle.ebr_columns.proofs.TableTrees.{allowed, length-same}
use Rattle.ebr_cross.specs.declared.record.CatalogueRecord.{CatalogueRecord}
use Rattle.ebr_cross.specs.declared.record.CatalogueRecord.TheVariants as made
use Rattle.ebr_cross.specs.Catalogue.{Lists, table_in, visible}
use Rattle.ebr_cross.specs.Definitions as spec
use Rattle.ebr_cross.specs.Kinds.{class_of, is_kind, key_of, kind_of, name_of, same_kind}
use Rattle.ebr_script.specs.Pieces.{CreatesObject, stored_definition}
use Rattle.ebr_core.specs.Records.{record_of}
use Rattle.ebr_core.specs.inside.Stored.{AreSpelled, IsSpelled, SpellsObject}
use Rattle.ebr_core.proofs.ReadsBack.{recorded, unless}
use Rattle.ebr_core.proofs.Spellings.{visible-of}
use Rattle.ebr_allowed.specs.Allowed.{allows, is_package, may_be_enabled, may_put, may_store}
use Rattle.ebr_allowed.proofs.CatalogueLemmas.{CatalogueStands}
use Rattle.ebr_allowed.proofs.TableLemmas.{found_by_id}

-- ---- answers and refusals

module _ (P : CatalogueRecord → Type 0) where
  pub chosen : (x : CatalogueRecord) (b : Bool) (code : Code) (r : CatalogueRecord) → (b ≡ true → P x) → (if b then Ok x else Err code) ≡ Ok r → P r
  chosen x true code r here is = unless P x None r (λ e. here refl) is
  chosen x false code r here is = cc

pub passed : (b : Bool) (code : Code) (rest : Option Code) → (if b then Some code else rest) ≡ None → (b ≡ false) × (rest ≡ None)
passed true code rest e = absurd cc
passed false code rest e = (refl, e)

last_passed : (xs : List (Bool × Code)) (b : Bool) (code : Code) → first_refusal (xs ++ (b, code) ∷ []) ≡ None → b ≡ false
last_passed [] b code e = (passed b code None e).0
last_passed (x ∷ xs) b code e = last_passed xs b code (passed x.0 x.1 (first_refusal (xs ++ (b, code) ∷ [])) e).1

under : (m n : ℕ) → nat_le m n ≡ false → nat_lt n m ≡ true
under m n h = grind (arith, nat_tests)

no_more : (m n : ℕ) → n ≤ m → nat_lt m n ≡ false
no_more m n h = grind (arith, nat_tests)

at_most : (m n : ℕ) → nat_lt m n ≡ false → n ≤ m
at_most m n h = grind (arith, nat_tests)

-- ---- editions

module _ (c : Lists) (h : CatalogueStands c) where
  abbrev es : List EditionEntry
  es = c.editions.made

  each : AllByRecursion (IsFound 0 es) (living es)
  each = each-found 0 es h.numbered

  named_lives : (name : List ℕ) (e : EditionNo) → edition_named es name ≡ Some e → is_living es e ≡ true
  named_lives name e is = by (find (λ (x : EditionEntry). bytes_eq name x.name) (living es)) refl is
    where
      by : (o : Option EditionEntry) → find (λ (x : EditionEntry). bytes_eq name x.name) (living es) ≡ o → option_map (λ (x : EditionEntry). x.number) o ≡ Some e → is_living es e ≡ true
      by None at k = cc
      by (Some x) at k = subst (λ d. is_living es d ≡ true) (same_Some x.number e k) (found-lives (each-find (IsFound 0 es) (λ (x : EditionEntry). bytes_eq name x.name) (living es) x each at))

  last_lives : (xs : List EditionEntry) → AllByRecursion (IsFound 0 es) xs → (d : EditionNo) → is_living es d ≡ true → is_living es (fold (λ e (x : EditionEntry). x.number) d xs) ≡ true
  last_lives [] all d k = k
  last_lives (x ∷ xs) all d k = last_lives xs all.1 x.number (found-lives all.0)

  leaf_lives : is_living es (leaf es) ≡ true
  leaf_lives = by (living es) each some_lives
    where
      some_lives : (x : EditionEntry) × (edition_of (living es) c.editions.default ≡ Some x)
      some_lives = one (edition_of es c.editions.default) refl h.first
        where
          one : (o : Option EditionEntry) → edition_of es c.editions.default ≡ o → living_entry o ≡ true → (x : EditionEntry) × (edition_of (living es) c.editions.default ≡ Some x)
          one None at k = absurd (both_ways false refl k)
          one (Some x) at k = (x, edition_of-living es c.editions.default x at k)

      by : (xs : List EditionEntry) → AllByRecursion (IsFound 0 es) xs → (x : EditionEntry) × (edition_of xs c.editions.default ≡ Some x) → is_living es (fold (λ e (y : EditionEntry). y.number) first_edition xs) ≡ true
      by [] all there = absurd (none there.0 there.1)
        where
          none : (x : EditionEntry) → None ≡ Some x → ⊥
          none x k = cc
      by (y ∷ ys) all there = last_lives ys all.1 y.number (found-lives all.0)

  parent_lives : (parent : Option (List ℕ)) (p : EditionNo) → named_parent es parent ≡ Some p → is_living es p ≡ true
  parent_lives None p is = subst (λ d. is_living es d ≡ true) (same_Some (leaf es) p is) leaf_lives
  parent_lives (Some name) p is = named_lives name p is

  abbrev Fine : CatalogueRecord → Type 0
  Fine r = allows c (record_of r) ≡ true

  created_edition : (name : List ℕ) (np : Option EditionNo) (e : EditionNo) → ((p : EditionNo) → np ≡ Some p → is_living es p ≡ true) → (if is_some (edition_named es name) then Err (Ebr 31) else create_below es np) ≡ Ok e
      → Fine (made.Edition name (unwrap_or np first_edition))
  created_edition name np e lives is = by (is_some (edition_named es name)) refl is
    where
      no : (code : Code) → Err code ≡ Ok e → ⊥
      no code k = cc

      below : (np : Option EditionNo) → ((p : EditionNo) → np ≡ Some p → is_living es p ≡ true) → is_some (edition_named es name) ≡ false → create_below es np ≡ Ok e → Fine (made.Edition name (unwrap_or np first_edition))
      below None lives new k = absurd (no (Ora 38802) k)
      below (Some p) lives new k = two (is_some (child_of es p)) (nat_le max_editions (length (living es))) refl refl k
        where
          two : (a b : Bool) → is_some (child_of es p) ≡ a → nat_le max_editions (length (living es)) ≡ b → (if a then Err (Ebr 30) else if b then Err (Ebr 35) else Ok (record { 0 = suc (length es) })) ≡ Ok e → Fine (made.Edition name p)
          two true b x y k = absurd (no (Ebr 30) k)
          two false true x y k = absurd (no (Ebr 35) k)
          two false false x y k =
              and_from (not (is_some (edition_named es name)) && is_living es p && not (is_some (child_of es p))) (nat_lt (length (living es)) max_editions)
              (and_from (not (is_some (edition_named es name)) && is_living es p) (not (is_some (child_of es p)))
              (and_from (not (is_some (edition_named es name))) (is_living es p) (ap not new) (lives p refl)) (ap not x))
              (under max_editions (length (living es)) y)

      by : (b : Bool) → is_some (edition_named es name) ≡ b → (if b then Err (Ebr 31) else create_below es np) ≡ Ok e → Fine (made.Edition name (unwrap_or np first_edition))
      by true at k = absurd (no (Ebr 31) k)
      by false at k = below np lives at k

  -- an edition that is dropped, and that no session is in it
  dropped_named : (name : List ℕ) (np : Option EditionNo) (e : EditionNo) → edition_named es name ≡ np → drop_named es np ≡ Ok e → (is_living es e ≡ true) × (not (is_some (child_of es e)) ≡ true)
  dropped_named name None e at is = absurd (no is)
    where
      no : Err (Ora 38802) ≡ Ok e → ⊥
      no k = cc
  dropped_named name (Some d) e at is = by (is_some (child_of es d)) refl is
    where
      no : Err (Ebr 32) ≡ Ok e → ⊥
      no k = cc

      edition_or : Result EditionNo Code → EditionNo
      edition_or (Ok x) = x
      edition_or (Err code) = e

      by : (b : Bool) → is_some (child_of es d) ≡ b → (if b then Err (Ebr 32) else Ok d) ≡ Ok e → (is_living es e ≡ true) × (not (is_some (child_of es e)) ≡ true)
      by true x k = absurd (no k)
      by false x k =
          let same : d ≡ e = same_edition k in
          (subst (λ y. is_living es y ≡ true) same (named_lives name d at), subst (λ y. not (is_some (child_of es y)) ≡ true) same (ap not x))
        where
          same_edition : ◌≡◌ {A = Result EditionNo Code} (Ok d) (Ok e) → d ≡ e
          same_edition k = cc

  dropped_edition : (sessions : List EditionNo) (name : List ℕ) (cascade : Bool) (o : Result EditionNo Code) (r : CatalogueRecord) → drop_answer es name ≡ o → spec.dropped_edition c sessions cascade o ≡ Ok r → Fine r
  dropped_edition sessions name cascade (Ok e) r at is =
      unless Fine (made.EditionGone e) (spec.drop_refusal c sessions cascade e) r (λ none.
      let parts = dropped_named name (edition_named es name) e refl at in
      let unused = passed (spec.is_in_use c sessions e) (Ebr 33) (first_refusal ((not cascade && spec.has_objects c e, Ora 38811) ∷ [])) none in
      let other = or_parts (is_edition e c.editions.default) (list_any (is_edition e) sessions) unused.0 in
      and_from (is_living es e && not (is_some (child_of es e))) (not (is_edition e c.editions.default)) (and_from (is_living es e) (not (is_some (child_of es e))) parts.0 parts.1) (ap not other.0)) is
  dropped_edition sessions name cascade (Err code) r at is = absurd (no is)
    where
      no : Err code ≡ Ok r → ⊥
      no k = cc

  set_lives : (name : List ℕ) (np : Option EditionNo) (e : EditionNo) → edition_named es name ≡ np → spec.found_edition np ≡ Ok e → is_living es e ≡ true
  set_lives name None e at is = absurd (no is)
    where
      no : Err (Ora 38802) ≡ Ok e → ⊥
      no k = cc
  set_lives name (Some d) e at is = subst (λ y. is_living es y ≡ true) (same_edition is) (named_lives name d at)
    where
      same_edition : ◌≡◌ {A = Result EditionNo Code} (Ok d) (Ok e) → d ≡ e
      same_edition k = cc

  pub edition_set_lives : (name : List ℕ) (e : EditionNo) → spec.set_edition es name ≡ Ok e → is_living es e ≡ true
  edition_set_lives name e is = set_lives name (edition_named es name) e refl is

  -- ---- tables

  all_places : (columns : List column.Column) (key : List ℕ) → AllByRecursion (λ place. is_not_null (slice_get columns place) ≡ true) key → list_all (λ place. is_not_null (slice_get columns place)) key ≡ true
  all_places columns [] all = refl
  all_places columns (p ∷ key) all = and_from (is_not_null (slice_get columns p)) (list_all (λ place. is_not_null (slice_get columns place)) key) all.0 (all_places columns key all.1)

  named_so : (name : List ℕ) (columns : List ColumnTree) (key : List (List ℕ)) → (table_of name columns key).name ≡ name
  unfolding table_of
  named_so name columns key = refl

  few_columns : (name : List ℕ) (columns : List ColumnTree) (key : List (List ℕ)) → length columns ≤ 64 → length (table_of name columns key).columns ≤ 64
  unfolding table_of
  few_columns name columns key few = subst (λ n. n ≤ 64) (sym (length-same column_of columns)) few

  made_table : (e : EditionNo) (name : List ℕ) (columns : List ColumnTree) (key : List (List ℕ)) → spec.table_refusal c e name columns key ≡ None → Fine (made.Table (kept_as (next_id c.tables) (table_of name columns key)))
  made_table e name columns key none =
      let d0 : TableDef = table_of name columns key in
      let d : TableDef = kept_as (next_id c.tables) d0 in
      let taken = passed (spec.is_taken c e name) _ _ none in
      let bad = passed (is_bad_table columns key) _ _ taken.1 in
      let wide = passed (nat_lt 64 (length columns)) _ _ bad.1 in
      let many = passed (nat_le 1000 (length c.tables.living)) _ _ wide.1 in
      let is : IsTable d = kept-is (next_id c.tables) d0 (allowed name columns key bad.0) (few_columns name columns key (at_most 64 (length columns) wide.0)) in
      let new : is_some (table_named d.name c.tables.living) ≡ false = ap (λ n. is_some (table_named n c.tables.living)) (named_so name columns key) ∙ (or_parts (is_some (table_in c name)) _ taken.0).0 in
      let unrefused : create_refusal c.tables d ≡ None =
      (λ i. first_refusal ((new i, Ora 955) ∷ (is.allowed i, Ebr 29) ∷ (no_more 64 (length d.columns) is.few i, Ebr 36) ∷ (many.0 i, Ebr 37) ∷ [])) in
      and_from (not (is_some (create_refusal c.tables d))) (list_all (λ place. is_not_null (slice_get d.columns place)) d.key) (ap (λ o. not (is_some o)) unrefused)
      (all_places d.columns d.key (recursion_from_All (λ place. is_not_null (slice_get d.columns place) ≡ true) d.key is.key))

  abbrev Finds : TableDef → Type 0
  Finds t = find (has_id t.id) c.tables.living ≡ Some t

  named_found : (name : List ℕ) (ts : List TableDef) (t : TableDef) → AllByRecursion Finds ts → table_named name ts ≡ Some t → Finds t
  named_found name [] t all is = cc
  named_found name (u ∷ ts) t all is = by (bytes_eq name u.name) is (named_found name ts t all.1)
    where
      by : (b : Bool) → cond b (Some u) (table_named name ts) ≡ Some t → (table_named name ts ≡ Some t → Finds t) → Finds t
      by true k rest = subst Finds (same_Some u t k) all.0
      by false k rest = rest k

  in_finds : (name : List ℕ) (t : TableDef) → table_in c name ≡ Some t → Finds t
  in_finds name t is = named_found name c.tables.living t (recursion_from_All Finds c.tables.living (found_by_id 0 c.tables.made c.tables.living h.ids)) is

  unrefused : (o : Option Code) (u : Unit {0}) → unless_refused o tt ≡ Ok u → o ≡ None
  unrefused None u is = refl
  unrefused (Some code) u is = absurd (no is)
    where
      no : Err code ≡ Ok u → ⊥
      no k = cc

  wider : (table name : List ℕ) (ty : ColType) (t : Option TableDef) (u : Unit {0}) → table_in c table ≡ t → add_answer t (spec.new_column name ty) ≡ Ok u → Fine (made.Column (spec.id_of t) (spec.new_column name ty))
  wider table name ty None u at is = absurd (no is)
    where
      no : Err (Ora 942) ≡ Ok u → ⊥
      no k = cc
  wider table name ty (Some t) u at is =
      let none : add_refusal (Some t) (spec.new_column name ty) ≡ None = unrefused (add_refusal (Some t) (spec.new_column name ty)) u is in
      and_from (not (is_some (add_refusal (find (has_id t.id) c.tables.living) (spec.new_column name ty)))) true (ap (λ o. not (is_some (add_refusal o (spec.new_column name ty)))) (in_finds table t at) ∙ ap (λ o. not (is_some o)) none) refl

  added : (table name : List ℕ) (ty : Option ColType) (r : CatalogueRecord) → spec.added_column (table_in c table) name ty ≡ Ok r → Fine r
  added table name (Some ty) r is =
      recorded Fine (λ u. made.Column (spec.id_of (table_in c table)) (spec.new_column name ty)) (add_answer (table_in c table) (spec.new_column name ty)) r (λ u there. wider table name ty (table_in c table) u refl there) is
  added table name None r is = refused (table_in c table) is
    where
      refused : (t : Option TableDef) → spec.added_column t name None ≡ Ok r → Fine r
      refused None k = absurd (no (Ora 942) k)
        where
          no : (code : Code) → Err code ≡ Ok r → ⊥
          no code k = cc
      refused (Some t) k = absurd (no (Ebr 29) k)
        where
          no : (code : Code) → Err code ≡ Ok r → ⊥
          no code k = cc

  removed : (name : List ℕ) (t : Option TableDef) (id : TableId) → table_in c name ≡ t → remove_answer t ≡ Ok id → Fine (made.TableGone id)
  removed name None id at is = absurd (no is)
    where
      no : Err (Ora 942) ≡ Ok id → ⊥
      no k = cc
  removed name (Some t) id at is = subst (λ i. is_some (find (has_id i) c.tables.living) ≡ true) (same_id is) (ap (λ o. is_some o) (in_finds name t at))
    where
      same_id : ◌≡◌ {A = Result TableId Code} (Ok t.id) (Ok id) → t.id ≡ id
      same_id k = cc

  -- ---- objects

  module _ (e : EditionNo) (lives : is_living es e ≡ true) where
    put : (enabled : Bool) (text : List ℕ) (u : UnitTree) (replace : Bool) (k : ObjectKind) (name : List ℕ) → stored_definition text ≡ Some (definition.CreateObject replace u) → kind_of u ≡ Some k → name_of u ≡ Some name
        → may_be_enabled k enabled ≡ true → spec.is_full c e (key_of k name) (spec.object_of c e (key_of k name) text u enabled) ≡ false → Fine (made.Object (spec.object_of c e (key_of k name) text u enabled))
    put enabled text u replace k name spells kind_is name_is may room =
        and_from (is_living es e) (may_store c e enabled text (stored_definition text)) lives
        (ap (may_store c e enabled text) spells ∙ (λ i. may_put c e enabled text u (kind_is i) (name_is i))
        ∙ and_from (may_be_enabled k enabled) (not (spec.is_full c e (key_of k name) (spec.object_of c e (key_of k name) text u enabled))) may (ap not room))

    always : (k : ObjectKind) → may_be_enabled k true ≡ true
    always kind.Trigger = refl
    always k = refl

    enabled_so : (u : UnitTree) (k : ObjectKind) → kind_of u ≡ Some k → may_be_enabled k (spec.is_enabled u) ≡ true
    enabled_so (unit.Trigger t) k is = ap (λ j. may_be_enabled j t.enabled) (sym (same_Some kind.Trigger k is))
    enabled_so u k is = always k

    created : (replace : Bool) (u : UnitTree) (text : List ℕ) (k : Option ObjectKind) (name : Option (List ℕ)) (r : CatalogueRecord) → stored_definition text ≡ Some (definition.CreateObject replace u) → kind_of u ≡ k → name_of u ≡ name
        → spec.object_named c e replace u text k name ≡ Ok r → Fine r
    created replace u text (Some k) (Some name) r spells kind_is name_is is =
        let new : Object = spec.object_of c e (key_of k name) text u (spec.is_enabled u) in
        unless Fine (made.Object new) (first_refusal (spec.object_refusals c e replace k (key_of k name) u new)) r (λ none.
        put (spec.is_enabled u) text u replace k name spells kind_is name_is (enabled_so u k kind_is)
        (last_passed (spec.name_refusals c e replace k (key_of k name) ++ spec.tree_refusals c e (key_of k name) u) (spec.is_full c e (key_of k name) new) (Ebr 34) none)) is
    created replace u text (Some k) None r spells kind_is name_is is = absurd (no is)
      where
        no : Err (Ora 900) ≡ Ok r → ⊥
        no k = cc
    created replace u text None name r spells kind_is name_is is = absurd (no is)
      where
        no : Err (Ora 900) ≡ Ok r → ⊥
        no k = cc

    -- the kind of a trigger's key
    is_trigger : (k : ObjectKind) (enabled : Bool) → class_of kind.Trigger ≡ class_of k → may_be_enabled k enabled ≡ true
    is_trigger kind.Trigger enabled same = refl
    is_trigger kind.Procedure enabled same = cc
    is_trigger kind.Function enabled same = cc
    is_trigger kind.Package enabled same = cc
    is_trigger kind.PackageBody enabled same = cc
    is_trigger kind.View enabled same = cc

    altered : (name : List ℕ) (enabled : Bool) (o : Option Object) (r : CatalogueRecord) → ((p : Object) → o ≡ Some p → SpellsObject (key_of kind.Trigger name) p.text p.tree) → spec.altered c e (key_of kind.Trigger name) enabled o ≡ Ok r → Fine r
    altered name enabled None r all is = absurd (no is)
      where
        no : Err (Ora 4080) ≡ Ok r → ⊥
        no k = cc
    altered name enabled (Some o) r all is =
        let key : ObjectKey = key_of kind.Trigger name in
        let new : Object = spec.object_of c e key o.text o.tree enabled in
        let s : SpellsObject key o.text o.tree = all o refl in
        unless Fine (made.Object new) (first_refusal ((spec.is_full c e key new, Ebr 34) ∷ [])) r (λ none.
        subst (λ (q : ObjectKey). Fine (made.Object (spec.object_of c e q o.text o.tree enabled))) (sym s.key_is)
        (put enabled o.text o.tree s.replace s.k s.name s.spelled s.kind_is s.name_is (is_trigger s.k enabled (ap (λ (q : ObjectKey). q.class) s.key_is))
        (subst (λ (q : ObjectKey). spec.is_full c e q (spec.object_of c e q o.text o.tree enabled) ≡ false) s.key_is (passed (spec.is_full c e key new) (Ebr 34) None none).0))) is

    -- an object of another kind than a package
    abbrev IsNoPackage : ObjectKind → Type 0
    IsNoPackage k = same_kind kind.Package k ≡ false

    one_kind : (k j : ObjectKind) → IsNoPackage k → same_kind k j ≡ true → same_kind kind.Package j ≡ false
    one_kind kind.Procedure kind.Procedure off is = refl
    one_kind kind.Function kind.Function off is = refl
    one_kind kind.Package j off is = absurd (both_ways true off refl)
    one_kind kind.PackageBody kind.PackageBody off is = refl
    one_kind kind.Trigger kind.Trigger off is = refl
    one_kind kind.View kind.View off is = refl
    one_kind k j off is = absurd (both_ways false refl is)

    other_kind : (k : ObjectKind) (o : Option Object) → IsNoPackage k → spec.is_object_of k o ≡ true → (is_some o && not (is_package o)) ≡ true
    other_kind k None off is = absurd (both_ways false refl is)
    other_kind k (Some o) off is = by (kind_of o.tree) is
      where
        by : (j : Option ObjectKind) → is_kind k j ≡ true → not (is_kind kind.Package j) ≡ true
        by None is = absurd (both_ways false refl is)
        by (Some j) is = ap not (one_kind k j off is)

    gone : (k : ObjectKind) (name : List ℕ) → spec.is_object_of k (visible c e (key_of k name)) ≡ true → Fine (spec.gone_record e k name)
    gone kind.Procedure name is = and_from (is_living es e) _ lives (other_kind kind.Procedure (visible c e (key_of kind.Procedure name)) refl is)
    gone kind.Function name is = and_from (is_living es e) _ lives (other_kind kind.Function (visible c e (key_of kind.Function name)) refl is)
    gone kind.View name is = and_from (is_living es e) _ lives (other_kind kind.View (visible c e (key_of kind.View name)) refl is)
    gone kind.Package name is = and_from (is_living es e) _ lives (as_package (visible c e (key_of kind.Package name)) is)
      where
        as_package : (o : Option Object) → spec.is_object_of kind.Package o ≡ true → is_package o ≡ true
        as_package None is = is
        as_package (Some o) is = is
    gone kind.PackageBody name is = and_from (is_living es e) _ lives (there (visible c e (key_of kind.PackageBody name)) is)
      where
        there : (o : Option Object) → spec.is_object_of kind.PackageBody o ≡ true → is_some o ≡ true
        there None is = is
        there (Some o) is = refl
    gone kind.Trigger name is = and_from (is_living es e) _ lives (there (visible c e (key_of kind.Trigger name)) is)
      where
        there : (o : Option Object) → spec.is_object_of kind.Trigger o ≡ true → is_some o ≡ true
        there None is = is
        there (Some o) is = refl

    -- ---- the whole

    -- whatever a definition makes in an edition that lives
    pub outcome_allowed : AreSpelled c → (sessions : List EditionNo) (what : Definition) (text : List ℕ) (r : CatalogueRecord) → (CreatesObject what → stored_definition text ≡ Some what) → spec.outcome c e sessions what text ≡ Ok r → Fine r
    outcome_allowed spelled sessions (definition.CreateEdition name parent) text r spells is =
        recorded Fine (λ d. made.Edition name (spec.parent_in c parent)) (create_answer es name parent) r (λ d there. created_edition name (named_parent es parent) d (parent_lives parent) there) is
    outcome_allowed spelled sessions (definition.DropEdition name cascade) text r spells is = dropped_edition sessions name cascade (drop_answer es name) r refl is
    outcome_allowed spelled sessions (definition.DefaultEdition name) text r spells is = recorded Fine made.Default (spec.set_edition es name) r (λ d there. edition_set_lives name d there) is
    outcome_allowed spelled sessions (definition.CreateTable name columns key) text r spells is =
        unless Fine (made.Table (kept_as (next_id c.tables) (table_of name columns key))) (spec.table_refusal c e name columns key) r (λ none. made_table e name columns key none) is
    outcome_allowed spelled sessions (definition.AddColumn table name ty) text r spells is = added table name (column_type ty) r is
    outcome_allowed spelled sessions (definition.DropTable name) text r spells is = recorded Fine made.TableGone (remove_answer (table_in c name)) r (λ id there. removed name (table_in c name) id refl there) is
    outcome_allowed spelled sessions (definition.AlterTrigger name enabled) text r spells is =
        altered name enabled (visible c e (key_of kind.Trigger name)) r (λ p at. visible-of IsSpelled c spelled e (key_of kind.Trigger name) p at) is
    outcome_allowed spelled sessions (definition.DropObject k name) text r spells is =
        chosen Fine (spec.gone_record e k name) (spec.is_object_of k (visible c e (key_of k name))) (spec.missing_code k) r (λ at. gone k name at) is
    outcome_allowed spelled sessions (definition.CreateObject replace u) text r spells is = created replace u text (kind_of u) (name_of u) r (spells tt) refl refl is
