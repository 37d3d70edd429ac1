-- Definitions over two catalogues in which an edition sees the same: their outcome is the same, and what the edition sees behind them.
use Rattle.std.proofs.Common.{◌≡◌, ℕ, suc, Bool, true, false, not, ◌&&◌, ◌||◌, List, [], ◌∷◌, ◌++◌, length, Option, Some, None, is_some, nat_le, nat_lt, refl, sym, ap, ◌∙◌}
use Rattle.std.specs.Prelude.{if◌then◌else◌, Result, Ok, Err}
use Rattle.ebr_base.specs.declared.code.Code.{Code}
use Rattle.ebr_base.specs.declared.code.Code.TheVariants.{Ora, Ebr}
use Rattle.ebr_base.specs.declared.numbers.EditionNo.{EditionNo}
use Rattle.ebr_base.specs.declared.numbers.TableId.{TableId}
use Rattle.ebr_base.specs.declared.object.ObjectKey.{ObjectKey}
use Rattle.ebr_base.specs.declared.table.Column.{Column}
use Rattle.ebr_base.specs.declared.table.TableDef.{TableDef}
use Rattle.ebr_base.specs.declared.value.ColType.{ColType}
use Rattle.ebr_base.specs.Keys.{table_named}
use Rattle.ebr_ast.specs.declared.definition.ColumnTree.{ColumnTree}
use Rattle.ebr_ast.specs.declared.definition.Definition.{Definition}
use Rattle.ebr_ast.specs.declared.definition.Definition.TheVariants as definition
use Rattle.ebr_ast.specs.declared.definition.ObjectKind.{ObjectKind}
use Rattle.ebr_ast.specs.declared.definition.ObjectKind.TheVariants as kind
use Rattle.ebr_ast.specs.declared.statement.DeclaredType.{DeclaredType}
use Rattle.ebr_ast.specs.declared.unit.UnitTree.{UnitTree}
use Rattle.ebr_ast.specs.declared.unit.UnitTree.TheVariants as unit
use Rattle.ebr_ast.specs.declared.view.EditionView.{EditionView}
use Rattle.ebr_ast.specs.declared.view.Object.{Object}
use Rattle.ebr_editions.specs.Objects.{with_entry, max_objects}
use Rattle.ebr_tables.specs.Tables.{AllTables, add_answer, first_refusal, kept_as, next_id, remove_answer, unless_refused, with_column, with_definition, without_table}
use Rattle.ebr_columns.specs.Columns.{column_type, is_bad_table, table_of}
use Rattle.ebr_cross.specs.declared.record.CatalogueRecord.{CatalogueRecord}
use Rattle.ebr_cross.specs.declared.record.CatalogueRecord.TheVariants as made
use Rattle.ebr_cross.specs.Catalogue.{Lists, HaveOwnKeys, View, table_in, visible}
use Rattle.ebr_cross.specs.Definitions as spec
use Rattle.ebr_cross.specs.Kinds.{kind_of, name_of, key_of, unit_key, is_unit_class}
use Rattle.ebr_cross.specs.Records.{table_name, with_object}
use Rattle.ebr_cross.proofs.OwnKeys.{own_kept}
use Rattle.ebr_script.specs.Pieces.{stored_definition}
use Rattle.ebr_core.specs.Apart.{AgreeToDefine, SeesAlike, StampsAlike}
use Rattle.ebr_core.specs.Records.{after_record, record_of, with_named, with_stored}
use Rattle.ebr_core.proofs.ReadsBack.{recorded, unless, chosen}
use Rattle.ebr_core.proofs.SeenAlike.{after-same, count-in-view, other-same, visible-same}

-- what an edition sees with other tables
with_tables : EditionView → List TableDef → EditionView
with_tables v tables = record v { tables = tables }

-- without a package, and without its body where that is seen
abbrev without_package : Lists → EditionNo → List ℕ → Bool → Lists
without_package c e name both =
    let hidden = with_entry c.entries e (key_of kind.Package name) None in
    record c { entries = if both then with_entry hidden e (key_of kind.PackageBody name) None else hidden }

module _ (c d : Lists) (e : EditionNo) (own : HaveOwnKeys c) (own' : HaveOwnKeys d) (number : c.tables.made ≡ d.tables.made) where
  module _ (same : SeesAlike c d e) where
    seen : (key : ObjectKey) → visible c e key ≡ visible d e key
    seen = visible-same c d e own own' same

    pub tables_same : c.tables ≡ d.tables
    tables_same = λ i. record { made = number i; living = (same i).tables }

    -- ---- what is answered

    table_created : (name : List ℕ) (columns : List ColumnTree) (key : List (List ℕ)) → spec.create_table c e name columns key ≡ spec.create_table d e name columns key
    table_created name columns key =
        let by : AllTables → Option Object → Result CatalogueRecord Code = λ t o.
        unless_refused (first_refusal (
        (is_some (table_named name t.living) || is_some o, Ora 955)
        ∷ (is_bad_table columns key, Ebr 29)
        ∷ (nat_lt 64 (length columns), Ebr 36)
        ∷ (nat_le 1000 (length t.living), Ebr 37) ∷ [])) (made.Table (kept_as (next_id t) (table_of name columns key))) in
        λ i. by (tables_same i) (seen (unit_key name) i)

    column_added : (table column : List ℕ) (ty : DeclaredType) → spec.add_column c table column ty ≡ spec.add_column d table column ty
    column_added table column ty = ap (λ (t : AllTables). spec.added_column (table_named table t.living) column (column_type ty)) tables_same

    table_dropped : (name : List ℕ) → spec.drop_table c name ≡ spec.drop_table d name
    table_dropped name = ap (λ (t : AllTables). spec.recording made.TableGone (remove_answer (table_named name t.living))) tables_same

    object_dropped : (k : ObjectKind) (name : List ℕ) → spec.drop_object c e k name ≡ spec.drop_object d e k name
    object_dropped k name =
        let by : Option Object → Result CatalogueRecord Code = λ o. if spec.is_object_of k o then Ok (spec.gone_record e k name) else Err (spec.missing_code k) in
        ap by (seen (key_of k name))

    -- no more objects are seen in one of them
    full_same : (key : ObjectKey) (o : Object) → spec.is_full c e key o ≡ spec.is_full d e key o
    full_same key o = ap (nat_lt max_objects) (
        count-in-view (with_object c e key (Some o)) e
        ∙ ap (λ (v : EditionView). length v.objects) (after-same c d e own own' same key (Some o))
        ∙ sym (count-in-view (with_object d e key (Some o)) e))

    put_same : (key : ObjectKey) (o : Object) → spec.put_object c e key o ≡ spec.put_object d e key o
    put_same key o = ap (λ b. unless_refused (first_refusal ((b, Ebr 34) ∷ [])) (made.Object o)) (full_same key o)

    names_same : (replace : Bool) (k : ObjectKind) (key : ObjectKey) → spec.name_refusals c e replace k key ≡ spec.name_refusals d e replace k key
    names_same replace k key =
        let by : AllTables → Option Object → List (Bool × Code) = λ t o.
        (is_unit_class key.class && is_some (table_named key.name t.living), Ora 955) ∷ (spec.is_refused_by replace k o, spec.is_there_code k) ∷ [] in
        λ i. by (tables_same i) (seen key i)

    stands_same : (crossedition : Bool) (name : List ℕ) → spec.stands_on c e crossedition name ≡ spec.stands_on d e crossedition name
    stands_same true name = ap (λ (t : AllTables). is_some (table_named name t.living)) tables_same
    stands_same false name =
        let by : AllTables → Option Object → Bool = λ t o. spec.is_view_or_table o (table_named name t.living) in
        λ i. by (tables_same i) (seen (unit_key name) i)

    trees_same : (key : ObjectKey) (u : UnitTree) → spec.tree_refusals c e key u ≡ spec.tree_refusals d e key u
    trees_same key (unit.Trigger t) =
        let by : Bool → List (Bool × Code) = λ b. (not b, Ora 942) ∷ [] in
        ap by (stands_same (is_some t.crossedition) t.on)
    trees_same key (unit.View v) =
        let by : AllTables → Bool → List (Bool × Code) = λ t b.
        (not (is_some (table_named v.table t.living)), Ora 942)
        ∷ (not (spec.has_columns (table_named v.table t.living) v.items), Ora 904)
        ∷ (spec.is_bad_list v, Ebr 27)
        ∷ (b, Ebr 28) ∷ [] in
        λ i. by (tables_same i) (other-same c d e own own' same v.table key i)
    trees_same key u = refl

    created_same : (replace : Bool) (k : ObjectKind) (key : ObjectKey) (u : UnitTree) (o : Object) → spec.created_object c e replace k key u o ≡ spec.created_object d e replace k key u o
    created_same replace k key u o =
        let by : List (Bool × Code) → List (Bool × Code) → Bool → Result CatalogueRecord Code = λ names trees full. unless_refused (first_refusal (names ++ trees ++ (full, Ebr 34) ∷ [])) (made.Object o) in
        λ i. by (names_same replace k key i) (trees_same key u i) (full_same key o i)

    -- ---- what the edition sees behind a record

    abbrev LeftAlike : CatalogueRecord → Type 0
    LeftAlike r = SeesAlike (after_record c (record_of r)) (after_record d (record_of r)) e

    table_left : (t : TableDef) → LeftAlike (made.Table t)
    unfolding with_tables
    table_left t = λ i. with_tables (same i) (with_definition (tables_same i) (record { id = next_id (tables_same i); name = t.name; columns = t.columns; key = t.key })).living

    column_left : (id : TableId) (column : Column) → LeftAlike (made.Column id column)
    unfolding with_tables
    column_left id column = λ i. with_tables (same i) (with_column (tables_same i) (table_name (tables_same i) id) column).living

    table_gone : (id : TableId) → LeftAlike (made.TableGone id)
    unfolding with_tables
    table_gone id = λ i. with_tables (same i) (without_table (tables_same i) (table_name (tables_same i) id)).living

    gone_left : (key : ObjectKey) → SeesAlike (with_object c e key None) (with_object d e key None) e
    gone_left key = after-same c d e own own' same key None

    -- a package with its body, where that is seen
    package_by : (name : List ℕ) (b : Bool) → SeesAlike (without_package c e name b) (without_package d e name b) e
    package_by name true =
        let head : ObjectKey = key_of kind.Package name in
        after-same (with_object c e head None) (with_object d e head None) e (own_kept c (made.ObjectGone e head) own) (own_kept d (made.ObjectGone e head) own') (gone_left head) (key_of kind.PackageBody name) None
    package_by name false = gone_left (key_of kind.Package name)

    package_left : (name : List ℕ) → LeftAlike (made.PackageGone e name)
    package_left name =
        let body : ObjectKey = key_of kind.PackageBody name in
        package_by name (is_some (visible c e body)) ∙ ap (λ b. View (without_package d e name b) e) (ap is_some (seen body))

    dropped_left : (k : ObjectKind) (name : List ℕ) → LeftAlike (spec.gone_record e k name)
    dropped_left kind.Package name = package_left name
    dropped_left kind.Procedure name = gone_left (key_of kind.Procedure name)
    dropped_left kind.Function name = gone_left (key_of kind.Function name)
    dropped_left kind.PackageBody name = gone_left (key_of kind.PackageBody name)
    dropped_left kind.Trigger name = gone_left (key_of kind.Trigger name)
    dropped_left kind.View name = gone_left (key_of kind.View name)

    added_left : (t : Option TableDef) (name : List ℕ) (ty : Option ColType) (r : CatalogueRecord) → spec.added_column t name ty ≡ Ok r → LeftAlike r
    added_left t name (Some ty) r is =
        recorded LeftAlike (λ u. made.Column (spec.id_of t) (spec.new_column name ty)) (add_answer t (spec.new_column name ty)) r (λ u there. column_left (spec.id_of t) (spec.new_column name ty)) is
    added_left None name None r is = cc
    added_left (Some t) name None r is = cc

  -- ---- definitions of objects, with their stamps

  module _ (same : StampsAlike c d e) where
    object_same : (key : ObjectKey) (text : List ℕ) (u : UnitTree) (enabled : Bool) → spec.object_of c e key text u enabled ≡ spec.object_of d e key text u enabled
    object_same key text u enabled =
        let by : ℕ → Object = λ n. record { key = key; text = text; tree = u; stamp = record { edition = e; count = suc n }; enabled = enabled } in
        ap by same.count

    altered_same : (key : ObjectKey) (enabled : Bool) (o : Option Object) → spec.altered c e key enabled o ≡ spec.altered d e key enabled o
    altered_same key enabled None = refl
    altered_same key enabled (Some o) = put_same same.view key (spec.object_of c e key o.text o.tree enabled) ∙ ap (spec.put_object d e key) (object_same key o.text o.tree enabled)

    trigger_altered : (name : List ℕ) (enabled : Bool) → spec.alter_trigger c e name enabled ≡ spec.alter_trigger d e name enabled
    trigger_altered name enabled = ap (spec.altered c e (key_of kind.Trigger name) enabled) (seen same.view (key_of kind.Trigger name)) ∙ altered_same (key_of kind.Trigger name) enabled (visible d e (key_of kind.Trigger name))

    named_same : (replace : Bool) (u : UnitTree) (text : List ℕ) (k : Option ObjectKind) (name : Option (List ℕ)) → spec.object_named c e replace u text k name ≡ spec.object_named d e replace u text k name
    named_same replace u text (Some k) (Some name) =
        created_same same.view replace k (key_of k name) u (spec.object_of c e (key_of k name) text u (spec.is_enabled u))
        ∙ ap (spec.created_object d e replace k (key_of k name) u) (object_same (key_of k name) text u (spec.is_enabled u))
    named_same replace u text (Some k) None = refl
    named_same replace u text None name = refl

    -- what a stored text adds, whatever it spells
    named_left : (enabled : Bool) (text : List ℕ) (u : UnitTree) (k : Option ObjectKind) (name : Option (List ℕ)) → SeesAlike (with_named c e enabled text u k name) (with_named d e enabled text u k name) e
    named_left enabled text u (Some k) (Some name) =
        after-same c d e own own' same.view (key_of k name) (Some (spec.object_of c e (key_of k name) text u enabled))
        ∙ ap (λ o. View (with_object d e (key_of k name) (Some o)) e) (object_same (key_of k name) text u enabled)
    named_left enabled text u (Some k) None = same.view
    named_left enabled text u None name = same.view

    stored_left : (enabled : Bool) (text : List ℕ) (what : Option Definition) → SeesAlike (with_stored c e enabled text what) (with_stored d e enabled text what) e
    stored_left enabled text None = same.view
    stored_left enabled text (Some (definition.CreateObject replace u)) = named_left enabled text u (kind_of u) (name_of u)
    stored_left enabled text (Some what) = same.view

    object_left : (key : ObjectKey) (text : List ℕ) (u : UnitTree) (enabled : Bool) → LeftAlike same.view (made.Object (spec.object_of c e key text u enabled))
    object_left key text u enabled = stored_left enabled text (stored_definition text)

    altered_left : (key : ObjectKey) (enabled : Bool) (o : Option Object) (r : CatalogueRecord) → spec.altered c e key enabled o ≡ Ok r → LeftAlike same.view r
    altered_left key enabled None r is = cc
    altered_left key enabled (Some o) r is =
        let new : Object = spec.object_of c e key o.text o.tree enabled in
        unless (LeftAlike same.view) (made.Object new) (first_refusal ((spec.is_full c e key new, Ebr 34) ∷ [])) r (λ none. object_left key o.text o.tree enabled) is

    created_left : (replace : Bool) (u : UnitTree) (text : List ℕ) (k : Option ObjectKind) (name : Option (List ℕ)) (r : CatalogueRecord) → spec.object_named c e replace u text k name ≡ Ok r → LeftAlike same.view r
    created_left replace u text (Some k) (Some name) r is =
        let new : Object = spec.object_of c e (key_of k name) text u (spec.is_enabled u) in
        unless (LeftAlike same.view) (made.Object new) (first_refusal (spec.object_refusals c e replace k (key_of k name) u new)) r (λ none. object_left (key_of k name) text u (spec.is_enabled u)) is
    created_left replace u text (Some k) None r is = cc
    created_left replace u text None name r is = cc

  -- ---- every definition but those of editions

  -- The edition sees the same in catalogues that agree for one.
  pub sees : (what : Definition) → AgreeToDefine c d e what → SeesAlike c d e
  sees (definition.CreateEdition name parent) agree = absurd agree
  sees (definition.DropEdition name cascade) agree = absurd agree
  sees (definition.DefaultEdition name) agree = absurd agree
  sees (definition.AlterTrigger name enabled) agree = agree.view
  sees (definition.CreateObject replace u) agree = agree.view
  sees what agree = agree

  -- Its outcome is the same.
  pub outcome_same : (sessions sessions' : List EditionNo) (what : Definition) (text : List ℕ) → AgreeToDefine c d e what → spec.outcome c e sessions what text ≡ spec.outcome d e sessions' what text
  outcome_same sessions sessions' (definition.CreateEdition name parent) text agree = absurd agree
  outcome_same sessions sessions' (definition.DropEdition name cascade) text agree = absurd agree
  outcome_same sessions sessions' (definition.DefaultEdition name) text agree = absurd agree
  outcome_same sessions sessions' (definition.CreateTable name columns key) text agree = table_created agree name columns key
  outcome_same sessions sessions' (definition.AddColumn table column ty) text agree = column_added agree table column ty
  outcome_same sessions sessions' (definition.DropTable name) text agree = table_dropped agree name
  outcome_same sessions sessions' (definition.AlterTrigger name enabled) text agree = trigger_altered agree name enabled
  outcome_same sessions sessions' (definition.DropObject k name) text agree = object_dropped agree k name
  outcome_same sessions sessions' (definition.CreateObject replace u) text agree = named_same agree replace u text (kind_of u) (name_of u)

  -- What it leaves shows the edition the same.
  pub left_same : (sessions : List EditionNo) (what : Definition) (text : List ℕ) (r : CatalogueRecord) → AgreeToDefine c d e what → spec.outcome c e sessions what text ≡ Ok r
      → SeesAlike (after_record c (record_of r)) (after_record d (record_of r)) e
  left_same sessions (definition.CreateEdition name parent) text r agree is = absurd agree
  left_same sessions (definition.DropEdition name cascade) text r agree is = absurd agree
  left_same sessions (definition.DefaultEdition name) text r agree is = absurd agree
  left_same sessions (definition.CreateTable name columns key) text r agree is =
      unless (LeftAlike agree) (made.Table (kept_as (next_id c.tables) (table_of name columns key))) (spec.table_refusal c e name columns key) r (λ none. table_left agree (kept_as (next_id c.tables) (table_of name columns key))) is
  left_same sessions (definition.AddColumn table column ty) text r agree is = added_left agree (table_in c table) column (column_type ty) r is
  left_same sessions (definition.DropTable name) text r agree is = recorded (LeftAlike agree) made.TableGone (remove_answer (table_in c name)) r (λ id there. table_gone agree id) is
  left_same sessions (definition.AlterTrigger name enabled) text r agree is =
      altered_left agree (key_of kind.Trigger name) enabled (visible c e (key_of kind.Trigger name)) r is
  left_same sessions (definition.DropObject k name) text r agree is =
      chosen (LeftAlike agree) (spec.gone_record e k name) (spec.is_object_of k (visible c e (key_of k name))) (spec.missing_code k) r (dropped_left agree k name) is
  left_same sessions (definition.CreateObject replace u) text r agree is = created_left agree replace u text (kind_of u) (name_of u) r is
