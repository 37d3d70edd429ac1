-- Definitions leave a database consistent.
use Rattle.std.proofs.Common.{◌≡◌, ◌≢◌, ℕ, zero, suc, ◌+◌, Bool, true, false, cond, ◌&&◌, not, List, [], ◌∷◌, ◌++◌, refl, sym, ap, subst, ◌∙◌, append-nil, ⊎_elim}
use Rattle.std.specs.Prelude.{IfSome, Option, Some, None, Result, Ok, Err, find, if◌then◌else◌, nat_le, slice_get, unwrap_or}
use Rattle.std.specs.List.{cons_option, filter_map, list_any}
use Rattle.std.proofs.lemmas.Bool.{both_ways, eq-eqb, or_parts}
use Rattle.std.proofs.lemmas.Option.{same_Some}
use Rattle.ebr_base.specs.declared.code.Code.{Code}
use Rattle.ebr_base.specs.declared.code.Code.TheVariants.{Ebr, Ora}
use Rattle.ebr_base.specs.declared.numbers.EditionNo.{EditionNo}
use Rattle.ebr_base.specs.declared.numbers.SessionId.{SessionId}
use Rattle.ebr_base.specs.declared.numbers.TableId.{TableId}
use Rattle.ebr_base.specs.declared.row.TxId.{TxId}
use Rattle.ebr_base.specs.declared.object.ObjectKey.{ObjectKey}
use Rattle.ebr_base.specs.declared.row.Change.{Change}
use Rattle.ebr_base.specs.declared.table.TableDef.{TableDef}
use Rattle.ebr_base.specs.declared.value.ColType.{ColType}
use Rattle.ebr_ast.specs.declared.definition.Definition.{Definition}
use Rattle.ebr_ast.specs.declared.definition.Definition.TheVariants as definition
use Rattle.ebr_ast.specs.declared.definition.ObjectKind.{ObjectKind}
use Rattle.ebr_ast.specs.declared.definition.ObjectKind.TheVariants as kind
use Rattle.ebr_ast.specs.declared.unit.UnitTree.{UnitTree}
use Rattle.ebr_ast.specs.declared.view.Object.{Object}
use Rattle.ebr_versions.specs.declared.table.Table.{Table as Added}
use Rattle.ebr_versions.specs.Data.{is_in}
use Rattle.ebr_locks.specs.Locks.{is_held_in, same_tx}
use Rattle.ebr_locks.proofs.Taken.{tx-same}
use Rattle.ebr_editions.specs.Editions.{create_answer, drop_answer, is_edition, is_living}
use Rattle.ebr_tables.specs.Tables.{add_answer, first_refusal, kept_as, next_id, remove_answer}
use Rattle.ebr_columns.specs.Columns.{column_type, table_of}
use Rattle.ebr_tx.specs.Data.{Transaction, Data, changed, is_named, not_begun, some_other}
use Rattle.ebr_tx.specs.Conflicts.{TableHeld, changes_in_table}
use Rattle.ebr_tx.specs.Calls.{ended}
use Rattle.ebr_tx.proofs.SoundLemmas.{names, tx-itself}
use Rattle.ebr_cross.specs.declared.record.CatalogueRecord.{CatalogueRecord}
use Rattle.ebr_cross.specs.declared.record.CatalogueRecord.TheVariants as made
use Rattle.ebr_cross.specs.Catalogue.{Lists, table_in, visible}
use Rattle.ebr_cross.specs.Definitions as spec
use Rattle.ebr_cross.specs.Kinds.{key_of, kind_of, name_of}
use Rattle.ebr_script.specs.Pieces.{CreatesObject, stored_definition}
use Rattle.ebr_record.specs.declared.record.Record.{Record}
use Rattle.ebr_record.specs.Keeper.{max_journal, share, used_by}
use Rattle.ebr_database.specs.Outcome.{gives, then_run}
use Rattle.ebr_database.specs.Transact.{kept_if}
use Rattle.ebr_database.specs.Database.{Database, Session, data_of, session_at}
use Rattle.ebr_seats.specs.Ends.{own_of}
use Rattle.ebr_integrity.specs.Integrity.{changes_of}
use Rattle.ebr_core.specs.Machine.{defined, defined_by, editions_in_use, is_held, lists_of, recorded, reply_define, table_changed}
use Rattle.ebr_core.specs.Records.{record_of}
use Rattle.ebr_core.proofs.ReadsBack.{recorded as of_answer, unless}
use Rattle.ebr_core.proofs.Spellings.{spelled}
use Rattle.ebr_allowed.specs.Allowed.{AllowedIn, allows}
use Rattle.ebr_allowed.specs.Consistent.{IsConsistent}
use Rattle.ebr_allowed.proofs.CatalogueLemmas.{CatalogueStands, catalogue_stands}
use Rattle.ebr_allowed.proofs.DefinedLemmas.{NoneIn, Spares, defined_consistent}
use Rattle.ebr_allowed.proofs.OutcomeLemmas.{chosen, outcome_allowed, passed}

-- ---- what a transaction that ended has changed

pub ended_none : (t : TxId) (live : List Transaction) → changes_of (changed t ended live) t ≡ []
ended_none t [] = refl
ended_none t (y ∷ ys) = by (is_named t y) refl (ended_none t ys)
  where
    by : (b : Bool) → is_named t y ≡ b → changes_of (changed t ended ys) t ≡ [] → changes_of (cond b (ended y ∷ ys) (y ∷ changed t ended ys)) t ≡ []
    by true is rest = ap (λ b. (unwrap_or (cond b (Some (ended y)) (find (is_named t) ys)) (not_begun t)).changes) is
    by false is rest = ap (λ b. (unwrap_or (cond b (Some y) (find (is_named t) (changed t ended ys))) (not_begun t)).changes) is ∙ rest

-- no other transaction has changes in a table that isn't held
others_none : (id : TableId) (t u : TxId) (live : List Transaction) → t ≢ u → some_other t (changes_in_table id) live ≡ false → NoneIn id (changes_of live u)
others_none id t u [] ne none = refl
others_none id t u (z ∷ zs) ne none =
    let parts = or_parts (not (is_named t z) && changes_in_table id z) (some_other t (changes_in_table id) zs) none in
    by (is_named u z) refl parts.0 (others_none id t u zs ne parts.1)
  where
    by : (b : Bool) → is_named u z ≡ b → (not (is_named t z) && changes_in_table id z) ≡ false → NoneIn id (changes_of zs u)
        → NoneIn id (unwrap_or (cond b (Some z) (find (is_named u) zs)) (not_begun u)).changes
    by true is first rest = by2 (is_named t z) refl first
      where
        by2 : (b : Bool) → is_named t z ≡ b → (not b && changes_in_table id z) ≡ false → NoneIn id z.changes
        by2 true same n = absurd (ne (sym (tx-same z.id t same) ∙ tx-same z.id u is))
        by2 false same n = n
    by false is first rest = rest

none_in_table : (id : TableId) (t : TxId) (d : Data) → TableHeld d id t ≡ false → changes_of d.live t ≡ [] → (u : TxId) → NoneIn id (changes_of d.live u)
none_in_table id t d free empty u =
    ⊎_elim (λ (same : t ≡ u). subst (λ v. NoneIn id (changes_of d.live v)) same (ap (λ cs. list_any (is_in id) cs) empty))
    (λ (far : same_tx t u ≡ false). others_none id t u d.live (λ e. both_ways (same_tx t u) far (ap (same_tx t) (sym e) ∙ tx-itself t)) (or_parts (is_held_in id t d.locks) (some_other t (changes_in_table id) d.live) free).1)
    (names t u)

-- ---- the editions in use

apart : (e d : EditionNo) → is_edition e d ≡ false → d ≢ e
apart e d h same = both_ways (is_edition e d) h (ap (is_edition e) same ∙ eq-eqb e.0 e.0 refl)

this_apart : (e : EditionNo) (o : Option EditionNo) (rest : List EditionNo) → list_any (is_edition e) (cons_option o rest) ≡ false → IfSome o (λ d. d ≢ e)
this_apart e None rest h = tt
this_apart e (Some d) rest h = apart e d (or_parts (is_edition e d) (list_any (is_edition e) rest) h).0

rest_apart : (e : EditionNo) (o : Option EditionNo) (rest : List EditionNo) → list_any (is_edition e) (cons_option o rest) ≡ false → list_any (is_edition e) rest ≡ false
rest_apart e None rest h = h
rest_apart e (Some d) rest h = (or_parts (is_edition e d) (list_any (is_edition e) rest) h).1

abbrev in_use : List Session → List EditionNo
in_use sessions = filter_map (λ (y : Session). y.edition) sessions

unused_by : (e : EditionNo) (sessions : List Session) (n : ℕ) (x : Session) → list_any (is_edition e) (in_use sessions) ≡ false → slice_get sessions n ≡ Some x → IfSome x.edition (λ d. d ≢ e)
unused_by e [] n x none at = cc
unused_by e (y ∷ ys) zero x none at = subst (λ (z : Session). IfSome z.edition (λ d. d ≢ e)) (same_Some y x at) (this_apart e y.edition (in_use ys) none)
unused_by e (y ∷ ys) (suc n) x none at = unused_by e ys n x (rest_apart e y.edition (in_use ys) none) at

unused_at : (e : EditionNo) (sessions : List Session) (n : ℕ) (x : Session) → list_any (is_edition e) (in_use sessions) ≡ false → session_at sessions n ≡ Some x → IfSome x.edition (λ d. d ≢ e)
unused_at e sessions zero x none at = cc
unused_at e sessions (suc n) x none at = unused_by e sessions n x none at

-- ---- what a definition leaves alone

module _ (db : Database) (s : SessionId) (empty : changes_of db.live (own_of s) ≡ []) (e : EditionNo) (text : List ℕ) where
  abbrev c : Lists
  c = lists_of db

  abbrev sessions : List EditionNo
  sessions = editions_in_use db

  abbrev Alone : CatalogueRecord → Type 0
  Alone r = Spares db (record_of r)

  dropped_alone : (cascade : Bool) (o : Result EditionNo Code) (r : CatalogueRecord) → spec.dropped_edition c sessions cascade o ≡ Ok r → Alone r
  dropped_alone cascade (Ok d) r is =
      unless Alone (made.EditionGone d) (spec.drop_refusal c sessions cascade d) r (λ none.
      let unused = passed (spec.is_in_use c sessions d) (Ebr 33) (first_refusal ((not cascade && spec.has_objects c d, Ora 38811) ∷ [])) none in
      λ q x at. unused_at d db.sessions q.0 x (or_parts (is_edition d c.editions.default) (list_any (is_edition d) sessions) unused.0).1 at) is
  dropped_alone cascade (Err code) r is = absurd (no is)
    where
      no : Err code ≡ Ok r → ⊥
      no k = cc

  held_none : (t : TableDef) → is_held (data_of db) (own_of s) (Some t) ≡ false → (u : TxId) → NoneIn t.id (changes_of db.live u)
  held_none t free u = none_in_table t.id (own_of s) (data_of db) free empty u

  wider_alone : (name : List ℕ) (ty : ColType) (t : Option TableDef) (u : Unit {0}) → is_held (data_of db) (own_of s) t ≡ false → add_answer t (spec.new_column name ty) ≡ Ok u → Alone (made.Column (spec.id_of t) (spec.new_column name ty))
  wider_alone name ty None u free is = absurd (no is)
    where
      no : Err (Ora 942) ≡ Ok u → ⊥
      no k = cc
  wider_alone name ty (Some t) u free is = held_none t free

  added_alone : (t : Option TableDef) (name : List ℕ) (ty : Option ColType) (r : CatalogueRecord) → is_held (data_of db) (own_of s) t ≡ false → spec.added_column t name ty ≡ Ok r → Alone r
  added_alone t name (Some ty) r free is = of_answer Alone (λ u. made.Column (spec.id_of t) (spec.new_column name ty)) (add_answer t (spec.new_column name ty)) r (λ u there. wider_alone name ty t u free there) is
  added_alone None name None r free is = absurd (no (Ora 942) is)
    where
      no : (code : Code) → Err code ≡ Ok r → ⊥
      no code k = cc
  added_alone (Some t) name None r free is = absurd (no (Ebr 29) is)
    where
      no : (code : Code) → Err code ≡ Ok r → ⊥
      no code k = cc

  removed_alone : (t : Option TableDef) (id : TableId) → is_held (data_of db) (own_of s) t ≡ false → remove_answer t ≡ Ok id → Alone (made.TableGone id)
  removed_alone None id free is = absurd (no is)
    where
      no : Err (Ora 942) ≡ Ok id → ⊥
      no k = cc
  removed_alone (Some t) id free is = subst (λ i. (u : TxId) → NoneIn i (changes_of db.live u)) (same_id is) (held_none t free)
    where
      same_id : ◌≡◌ {A = Result TableId Code} (Ok t.id) (Ok id) → t.id ≡ id
      same_id k = cc

  altered_alone : (key : ObjectKey) (enabled : Bool) (o : Option Object) (r : CatalogueRecord) → spec.altered c e key enabled o ≡ Ok r → Alone r
  altered_alone key enabled None r is = absurd (no is)
    where
      no : Err (Ora 4080) ≡ Ok r → ⊥
      no k = cc
  altered_alone key enabled (Some o) r is = unless Alone (made.Object (spec.object_of c e key o.text o.tree enabled)) _ r (λ none. tt) is

  gone_alone : (k : ObjectKind) (name : List ℕ) → Alone (spec.gone_record e k name)
  gone_alone kind.Procedure name = tt
  gone_alone kind.Function name = tt
  gone_alone kind.Package name = tt
  gone_alone kind.PackageBody name = tt
  gone_alone kind.Trigger name = tt
  gone_alone kind.View name = tt

  created_alone : (replace : Bool) (u : UnitTree) (k : Option ObjectKind) (name : Option (List ℕ)) (r : CatalogueRecord) → spec.object_named c e replace u text k name ≡ Ok r → Alone r
  created_alone replace u (Some k) (Some name) r is = unless Alone (made.Object (spec.object_of c e (key_of k name) text u (spec.is_enabled u))) _ r (λ none. tt) is
  created_alone replace u (Some k) None r is = absurd (no is)
    where
      no : Err (Ora 900) ≡ Ok r → ⊥
      no k = cc
  created_alone replace u None name r is = absurd (no is)
    where
      no : Err (Ora 900) ≡ Ok r → ⊥
      no k = cc

  outcome_alone : (what : Definition) (r : CatalogueRecord) → is_held (data_of db) (own_of s) (table_changed c what) ≡ false → spec.outcome c e sessions what text ≡ Ok r → Alone r
  outcome_alone (definition.CreateEdition name parent) r free is = of_answer Alone (λ d. made.Edition name (spec.parent_in c parent)) (create_answer c.editions.made name parent) r (λ d there. tt) is
  outcome_alone (definition.DropEdition name cascade) r free is = dropped_alone cascade (drop_answer c.editions.made name) r is
  outcome_alone (definition.DefaultEdition name) r free is = of_answer Alone made.Default (spec.set_edition c.editions.made name) r (λ d there. tt) is
  outcome_alone (definition.CreateTable name columns key) r free is = unless Alone (made.Table (kept_as (next_id c.tables) (table_of name columns key))) (spec.table_refusal c e name columns key) r (λ none. tt) is
  outcome_alone (definition.AddColumn table name ty) r free is = added_alone (table_in c table) name (column_type ty) r free is
  outcome_alone (definition.DropTable name) r free is = of_answer Alone made.TableGone (remove_answer (table_in c name)) r (λ id there. removed_alone (table_in c name) id free there) is
  outcome_alone (definition.AlterTrigger name enabled) r free is = altered_alone (key_of kind.Trigger name) enabled (visible c e (key_of kind.Trigger name)) r is
  outcome_alone (definition.DropObject k name) r free is = chosen Alone (spec.gone_record e k name) (spec.is_object_of k (visible c e (key_of k name))) (spec.missing_code k) r (λ at. gone_alone k name) is
  outcome_alone (definition.CreateObject replace u) r free is = created_alone replace u (kind_of u) (name_of u) r is

-- ---- a definition

-- a definition's record is none of a commit
allowed_in : (c : Lists) (tables : List Added) (commits : List (List Change)) (r : CatalogueRecord) → allows c (record_of r) ≡ true → AllowedIn c tables commits (record_of r)
allowed_in c tables commits (made.Edition name parent) h = h
allowed_in c tables commits (made.EditionGone e) h = h
allowed_in c tables commits (made.Default e) h = h
allowed_in c tables commits (made.Object o) h = h
allowed_in c tables commits (made.ObjectGone e key) h = h
allowed_in c tables commits (made.PackageGone e name) h = h
allowed_in c tables commits (made.Table d) h = h
allowed_in c tables commits (made.Column id column) h = h
allowed_in c tables commits (made.TableGone id) h = h

module _ (db : Database) (s : SessionId) (e : EditionNo) (what : Definition) (text : List ℕ) (h : IsConsistent db) (empty : changes_of db.live (own_of s) ≡ []) (lives : is_living (lists_of db).editions.made e ≡ true)
    (spells : CreatesObject what → stored_definition text ≡ Some what) where
  abbrev answer_is : Result CatalogueRecord Code
  answer_is = defined (lists_of db) (data_of db) s e (editions_in_use db) what text

  -- what nothing refuses
  unrefused : (b : Bool) (o : Result CatalogueRecord Code) (r : CatalogueRecord) → (if b then Err (Ora 54) else o) ≡ Ok r → (b ≡ false) × (o ≡ Ok r)
  unrefused true o r is = absurd (no is)
    where
      no : Err (Ora 54) ≡ Ok r → ⊥
      no k = cc
  unrefused false o r is = (refl, is)

  with_record_of : (r : CatalogueRecord) → answer_is ≡ Ok r → IsConsistent (record db { records = db.records ++ record_of r ∷ [] })
  with_record_of r is =
      let parts = unrefused (is_held (data_of db) (own_of s) (table_changed (lists_of db) what)) (spec.outcome (lists_of db) e (editions_in_use db) what text) r is in
      let stands : CatalogueStands (lists_of db) = catalogue_stands db.records h.records in
      let allowed_now : allows (lists_of db) (record_of r) ≡ true = outcome_allowed (lists_of db) stands e lives (spelled db.records) (editions_in_use db) what text r spells parts.1 in
      defined_consistent db h (record_of r) (allowed_in (lists_of db) (data_of db).tables (data_of db).commits r allowed_now) (outcome_alone db s empty e text what r parts.0 parts.1)

  nothing_made : IsConsistent (record db { records = db.records ++ [] })
  nothing_made = subst (λ (rs : List Record). IsConsistent (record db { records = rs })) (sym (append-nil db.records)) h

  by_room : (r : CatalogueRecord) → answer_is ≡ Ok r → (fits : Bool)
      → IsConsistent (defined_by db e what (then_run (kept_if fits (record_of r) (used_by db.records)) (λ u used'. gives used' (Ok r)))).database
  by_room r is true = with_record_of r is
  by_room r is false = nothing_made

  by_answer : (o : Result CatalogueRecord Code) → answer_is ≡ o → IsConsistent (defined_by db e what (recorded o (used_by db.records))).database
  by_answer (Ok r) is = by_room r is (nat_le (used_by db.records + share (record_of r)) max_journal)
  by_answer (Err code) is = nothing_made

  pub consistent_define : IsConsistent (reply_define e s what text db).database
  consistent_define = by_answer answer_is refl
