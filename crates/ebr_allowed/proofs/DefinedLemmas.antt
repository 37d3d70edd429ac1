-- A definition's record leaves a database consistent, where it is allowed and leaves alone what others have.
use Rattle.std.proofs.Common.{◌≡◌, ◌≢◌, ℕ, suc, ◌≤◌, Bool, true, false, List, [], ◌∷◌, ◌++◌, length, refl, sym, ap, subst, ◌∙◌, append-nil, arith}
use Rattle.std.specs.Prelude.{◌==◌, IfSome, Option, Some, None, find, is_some}
use Rattle.std.specs.List.{AllByRecursion, filter_map, list_any}
use Rattle.std.proofs.lemmas.Bool.{both_ways, eq-eqb, or_parts}
use Rattle.std.proofs.lemmas.List.Elements.{recursion_from_All}
use Rattle.ebr_base.specs.declared.numbers.EditionNo.{EditionNo}
use Rattle.ebr_base.specs.declared.numbers.SessionId.{SessionId}
use Rattle.ebr_base.specs.declared.numbers.TableId.{TableId}
use Rattle.ebr_base.specs.declared.row.Change.{Change}
use Rattle.ebr_base.specs.declared.row.TxId.{TxId}
use Rattle.ebr_base.specs.declared.table.Column as column
use Rattle.ebr_base.specs.declared.table.TableDef.{TableDef}
use Rattle.ebr_ast.specs.declared.definition.Definition.{Definition}
use Rattle.ebr_ast.specs.declared.definition.Definition.TheVariants as definition
use Rattle.ebr_ast.specs.declared.definition.ObjectKind.{ObjectKind}
use Rattle.ebr_ast.specs.declared.unit.UnitTree.{UnitTree}
use Rattle.ebr_versions.specs.declared.table.Table.{Table as Added}
use Rattle.ebr_versions.specs.Data.{is_in}
use Rattle.ebr_versions.specs.Keys.{is_added}
use Rattle.ebr_editions.specs.Editions.{is_living, new_edition}
use Rattle.ebr_editions.proofs.Lists.{each-find}
use Rattle.ebr_tables.specs.Tables.{AllTables, has_id, next_id}
use Rattle.ebr_tx.specs.Calls.{IsKnown}
use Rattle.ebr_cross.specs.Catalogue.{Lists}
use Rattle.ebr_cross.specs.Kinds.{kind_of, name_of}
use Rattle.ebr_script.specs.Pieces.{stored_definition}
use Rattle.ebr_record.specs.declared.record.DroppedClass.{DroppedClass}
use Rattle.ebr_record.specs.declared.record.DroppedClass.TheVariants as dropped
use Rattle.ebr_record.specs.declared.record.Record.{Record}
use Rattle.ebr_record.specs.declared.record.Record.TheVariants as left
use Rattle.ebr_database.specs.Database.{Database, Session, commit_in, data_of, session_at, tables_from}
use Rattle.ebr_levels.proofs.EarlyLemmas.{early_all}
use Rattle.ebr_integrity.specs.Commits.{IsSuitable}
use Rattle.ebr_integrity.specs.Integrity.{HasIntegrity, IsIntactBy, changes_of}
use Rattle.ebr_integrity.proofs.DataLemmas.{intact_weaker}
use Rattle.ebr_core.specs.Records.{after_record, with_named, with_stored}
use Rattle.ebr_core.specs.Machine.{lists_of}
use Rattle.ebr_core.proofs.KnownTables.{known}
use Rattle.ebr_allowed.specs.Allowed.{Allowed, AllowedIn, may_add}
use Rattle.ebr_allowed.specs.Consistent.{IsConsistent, SessionStands, living_in}
use Rattle.ebr_allowed.proofs.AddedLemmas.{integrity_more}
use Rattle.ebr_allowed.proofs.CatalogueLemmas.{CatalogueStands, catalogue_stands, living_more, still_living}
use Rattle.ebr_allowed.proofs.RecordLemmas.{allowed_more, catalogue_more, commits_more}
use Rattle.ebr_allowed.proofs.SessionLemmas.{stands_later}
use Rattle.ebr_allowed.proofs.TableLemmas.{found_id, suitable_column, suitable_gone, suitable_more}

-- ---- what is left alone

-- no change is one in the table
abbrev pub NoneIn : TableId → List Change → Type 0
NoneIn id cs = list_any (is_in id) cs ≡ false

-- A record of a definition leaves alone what live transactions have changed, and the editions of sessions. A commit is none.
abbrev pub Spares : Database → Record → Type 0
Spares db (left.Commit changes) = ⊥
Spares db (left.EditionGone e) = (s : SessionId) (x : Session) → session_at db.sessions s.0 ≡ Some x → IfSome x.edition (λ d. d ≢ e)
Spares db (left.Column id new) = (t : TxId) → NoneIn id (changes_of db.live t)
Spares db (left.TableGone id) = (t : TxId) → NoneIn id (changes_of db.live t)
Spares db r = Unit {0}

-- of one transaction's changes
abbrev SparesChanges : Record → List Change → Type 0
SparesChanges (left.Column id new) cs = NoneIn id cs
SparesChanges (left.TableGone id) cs = NoneIn id cs
SparesChanges r cs = Unit {0}

spares_each : (db : Database) (r : Record) → Spares db r → (t : TxId) → SparesChanges r (changes_of db.live t)
spares_each db (left.Column id new) h t = h t
spares_each db (left.TableGone id) h t = h t
spares_each db r h t = tt

-- ---- the tables that live

-- what storing and dropping an object leaves as it was
abbrev StaysBeside : Lists → Lists → Type 0
StaysBeside c now = (now.tables ≡ c.tables) × (now.editions ≡ c.editions)

named_beside : (c : Lists) (e : EditionNo) (enabled : Bool) (text : List ℕ) (u : UnitTree) (k : Option ObjectKind) (name : Option (List ℕ)) → StaysBeside c (with_named c e enabled text u k name)
named_beside c e enabled text u (Some k) (Some name) = (refl, refl)
named_beside c e enabled text u (Some k) None = (refl, refl)
named_beside c e enabled text u None name = (refl, refl)

stored_beside : (c : Lists) (e : EditionNo) (enabled : Bool) (text : List ℕ) (d : Option Definition) → StaysBeside c (with_stored c e enabled text d)
stored_beside c e enabled text None = (refl, refl)
stored_beside c e enabled text (Some (definition.CreateObject replace u)) = named_beside c e enabled text u (kind_of u) (name_of u)
stored_beside c e enabled text (Some d) = (refl, refl)

gone_beside : (c : Lists) (e : EditionNo) (k : DroppedClass) (name : List ℕ) → StaysBeside c (after_record c (left.Gone e k name))
gone_beside c e dropped.Unit name = (refl, refl)
gone_beside c e dropped.Body name = (refl, refl)
gone_beside c e dropped.Trigger name = (refl, refl)
gone_beside c e dropped.Package name = (refl, refl)

each_more : (living more : List TableDef) (cs : List Change) → AllByRecursion (IsSuitable living) cs → AllByRecursion (IsSuitable (living ++ more)) cs
each_more living more [] h = tt
each_more living more (c ∷ cs) h = (suitable_more c living more h.0, each_more living more cs h.1)

apart_of : (id : TableId) (c : Change) → is_in id c ≡ false → c.row.table.0 ≡ id.0 → ⊥
apart_of id c h e = both_ways (c.row.table.0 == id.0) h (eq-eqb c.row.table.0 id.0 e)

-- behind a change of the table, those of other tables
each_apart : (P Q : Change → Type 0) (id : TableId) → ((c : Change) → (c.row.table.0 ≡ id.0 → ⊥) → P c → Q c) → (cs : List Change) → NoneIn id cs → AllByRecursion P cs → AllByRecursion Q cs
each_apart P Q id f [] none h = tt
each_apart P Q id f (c ∷ cs) none h =
    let parts = or_parts (is_in id c) (list_any (is_in id) cs) none in
    (f c (apart_of id c parts.0) h.0, each_apart P Q id f cs parts.1 h.1)

added_to : (o : Option TableDef) (new : column.Column) → may_add o new ≡ true → (t : TableDef) × (o ≡ Some t)
added_to None new h = absurd (both_ways false refl h)
added_to (Some t) new h = (t, refl)

some_there : (o : Option TableDef) → is_some o ≡ true → (t : TableDef) × (o ≡ Some t)
some_there None h = absurd (both_ways false refl h)
some_there (Some t) h = (t, refl)

suitable_after : (c : Lists) (tables : List Added) (commits : List (List Change)) (r : Record) → AllowedIn c tables commits r → CatalogueStands c → (cs : List Change) → SparesChanges r cs
    → AllByRecursion (IsSuitable c.tables.living) cs → AllByRecursion (IsSuitable (after_record c r).tables.living) cs
suitable_after c tables commits (left.Table name columns key) a h cs spares all =
    each_more c.tables.living (record { id = next_id c.tables; name = name; columns = columns; key = key } ∷ []) cs all
suitable_after c tables commits (left.Column id new) a h cs spares all =
    let t = added_to (find (has_id id) c.tables.living) new a in
    each_apart (IsSuitable c.tables.living) (IsSuitable (after_record c (left.Column id new)).tables.living) id (λ e apart k. suitable_column e c.tables id t.0 h.names t.1 apart new k) cs spares all
suitable_after c tables commits (left.TableGone id) a h cs spares all =
    let t = some_there (find (has_id id) c.tables.living) a in
    each_apart (IsSuitable c.tables.living) (IsSuitable (after_record c (left.TableGone id)).tables.living) id (λ e apart k. suitable_gone e c.tables id t.0 h.names t.1 apart k) cs spares all
suitable_after c tables commits (left.Object e enabled text) a h cs spares all = subst (λ (s : AllTables). AllByRecursion (IsSuitable s.living) cs) (sym (stored_beside c e enabled text (stored_definition text)).0) all
suitable_after c tables commits (left.Gone e k name) a h cs spares all = subst (λ (s : AllTables). AllByRecursion (IsSuitable s.living) cs) (sym (gone_beside c e k name).0) all
suitable_after c tables commits r a h cs spares all = all

-- ---- the editions that live

-- the edition isn't the one that goes
abbrev IsOther : Record → EditionNo → Type 0
IsOther (left.EditionGone e) d = d ≢ e
IsOther r d = Unit {0}

lives_after : (c : Lists) (r : Record) (d : EditionNo) → IsOther r d → is_living c.editions.made d ≡ true → is_living (after_record c r).editions.made d ≡ true
lives_after c (left.Edition name parent) d other h = living_more c.editions.made (new_edition c.editions.made name (Some parent) ∷ []) d h
lives_after c (left.EditionGone e) d other h = still_living e d c.editions.made other h
lives_after c (left.Object e enabled text) d other h = ap (λ x. is_living x.made d) (stored_beside c e enabled text (stored_definition text)).1 ∙ h
lives_after c (left.Gone e k name) d other h = ap (λ x. is_living x.made d) (gone_beside c e k name).1 ∙ h
lives_after c r d other h = h

-- ---- what is read off the records

no_commit : (db : Database) (r : Record) → Spares db r → filter_map commit_in (r ∷ []) ≡ []
no_commit db (left.Commit changes) h = absurd h
no_commit db r h = refl

pub tables_more : (n : ℕ) (records : List Record) (r : Record) → (more : List Added) × (tables_from n (records ++ r ∷ []) ≡ tables_from n records ++ more)
tables_more n [] r = (tables_from n (r ∷ []), refl)
tables_more n (left.Table name columns key ∷ rest) r =
    let more = tables_more (suc n) rest r in
    (more.0, ap (λ (ts : List Added). record { id = record { 0 = suc n }; key = key } ∷ ts) more.1)
tables_more n (q ∷ rest) r = tables_more n rest r

-- ---- the whole

pub known_by_id : (db : Database) (id : TableId) (t : TableDef) → find (has_id id) (living_in db) ≡ Some t → is_added (data_of db).tables id ≡ true
known_by_id db id t e =
    let same : id.0 ≡ t.id.0 = found_id id (living_in db) t e in
    let is : id ≡ t.id = λ i. record { 0 = same i } in
    ap (is_added (data_of db).tables) is ∙ (found_known (living_in db) (recursion_from_All (IsKnown (data_of db)) (living_in db) (known db)) e).added
  where
    found_known : (ts : List TableDef) → AllByRecursion (IsKnown (data_of db)) ts → find (has_id id) ts ≡ Some t → IsKnown (data_of db) t
    found_known ts all k = each-find (IsKnown (data_of db)) (has_id id) ts t all k

module _ (db : Database) (h : IsConsistent db) (r : Record) (a : Allowed db.records r) (spares : Spares db r) where
  abbrev now : Database
  now = record db { records = db.records ++ r ∷ [] }

  abbrev c : Lists
  c = lists_of db

  stands : CatalogueStands c
  stands = catalogue_stands db.records h.records

  lists : lists_of now ≡ after_record c r
  lists = catalogue_more db.records r

  same_commits : (data_of now).commits ≡ (data_of db).commits
  same_commits = commits_more db.records (r ∷ []) ∙ ap (λ cs. (data_of db).commits ++ cs) (no_commit db r spares) ∙ append-nil (data_of db).commits

  more : (ts : List Added) × ((data_of now).tables ≡ (data_of db).tables ++ ts)
  more = tables_more 0 db.records r

  intact : IsIntactBy (IsSuitable (living_in now)) (data_of now)
  intact =
      let suited : IsIntactBy (IsSuitable (after_record c r).tables.living) (data_of db) =
      intact_weaker (IsSuitable (living_in db)) (IsSuitable (after_record c r).tables.living) (data_of db)
      (λ t all. suitable_after c (data_of db).tables (data_of db).commits r a stands (changes_of db.live t) (spares_each db r spares t) all) h.fit.intact
      in
      subst (λ (l : Lists). IsIntactBy (IsSuitable l.tables.living) (data_of now)) (sym lists)
      (subst (λ (cs : List (List Change)). HasIntegrity (IsSuitable (after_record c r).tables.living) cs (data_of now).tables db.live) (sym same_commits)
      (subst (λ (ts : List Added). HasIntegrity (IsSuitable (after_record c r).tables.living) (data_of db).commits ts db.live) (sym more.1)
      (integrity_more (IsSuitable (after_record c r).tables.living) (data_of db).commits (data_of db).tables more.0 db.live suited)))

  same_count : length (data_of db).commits ≤ length (data_of now).commits
  same_count = let n : length (data_of now).commits ≡ length (data_of db).commits = ap (λ (cs : List (List Change)). length cs) same_commits in omega (arith, n)

  other_edition : (r' : Record) → Spares db r' → (s : SessionId) (x : Session) → session_at db.sessions s.0 ≡ Some x → IfSome x.edition (λ d. IsOther r' d)
  other_edition (left.EditionGone e) k s x there = k s x there
  other_edition r' k s x there = by x.edition
    where
      by : (o : Option EditionNo) → IfSome o (λ d. Unit {0})
      by None = tt
      by (Some d) = tt

  lives_still : (o : Option EditionNo) → IfSome o (λ d. IsOther r d) → IfSome o (λ e. is_living c.editions.made e ≡ true) → IfSome o (λ e. is_living (lists_of now).editions.made e ≡ true)
  lives_still None k l = tt
  lives_still (Some d) k l = ap (λ (x : Lists). is_living x.editions.made d) lists ∙ lives_after c r d k l

  pub defined_consistent : IsConsistent now
  defined_consistent = record {
    records = allowed_more db.records (r ∷ []) h.records (a, tt);
    fit = record { intact = intact; known = known_by_id now };
    early = early_all (data_of db) (data_of now) same_count (λ u. refl) h.early;
    sessions = λ s x there.
        let old : SessionStands c.editions.made (data_of now) s x = stands_later c.editions.made (data_of db) (data_of now) s x same_count refl (h.sessions s x there) in
        record { depth = old.depth; stack = old.stack; closed = old.closed; mark = old.mark; lives = lives_still x.edition (other_edition r spares s x there) old.lives };
  }
