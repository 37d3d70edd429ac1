-- What recovery stands at behind one record more.
use Rattle.std.proofs.Common.{◌≡◌, ℕ, ◌+◌, true, false, List, [], ◌∷◌, ◌++◌, refl, sym, ap, subst, ◌∙◌, arith}
use Rattle.std.specs.Prelude.{All, IfErr, OnOk, Option, Some, None, Result, Ok, Err, find}
use Rattle.std.specs.List.{AllByRecursion, filter_map, list_all}
use Rattle.std.proofs.lemmas.Bool.{and_from, and_parts, both_ways}
use Rattle.std.proofs.lemmas.Cmp.{nat_list_eq_equiv}
use Rattle.std.proofs.lemmas.List.Elements.{All-from_recursion, All-push}
use Rattle.ebr_base.specs.declared.row.Change.{Change}
use Rattle.ebr_base.specs.declared.table.TableDef.{TableDef}
use Rattle.ebr_versions.specs.declared.table.Table.{Table as Added}
use Rattle.ebr_versions.specs.Keys.{is_added}
use Rattle.ebr_versions.specs.Store.{OfAdded}
use Rattle.ebr_tables.specs.Tables.{AllTables, IsTable, MayJoin, has_id, same_table_name, with_definition}
use Rattle.ebr_tables.proofs.Names.{ascend-push, none-any, once-push}
use Rattle.ebr_tx.specs.Commits.{IsNumbered, is_numbered}
use Rattle.ebr_tx.specs.Data.{Data}
use Rattle.ebr_tx.specs.Calls.{HasNotBegun, MayLoad, after_load, first_transactions}
use Rattle.ebr_tx.proofs.Stays.{first-begun}
use Rattle.ebr_cross.specs.declared.catalogue.Catalogue.{Catalogue}
use Rattle.ebr_cross.specs.declared.record.CatalogueRecord.{CatalogueRecord}
use Rattle.ebr_cross.specs.declared.record.CatalogueRecord.TheVariants as made
use Rattle.ebr_cross.specs.Catalogue.{Lists, as_catalogue}
use Rattle.ebr_cross.specs.Following.{MayFollow}
use Rattle.ebr_cross.specs.Records.{table_name, with_record}
use Rattle.ebr_record.specs.declared.record.Record.{Record}
use Rattle.ebr_record.specs.declared.record.Record.TheVariants as left
use Rattle.ebr_database.specs.Database.{Database, commit_in, data_of, tables_from}
use Rattle.ebr_integrity.specs.Commits.{IsSuitable, suits_table}
use Rattle.ebr_core.specs.Records.{after_record, catalogue_of}
use Rattle.ebr_core.specs.Recovered.{AreRecovered}
use Rattle.ebr_core.specs.Machine.{Build}
use Rattle.ebr_core.specs.inside.Defined.{IsNew}
use Rattle.ebr_core.specs.inside.Stored.{AreSmall, KeepsSmall}
use Rattle.ebr_core.specs.inside.Tables.{AreAllowed as TablesAllowed, HasNextId, with_table_of}
use Rattle.ebr_core.proofs.AllowedTables.{one_less, one_wider}
use Rattle.ebr_core.proofs.KnownTables.{data_after, new_not_added}
use Rattle.ebr_core.proofs.ReachedRecords.{reached_same}
use Rattle.ebr_core.proofs.ReadsBack.{catalogue_of-append}
use Rattle.ebr_core.proofs.Spellings.{small_after}
use Rattle.ebr_allowed.specs.Allowed.{Allowed, allows}
use Rattle.ebr_allowed.proofs.DefinedLemmas.{known_by_id}
use Rattle.ebr_allowed.proofs.RecordLemmas.{commits_more, tables_commit}
use Rattle.ebr_recovery.specs.declared.fault.RecoveryFault.{RecoveryFault}
use Rattle.ebr_recovery.specs.declared.fault.RecoveryFault.TheVariants.{NoMemory}
use Rattle.ebr_recovery.specs.declared.recovery.Recovery.{Recovery}
use Rattle.ebr_recovery.specs.Recovery.{HasRoom, Recovers}
use Rattle.ebr_recovery.specs.inside.Plans.{IsDefinition, IsPlan, suits}

-- ---- commits

each_suitable : (living : List TableDef) (cs : List Change) → list_all (suits living) cs ≡ true → AllByRecursion IsNumbered cs → AllByRecursion (IsSuitable living) cs
each_suitable living [] h n = tt
each_suitable living (c ∷ cs) h n =
    let s = and_parts (suits living c) (list_all (suits living) cs) h in
    (and_from (is_numbered c) (suits living c) n.0 s.0, each_suitable living cs s.1 n.1)

each_numbered : (living : List TableDef) (cs : List Change) → AllByRecursion (IsSuitable living) cs → AllByRecursion IsNumbered cs
each_numbered living [] h = tt
each_numbered living (c ∷ cs) h = ((and_parts (is_numbered c) (suits living c) h.0).0, each_numbered living cs h.1)

each_suits : (living : List TableDef) (cs : List Change) → AllByRecursion (IsSuitable living) cs → list_all (suits living) cs ≡ true
each_suits living [] h = refl
each_suits living (c ∷ cs) h = and_from (suits living c) (list_all (suits living) cs) (and_parts (is_numbered c) (suits living c) h.0).1 (each_suits living cs h.1)

each_added : (living : List TableDef) (tables : List Added) (cs : List Change) → ((c : Change) → suits living c ≡ true → is_added tables c.row.table ≡ true) → list_all (suits living) cs ≡ true
    → AllByRecursion (λ (c : Change). is_added tables c.row.table ≡ true) cs
each_added living tables [] known h = tt
each_added living tables (c ∷ cs) known h = let s = and_parts (suits living c) (list_all (suits living) cs) h in (known c s.0, each_added living tables cs known s.1)

module _ (records : List Record) (n : ℕ) (now : Catalogue) (contents : Data) (stands : AreRecovered records n now contents) where
  abbrev db : Database
  db = Build records n

  abbrev c : Lists
  c = catalogue_of records

  same_living : now.tables.living ≡ c.tables.living
  same_living = ap (λ (k : Catalogue). k.tables.living) stands.lists

  pub not_begun : HasNotBegun contents
  not_begun = subst HasNotBegun (sym stands.contents_are) (first-begun n)

  module _ (cs : List Change) where
    known : (x : Change) → suits now.tables.living x ≡ true → is_added contents.tables x.row.table ≡ true
    known x h = by (find (has_id x.row.table) c.tables.living) refl (ap (λ ts. suits_table (find (has_id x.row.table) ts) x.values) (sym same_living) ∙ h)
      where
        by : (o : Option TableDef) → find (has_id x.row.table) c.tables.living ≡ o → suits_table o x.values ≡ true → is_added contents.tables x.row.table ≡ true
        by None e k = absurd (both_ways false refl k)
        by (Some t) e k = ap (λ (d : Data). is_added d.tables x.row.table) stands.contents_are ∙ known_by_id db x.row.table t e

    pub of_added : list_all (suits now.tables.living) cs ≡ true → OfAdded contents.tables cs
    of_added h = All-from_recursion (λ (x : Change). is_added contents.tables x.row.table ≡ true) cs (each_added now.tables.living contents.tables cs known h)

    may_load : Allowed records (left.Commit cs) → MayLoad contents cs
    may_load a = subst (λ (d : Data). MayLoad d cs) (sym stands.contents_are) (record { some = a.some; few = a.few; each = each_numbered c.tables.living cs a.each; there = a.there; keys = a.keys })

    -- a change that doesn't suit the tables
    pub not_suiting : list_all (suits now.tables.living) cs ≡ false → Allowed records (left.Commit cs) → ⊥
    not_suiting h a = both_ways (list_all (suits now.tables.living) cs) h (ap (λ ts. list_all (suits ts) cs) same_living ∙ each_suits c.tables.living cs a.each)

    pub not_loaded : (MayLoad contents cs → ⊥) → Allowed records (left.Commit cs) → ⊥
    not_loaded f a = f (may_load a)

    pub is_allowed : list_all (suits now.tables.living) cs ≡ true → MayLoad contents cs → Allowed records (left.Commit cs)
    is_allowed h m =
        let l : MayLoad (data_of db) cs = subst (λ (d : Data). MayLoad d cs) stands.contents_are m in
        record { some = l.some; few = l.few; each = each_suitable c.tables.living cs (ap (λ ts. list_all (suits ts) cs) (sym same_living) ∙ h) l.each; there = l.there; keys = l.keys }

    loaded : data_of (Build (records ++ left.Commit cs ∷ []) n) ≡ after_load (data_of db) cs
    loaded =
        let commits : filter_map commit_in (records ++ left.Commit cs ∷ []) ≡ filter_map commit_in records ++ cs ∷ [] = commits_more records (left.Commit cs ∷ []) in
        let tables : tables_from 0 (records ++ left.Commit cs ∷ []) ≡ tables_from 0 records = tables_commit 0 records cs in
        λ i. record { commits = commits i; tables = tables i; live = first_transactions n; locks = [] }

    -- a commit leaves the catalogue as it is
    pub stands_loaded : (new : Data) → new ≡ after_load contents cs → AreRecovered (records ++ left.Commit cs ∷ []) n now new
    stands_loaded new is =
        let same : catalogue_of (records ++ left.Commit cs ∷ []) ≡ c = catalogue_of-append records (left.Commit cs) in
        record {
          lists = stands.lists ∙ ap as_catalogue (sym same);
          contents_are = is ∙ ap (λ d. after_load d cs) stands.contents_are ∙ sym loaded;
          reached = reached_same records (records ++ left.Commit cs ∷ []) same stands.reached;
        }

    -- nothing was loaded
    pub stands_still : (new : Data) → new ≡ contents → AreRecovered records n now new
    stands_still new is = record { lists = stands.lists; contents_are = is ∙ stands.contents_are; reached = stands.reached }

-- ---- definitions

is_allowed_by : (records : List Record) (r : Record) → IsDefinition r → allows (catalogue_of records) r ≡ true → Allowed records r
is_allowed_by records (left.Commit cs) d a = absurd d
is_allowed_by records r d a = a

keeps : (r : Record) → HasRoom r → KeepsSmall r
keeps (left.Object e enabled text) h = omega (arith, h)
keeps r h = tt

joined : (s : AllTables) (t : TableDef) → MayJoin s t → TablesAllowed s → TablesAllowed (with_definition s t)
joined s t may h = record {
  names = once-push same_table_name (λ a b. nat_list_eq_equiv.symm a.name b.name) t s.living h.names (none-any t.name s.living may.new);
  ids = ascend-push s.made t 0 s.living (ap (λ id. id.0) may.next) (omega arith) h.ids;
  each = All-push IsTable s.living t h.each may.is;
}

-- the tables stay as tables are
tables_after : (c : Lists) (m : CatalogueRecord) → MayFollow (as_catalogue c) m → TablesAllowed c.tables → TablesAllowed (with_record c m).tables
tables_after c (made.Table t) may h = joined c.tables t may h
tables_after c (made.Column id new) may h = one_wider c.tables (table_name c.tables id) new may.accepted h
tables_after c (made.TableGone id) may h = one_less c.tables (table_name c.tables id) h
tables_after c m may h = h

module _ (records : List Record) (n : ℕ) (now : Catalogue) (contents : Data) (stands : AreRecovered records n now contents) (r : Record) (m : CatalogueRecord)
    (plan : IsPlan (catalogue_of records) (after_record (catalogue_of records) r) r m) where
  abbrev lists_now : Lists
  lists_now = catalogue_of records

  -- a table that it makes wasn't added
  pub is_new : IsNew contents m
  is_new = subst (λ d. IsNew d m) (sym stands.contents_are) (by m plan.next)
    where
      by : (m : CatalogueRecord) → HasNextId lists_now m → IsNew (data_of (Build records n)) m
      by (made.Table t) next = new_not_added (Build records n) t next
      by m next = tt

  lists_more : catalogue_of (records ++ r ∷ []) ≡ with_record lists_now m
  lists_more = catalogue_of-append records r ∙ plan.leaves

  data_more : data_of (Build (records ++ r ∷ []) n) ≡ with_table_of (data_of (Build records n)) m
  data_more = ap (λ q. data_of (Build (records ++ q ∷ []) n)) (sym plan.is) ∙ data_after (Build records n) m plan.next

  stands_more : HasRoom r → MayFollow now m → (catalogue : Catalogue) (new : Data) → catalogue ≡ as_catalogue (with_record lists_now m) → new ≡ with_table_of contents m
      → AreRecovered (records ++ r ∷ []) n catalogue new
  stands_more has may catalogue new lists is = record {
    lists = lists ∙ ap as_catalogue (sym lists_more);
    contents_are = is ∙ ap (λ d. with_table_of d m) stands.contents_are ∙ sym data_more;
    reached = record {
      small = subst AreSmall (sym (catalogue_of-append records r)) (small_after lists_now r (keeps r has) stands.reached.small);
      allowed = subst (λ (c : Lists). TablesAllowed c.tables) (sym lists_more) (tables_after lists_now m (subst (λ k. MayFollow k m) stands.lists may) stands.reached.allowed);
    };
  }

  -- it was carried out, or there was no memory
  pub carried : (new : Recovery) (result : Result (Unit {0}) RecoveryFault) → IsDefinition r → allows lists_now r ≡ true → HasRoom r → MayFollow now m
      → OnOk result (new.catalogue ≡ as_catalogue (with_record lists_now m)) → OnOk result (new.transactions.contents ≡ with_table_of contents m) → IfErr result (λ fault. fault ≡ NoMemory) → Recovers n records r new result
  carried new (Ok u) d a has may lists is wants = (is_allowed_by records r d a, stands_more has may new.catalogue new.transactions.contents lists is)
  carried new (Err fault) d a has may lists is wants = subst (λ f. Recovers n records r new (Err f)) (sym wants) tt
