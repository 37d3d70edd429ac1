-- A database of allowed records in which nothing was asked is consistent.
use Rattle.std.proofs.Common.{◌≡◌, ℕ, zero, suc, ◌≤◌, true, false, List, [], ◌∷◌, ◌++◌, length, refl, sym, ap, subst, ◌∙◌, append-nil, append_assoc, arith}
use Rattle.std.specs.Prelude.{Option, Some, None, find, replicate, slice_get, unwrap_or}
use Rattle.std.specs.List.{AllByRecursion, filter_map}
use Rattle.std.proofs.lemmas.Bool.{and_parts, both_ways}
use Rattle.std.proofs.lemmas.Option.{same_Some}
use Rattle.std.proofs.lemmas.List.Concat.{flat_map-append}
use Rattle.std.proofs.lemmas.List.Elements.{All-nil}
use Rattle.ebr_base.specs.declared.numbers.EditionNo.{EditionNo}
use Rattle.ebr_base.specs.declared.row.Change.{Change}
use Rattle.ebr_base.specs.declared.row.TxId.{TxId}
use Rattle.ebr_base.specs.declared.table.TableDef.{TableDef}
use Rattle.ebr_versions.specs.declared.table.Table.{Table as Added}
use Rattle.ebr_versions.specs.Data.{changes_in}
use Rattle.ebr_versions.specs.Keys.{is_added}
use Rattle.ebr_versions.specs.Store.{OfAdded}
use Rattle.ebr_tx.specs.Commits.{IsNumbered, is_numbered}
use Rattle.ebr_tx.specs.Data.{Transaction, is_named, not_begun}
use Rattle.ebr_tx.specs.Calls.{first_transactions}
use Rattle.ebr_tx.specs.Limits.{max_changes, max_record, record_length}
use Rattle.ebr_tx.specs.inside.Sound.{IsSound, ShareNoKey, TakesFreeKeys}
use Rattle.ebr_tx.proofs.Stays.{first-begun}
use Rattle.ebr_tables.specs.Tables.{has_id}
use Rattle.ebr_record.specs.declared.record.Record.{Record}
use Rattle.ebr_record.specs.declared.record.Record.TheVariants as left
use Rattle.ebr_database.specs.Database.{Database, Session, commit_in, data_of, session_at, tables_from}
use Rattle.ebr_seats.specs.Ends.{begun_in}
use Rattle.ebr_seats.proofs.First.{one_of}
use Rattle.ebr_levels.proofs.EarlyLemmas.{early_not_begun}
use Rattle.ebr_integrity.specs.Commits.{IsSuitable, suits_table}
use Rattle.ebr_integrity.specs.Integrity.{HasIntegrity, IsOfAdded}
use Rattle.ebr_integrity.proofs.OrderLemmas.{none_changed, order_first}
use Rattle.ebr_integrity.proofs.ChangeLemmas.{all_append, all_weaker}
use Rattle.ebr_integrity.proofs.WrittenLemmas.{suitable_numbered}
use Rattle.ebr_core.specs.Records.{catalogue_of}
use Rattle.ebr_core.specs.Machine.{Build}
use Rattle.ebr_allowed.specs.Allowed.{Allowed, AllowedBehind}
use Rattle.ebr_allowed.specs.Consistent.{FirstIsConsistent, SessionStands, living_in}
use Rattle.ebr_allowed.proofs.AddedLemmas.{integrity_more}
use Rattle.ebr_allowed.proofs.CatalogueLemmas.{catalogue_stands}
use Rattle.ebr_allowed.proofs.DefinedLemmas.{known_by_id, tables_more}
use Rattle.ebr_allowed.proofs.RecordLemmas.{commits_more, tables_commit}

-- ---- the commits, with no transaction

abbrev Any : Change → Type 0
Any c = Unit {0}

abbrev Intact : List Record → Type 0
Intact records = HasIntegrity Any (filter_map commit_in records) (tables_from 0 records) []

none_sound : (commits : List (List Change)) (tables : List Added) → IsSound commits tables []
none_sound commits tables = record {
  free = λ t x e. cc;
  apart = λ t u x y ne e k. cc;
  added = λ t x e. cc;
  few = λ t x e. cc;
  short = λ t x e. cc;
  begun = λ t x e. cc;
}

intact_nothing : Intact []
intact_nothing = record {
  sound = none_sound [] [];
  keys = λ t a b key some at_a at_b. cc;
  numbered = tt;
  added = tt;
  orderly = order_first Any [] [] (λ u. refl);
}

-- a database that has the records
abbrev with_records : List Record → Database
with_records records = record { records = records; live = []; locks = []; sessions = [] }

suitable_added : (records : List Record) (c : Change) → IsSuitable (catalogue_of records).tables.living c → IsOfAdded (tables_from 0 records) c
suitable_added records c h = by (find (has_id c.row.table) (catalogue_of records).tables.living) refl (and_parts (is_numbered c) (suits_table (find (has_id c.row.table) (catalogue_of records).tables.living) c.values) h).1
  where
    by : (o : Option TableDef) → find (has_id c.row.table) (catalogue_of records).tables.living ≡ o → suits_table o c.values ≡ true → IsOfAdded (tables_from 0 records) c
    by None e k = absurd (both_ways false refl k)
    by (Some t) e k = known_by_id (with_records records) c.row.table t e

joined : (commits : List (List Change)) (changes : List Change) → changes_in (commits ++ changes ∷ []) ≡ changes_in commits ++ changes
joined commits changes = flat_map-append (λ (xs : List Change). xs) commits (changes ∷ []) ∙ ap (λ xs. changes_in commits ++ xs) (append-nil changes)

intact_step : (records : List Record) (r : Record) → Allowed records r → Intact records → Intact (records ++ r ∷ [])
intact_step records (left.Commit changes) a h =
    let commits : List (List Change) = filter_map commit_in records in
    let tables : List Added = tables_from 0 records in
    let living : List TableDef = (catalogue_of records).tables.living in
    let now : HasIntegrity Any (commits ++ changes ∷ []) tables [] = record {
      sound = none_sound (commits ++ changes ∷ []) tables;
      keys = a.keys;
      numbered = subst (AllByRecursion IsNumbered) (sym (joined commits changes)) (all_append IsNumbered (changes_in commits) changes h.numbered (all_weaker (IsSuitable living) IsNumbered (suitable_numbered living) changes a.each));
      added = subst (AllByRecursion (IsOfAdded tables)) (sym (joined commits changes)) (all_append (IsOfAdded tables) (changes_in commits) changes h.added (all_weaker (IsSuitable living) (IsOfAdded tables) (suitable_added records) changes a.each));
      orderly = order_first Any (commits ++ changes ∷ []) [] (λ u. refl);
    } in
    subst (λ (cs : List (List Change)). HasIntegrity Any cs (tables_from 0 (records ++ left.Commit changes ∷ [])) []) (sym (commits_more records (left.Commit changes ∷ [])))
    (subst (λ (ts : List Added). HasIntegrity Any (commits ++ changes ∷ []) ts []) (sym (tables_commit 0 records changes)) now)
intact_step records r a h =
    let more = tables_more 0 records r in
    subst (λ (cs : List (List Change)). HasIntegrity Any cs (tables_from 0 (records ++ r ∷ [])) []) (sym (commits_more records (r ∷ []) ∙ append-nil (filter_map commit_in records)))
    (subst (λ (ts : List Added). HasIntegrity Any (filter_map commit_in records) ts []) (sym more.1) (integrity_more Any (filter_map commit_in records) (tables_from 0 records) more.0 [] h))

intact_behind : (before records : List Record) → AllowedBehind before records → Intact before → Intact (before ++ records)
intact_behind before [] a h = subst Intact (sym (append-nil before)) h
intact_behind before (r ∷ rest) a h = subst Intact (append_assoc before (r ∷ []) rest) (intact_behind (before ++ r ∷ []) rest a.1 (intact_step before r a.0 h))

-- ---- with transactions that have done nothing

found_none : (n : ℕ) (u : TxId) (y : Transaction) → find (is_named u) (first_transactions n) ≡ Some y → y.changes ≡ []
found_none n u y e = sym (ap (λ (o : Option Transaction). (unwrap_or o (not_begun u)).changes) e) ∙ none_changed n u

first_sound : (n : ℕ) (commits : List (List Change)) (tables : List Added) → IsSound commits tables (first_transactions n)
first_sound n commits tables = record {
  free = λ u y e. subst (TakesFreeKeys commits tables []) (sym (found_none n u y e)) tt;
  apart = λ u v y z ne e k. subst (λ cs. ShareNoKey tables cs z.changes) (sym (found_none n u y e)) (λ c d a b. absurd a);
  added = λ u y e. subst (λ (cs : List Change). OfAdded tables cs) (sym (found_none n u y e)) (All-nil (λ (c : Change). is_added tables c.row.table ≡ true));
  few = λ u y e. subst (λ (cs : List Change). length cs ≤ max_changes) (sym (found_none n u y e)) none;
  short = λ u y e. subst (λ cs. record_length cs ≤ max_record) (sym (found_none n u y e)) small;
  begun = λ u y e k. found_none n u y e;
}
  where
    none : 0 ≤ max_changes
    none = omega arith

    small : record_length [] ≤ max_record
    small = omega arith

first_right : (P : Change → Type 0) (n : ℕ) (commits : List (List Change)) (tables : List Added) → HasIntegrity Any commits tables [] → HasIntegrity P commits tables (first_transactions n)
first_right P n commits tables h = record {
  sound = first_sound n commits tables;
  keys = h.keys;
  numbered = h.numbered;
  added = h.added;
  orderly = order_first P commits (first_transactions n) (none_changed n);
}

-- ---- the sessions

record IsOneOf (n : ℕ) (b x : Session) (k : ℕ) : Type 0 where
  is : b ≡ x
  low : 1 ≤ k
  high : k ≤ n

at_place : (n : ℕ) (b x : Session) (k : ℕ) → slice_get (replicate n b) k ≡ Some x → IsOneOf n b x (suc k)
at_place zero b x k e = cc
at_place (suc n) b x zero e = record { is = same_Some b x e; low = omega arith; high = omega arith }
at_place (suc n) b x (suc k) e = let rest : IsOneOf n b x (suc k) = at_place n b x k e in record { is = rest.is; low = omega arith; high = omega (arith, rest.high) }

at_number : (n : ℕ) (b x : Session) (k : ℕ) → session_at (replicate n b) k ≡ Some x → IsOneOf n b x k
at_number n b x zero e = cc
at_number n b x (suc k) e = at_place n b x k e

pub first_is_consistent : FirstIsConsistent
first_is_consistent records n a =
    let db : Database = Build records n in
    let e : EditionNo = (catalogue_of records).editions.default in
    record {
      records = a;
      fit = record {
        intact = first_right (IsSuitable (living_in db)) n (filter_map commit_in records) (tables_from 0 records) (intact_behind [] records a intact_nothing);
        known = known_by_id db;
      };
      early = early_not_begun (data_of db) (first-begun n);
      sessions = λ s x at.
          let one : IsOneOf n (begun_in e) x s.0 = at_number n (begun_in e) x s.0 at in
          subst (SessionStands (catalogue_of records).editions.made (data_of db) s) one.is
          (record { depth = 0; stack = one_of n s one.low one.high; closed = λ q. refl; mark = tt; lives = (catalogue_stands records a).first });
    }
