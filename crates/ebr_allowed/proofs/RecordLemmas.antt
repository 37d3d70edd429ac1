-- Records behind records: what is read off them, and that allowed ones stay so.
use Rattle.std.proofs.Common.{◌≡◌, ℕ, suc, List, [], ◌∷◌, ◌++◌, refl, sym, ap, subst, ◌∙◌, append-nil, append_assoc}
use Rattle.std.specs.List.{filter_map}
use Rattle.std.proofs.lemmas.Grind.{fold-append}
use Rattle.std.proofs.lemmas.List.Elements.{filter_map-append}
use Rattle.ebr_base.specs.declared.row.Change.{Change}
use Rattle.ebr_base.specs.declared.table.TableDef.{TableDef}
use Rattle.ebr_versions.specs.declared.table.Table.{Table as Added}
use Rattle.ebr_cross.specs.Catalogue.{Lists, first_lists}
use Rattle.ebr_tx.specs.Data.{Data}
use Rattle.ebr_record.specs.declared.record.Record.{Record}
use Rattle.ebr_record.specs.declared.record.Record.TheVariants as left
use Rattle.ebr_database.specs.Base.{Base}
use Rattle.ebr_database.specs.Database.{Database, commit_in, tables_from, data_of, base_in}
use Rattle.ebr_integrity.specs.inside.Works.{AreAllowedCommits, Works}
use Rattle.ebr_core.specs.Records.{after_record, catalogue_of}
use Rattle.ebr_allowed.specs.Allowed.{AllowedBehind, AreAllowed, RecordsBeforeAreAllowed}

pub catalogue_more : (records : List Record) (r : Record) → catalogue_of (records ++ r ∷ []) ≡ after_record (catalogue_of records) r
catalogue_more records r = fold-append after_record first_lists records (r ∷ [])

pub commits_more : (records more : List Record) → filter_map commit_in (records ++ more) ≡ filter_map commit_in records ++ filter_map commit_in more
commits_more records more = filter_map-append commit_in records more

-- a commit changes nothing of the tables
pub tables_commit : (n : ℕ) (records : List Record) (changes : List Change) → tables_from n (records ++ left.Commit changes ∷ []) ≡ tables_from n records
tables_commit n [] changes = refl
tables_commit n (left.Table name columns key ∷ rest) changes = ap (λ (ts : List Added). record { id = record { 0 = suc n }; key = key } ∷ ts) (tables_commit (suc n) rest changes)
tables_commit n (r ∷ rest) changes = tables_commit n rest changes

-- ---- allowed behind others

pub behind_append : (before xs ys : List Record) → AllowedBehind before xs → AllowedBehind (before ++ xs) ys → AllowedBehind before (xs ++ ys)
behind_append before [] ys h k = subst (λ rs. AllowedBehind rs ys) (append-nil before) k
behind_append before (x ∷ xs) ys h k = (h.0, behind_append (before ++ x ∷ []) xs ys h.1 (subst (λ rs. AllowedBehind rs ys) (sym (append_assoc before (x ∷ []) xs)) k))

pub allowed_more : (records more : List Record) → AreAllowed records → AllowedBehind records more → AreAllowed (records ++ more)
allowed_more records more h k = behind_append [] records more h k

-- the first of them
behind_front : (before xs ys : List Record) → AllowedBehind before (xs ++ ys) → AllowedBehind before xs
behind_front before [] ys h = tt
behind_front before (x ∷ xs) ys h = (h.0, behind_front (before ++ x ∷ []) xs ys h.1)

pub records_before : RecordsBeforeAreAllowed
records_before records more h = behind_front [] records more h

-- ---- commits

abbrev AreCommits : List Record → List Record → Type 0
AreCommits records made = AreAllowedCommits (catalogue_of records).tables.living (tables_from 0 records) (filter_map commit_in records) made

-- behind a commit the others are as they were
behind_commit : (records : List Record) (changes : List Change) (rest : List Record)
    → AreAllowedCommits (catalogue_of records).tables.living (tables_from 0 records) (filter_map commit_in records ++ changes ∷ []) rest → AreCommits (records ++ left.Commit changes ∷ []) rest
behind_commit records changes rest h =
    subst (λ (c : Lists). AreAllowedCommits c.tables.living (tables_from 0 (records ++ left.Commit changes ∷ [])) (filter_map commit_in (records ++ left.Commit changes ∷ [])) rest) (sym (catalogue_more records (left.Commit changes)))
    (subst (λ (ts : List Added). AreAllowedCommits (catalogue_of records).tables.living ts (filter_map commit_in (records ++ left.Commit changes ∷ [])) rest) (sym (tables_commit 0 records changes))
    (subst (λ (cs : List (List Change)). AreAllowedCommits (catalogue_of records).tables.living (tables_from 0 records) cs rest) (sym (commits_more records (left.Commit changes ∷ []))) h))

pub commits_allowed : (records made : List Record) → AreCommits records made → AllowedBehind records made
commits_allowed records [] h = tt
commits_allowed records (left.Commit changes ∷ rest) h = (h.0, commits_allowed (records ++ left.Commit changes ∷ []) rest (behind_commit records changes rest h.1))
commits_allowed records (r ∷ rest) h = absurd h

-- The records are commits: the catalogue and the tables are as they were.
pub record SameStored (records made : List Record) : Type 0 where
  pub catalogue : catalogue_of (records ++ made) ≡ catalogue_of records
  pub tables : tables_from 0 (records ++ made) ≡ tables_from 0 records

pub same_stored : (records made : List Record) (living : List TableDef) (tables : List Added) (commits : List (List Change)) → AreAllowedCommits living tables commits made → SameStored records made
same_stored records [] living tables commits h = record { catalogue = ap catalogue_of (append-nil records); tables = ap (tables_from 0) (append-nil records) }
same_stored records (left.Commit changes ∷ rest) living tables commits h =
    let more : SameStored (records ++ left.Commit changes ∷ []) rest = same_stored (records ++ left.Commit changes ∷ []) rest living tables (commits ++ changes ∷ []) h.1 in
    record {
      catalogue = ap catalogue_of (sym (append_assoc records (left.Commit changes ∷ []) rest)) ∙ more.catalogue ∙ catalogue_more records (left.Commit changes);
      tables = ap (tables_from 0) (sym (append_assoc records (left.Commit changes ∷ []) rest)) ∙ more.tables ∙ tables_commit 0 records changes;
    }
same_stored records (r ∷ rest) living tables commits h = absurd h

-- ---- what is read back

-- the database with what was made
abbrev pub with_made : Database → List Record → Data → Database
with_made db made d = record db { records = db.records ++ made; live = d.live; locks = d.locks }

pub data_back : (db : Database) (living : List TableDef) (made : List Record) (now : Base) → Works living (base_in db) made now → data_of (with_made db made now.data_now) ≡ now.data_now
data_back db living made now w =
    let commits : filter_map commit_in (db.records ++ made) ≡ now.data_now.commits = commits_more db.records made ∙ sym w.more in
    let stored : SameStored db.records made = same_stored db.records made living (tables_from 0 db.records) (filter_map commit_in db.records) w.allowed in
    let tables : tables_from 0 (db.records ++ made) ≡ now.data_now.tables = stored.tables ∙ sym w.tables in
    λ i. record { commits = commits i; tables = tables i; live = now.data_now.live; locks = now.data_now.locks }
