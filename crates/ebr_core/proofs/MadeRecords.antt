-- What records that are made leave: commits leave the catalogue and its tables, and a definition leaves what is read off its record.
use Rattle.std.proofs.Common.{◌≡◌, ℕ, suc, ◌+◌, ◌≤◌, Bool, true, false, List, [], ◌∷◌, ◌++◌, length, refl, ap, ◌∙◌, arith}
use Rattle.std.specs.Prelude.{fold, nat_le, Some, Ok}
use Rattle.std.specs.List.{AllByRecursion}
use Rattle.std.proofs.lemmas.Grind.{fold-append}
use Rattle.std.proofs.lemmas.List.Sums.{sum_by-append}
use Rattle.ebr_base.specs.declared.row.Change.{Change}
use Rattle.ebr_base.specs.declared.row.TxId.{TxId}
use Rattle.ebr_tx.specs.Data.{Data, own}
use Rattle.ebr_base.specs.declared.numbers.EditionNo.{EditionNo}
use Rattle.ebr_ast.specs.declared.definition.Definition.{Definition}
use Rattle.ebr_script.specs.Pieces.{CreatesObject, stored_definition}
use Rattle.ebr_cross.specs.declared.record.CatalogueRecord.{CatalogueRecord}
use Rattle.ebr_cross.specs.declared.record.CatalogueRecord.TheVariants as made
use Rattle.ebr_cross.specs.Definitions.{outcome}
use Rattle.ebr_cross.specs.Catalogue.{Lists, first_lists}
use Rattle.ebr_record.specs.declared.record.Record.{Record}
use Rattle.ebr_record.specs.declared.record.Record.TheVariants as left
use Rattle.ebr_record.specs.Keeper.{share, max_journal, used_by}
use Rattle.ebr_database.specs.Base.{Base}
use Rattle.ebr_database.specs.Outcome.{and_then}
use Rattle.ebr_database.specs.Transact.{commit, keep_changes, kept_if, settled}
use Rattle.ebr_database.specs.Database.{Database, data_of, tables_from}
use Rattle.ebr_core.specs.Records.{record_of, after_record, catalogue_of}
use Rattle.ebr_core.specs.inside.Reached.{AreReached, IsCommit}
use Rattle.ebr_core.specs.inside.Tables.{HasNextId, with_table_of}
use Rattle.ebr_core.specs.inside.Stored.{max_stored}
use Rattle.ebr_core.specs.inside.Defined.{Defines, IsNew}
use Rattle.ebr_core.proofs.KnownTables.{data_after, new_not_added}
use Rattle.ebr_core.proofs.ReadsBack.{are_read_back}
use Rattle.ebr_core.proofs.SmallRecords.{fit}
use Rattle.ebr_core.proofs.ReachedRecords.{reached_more, reached_same}

-- ---- commits

commits_leave : (made : List Record) (c : Lists) → AllByRecursion IsCommit made → fold after_record c made ≡ c
commits_leave [] c all = refl
commits_leave (left.Commit changes ∷ made) c all = commits_leave made c all.1
commits_leave (r ∷ made) c all = absurd all.0

-- the catalogue behind commits
pub same_lists : (records made : List Record) → AllByRecursion IsCommit made → catalogue_of (records ++ made) ≡ catalogue_of records
same_lists records made all = fold-append after_record first_lists records made ∙ commits_leave made (catalogue_of records) all

pub reached_commits : (records made : List Record) → AllByRecursion IsCommit made → AreReached records → AreReached (records ++ made)
reached_commits records made all h = reached_same records (records ++ made) (same_lists records made all) h

-- the tables behind commits
no_table : (n : ℕ) (made : List Record) → AllByRecursion IsCommit made → tables_from n made ≡ []
no_table n [] all = refl
no_table n (left.Commit changes ∷ made) all = no_table n made all.1
no_table n (r ∷ made) all = absurd all.0

pub same_tables : (n : ℕ) (records made : List Record) → AllByRecursion IsCommit made → tables_from n (records ++ made) ≡ tables_from n records
same_tables n [] made all = no_table n made all
same_tables n (left.Table name columns key ∷ rest) made all = ap (λ l. record { id = record { 0 = suc n }; key = key } ∷ l) (same_tables (suc n) rest made all)
same_tables n (r ∷ rest) made all = same_tables n rest made all

-- COMMIT makes a commit, or no record
by_room : (t : TxId) (d : Data) (used : ℕ) (c : Change) (cs : List Change) (fits : Bool) → AllByRecursion IsCommit (and_then (kept_if fits (left.Commit (c ∷ cs)) used) (settled t d)).made
by_room t d used c cs true = (tt, tt)
by_room t d used c cs false = tt

by_changes : (t : TxId) (d : Data) (used : ℕ) (changes : List Change) → AllByRecursion IsCommit (and_then (keep_changes changes used) (settled t d)).made
by_changes t d used [] = tt
by_changes t d used (c ∷ cs) = by_room t d used c cs (nat_le (used + share (left.Commit (c ∷ cs))) max_journal)

pub commit_makes : (t : TxId) (b : Base) → AllByRecursion IsCommit (commit t b).made
commit_makes t b = by_changes t b.data_now b.used (own b.data_now t).changes

-- ---- definitions

pub used_more : (records : List Record) (r : Record) → used_by (records ++ r ∷ []) ≡ used_by records + share r
used_more records r = omega (arith, sum_by-append share records (r ∷ []))

new : (db : Database) (r : CatalogueRecord) → HasNextId (catalogue_of db.records) r → IsNew (data_of db) r
new db (made.Table d) next = new_not_added db d next
new db r next = tt

-- what a definition makes of a database
pub defines : (db : Database) (e : EditionNo) (sessions : List EditionNo) (what : Definition) (text : List ℕ) (r : CatalogueRecord)
    → (CreatesObject what → stored_definition text ≡ Some what) → length text ≤ max_stored → outcome (catalogue_of db.records) e sessions what text ≡ Ok r
    → AreReached db.records → Defines db r
defines db e sessions what text r spells short is reached =
    let f = fit (catalogue_of db.records) e sessions what text r reached.small short is in
    record {
      small = f.0;
      new = new db r f.1;
      lists = are_read_back db.records e sessions what text r spells is;
      base =
          ap (λ d. record { data_now = d; used = used_by (db.records ++ record_of r ∷ []) }) (data_after db r f.1)
          ∙ ap (λ used. record { data_now = with_table_of (data_of db) r; used = used }) (used_more db.records (record_of r));
      reached = reached_more db.records e sessions what text r spells short is reached;
    }
