-- What is read off a database after each ask for transactions.
use Rattle.std.proofs.Common.{◌≡◌, ℕ, suc, ◌+◌, Bool, true, false, List, [], ◌∷◌, ◌++◌, Option, Some, None, Err, refl, sym, ap, ◌∙◌, append-nil, arith}
use Rattle.std.specs.Prelude.{nat_le}
use Rattle.std.specs.List.{filter_map}
use Rattle.std.proofs.lemmas.List.Elements.{filter_map-append}
use Rattle.std.proofs.lemmas.List.Sums.{sum_by_push}
use Rattle.ebr_base.specs.declared.code.Code.{Code}
use Rattle.ebr_base.specs.declared.code.Code.TheVariants.{Ebr}
use Rattle.ebr_base.specs.declared.numbers.SessionId.{SessionId}
use Rattle.ebr_base.specs.declared.row.Change.{Change}
use Rattle.ebr_base.specs.declared.row.TxId.{TxId}
use Rattle.ebr_tx.specs.declared.savepoints.Savepoint.{Savepoint}
use Rattle.ebr_tx.specs.Data.{Data, own}
use Rattle.ebr_tx.specs.Calls.{back_to_savepoint, savepoint_named, back_to_answer, push_refusal, after_push, after_settle, with_commit}
use Rattle.ebr_record.specs.declared.record.Record.{Record}
use Rattle.ebr_record.specs.declared.record.Record.TheVariants as made
use Rattle.ebr_record.specs.Keeper.{share, used_by, max_journal}
use Rattle.ebr_database.specs.Base.{Base}
use Rattle.ebr_database.specs.Outcome.{gives, and_then}
use Rattle.ebr_database.specs.Transact.{Done, done, kept_if, keep_changes, settled, pushed, roll_back, savepoint, pop}
use Rattle.ebr_database.specs.Database.{Database, commit_in, tables_from, data_of, base_in}
use Rattle.ebr_database.specs.ReadBack.{IsReadBack, AreReadBack}

-- no record more
given_back : (db : Database) (b : Base) (a : Done) → b.data_now.commits ≡ (data_of db).commits → b.data_now.tables ≡ (data_of db).tables → b.used ≡ used_by db.records → IsReadBack db (gives b a)
given_back db b a commits tables used =
    ap (λ rs. record { data_now = record { commits = filter_map commit_in rs; tables = tables_from 0 rs; live = b.data_now.live; locks = b.data_now.locks }; used = used_by rs }) (append-nil db.records)
    ∙ (λ i. record { data_now = record { commits = sym commits i; tables = sym tables i; live = b.data_now.live; locks = b.data_now.locks }; used = sym used i })

-- a commit's record is no table's
no_table : (n : ℕ) (rs : List Record) (cs : List Change) → tables_from n (rs ++ made.Commit cs ∷ []) ≡ tables_from n rs
no_table n [] cs = refl
no_table n (made.Table name columns key ∷ rest) cs = ap (λ ts. record { id = record { 0 = suc n }; key = key } ∷ ts) (no_table (suc n) rest cs)
no_table n (r ∷ rest) cs = no_table n rest cs

module _ (db : Database) (t : TxId) where
  by_room : (c : Change) (cs : List Change) → (own (data_of db) t).changes ≡ c ∷ cs → (fits : Bool)
      → IsReadBack db (and_then (kept_if fits (made.Commit (c ∷ cs)) (used_by db.records)) (settled t (data_of db)))
  by_room c cs is false = given_back db (base_in db) (Err (Ebr 42)) refl refl refl
  by_room c cs is true =
      let d : Data = after_settle (data_of db) t in
      let used : used_by (db.records ++ made.Commit (c ∷ cs) ∷ []) ≡ used_by db.records + share (made.Commit (c ∷ cs)) = omega (arith, sum_by_push share db.records (made.Commit (c ∷ cs))) in
      let commits : filter_map commit_in (db.records ++ made.Commit (c ∷ cs) ∷ []) ≡ d.commits =
      filter_map-append commit_in db.records (made.Commit (c ∷ cs) ∷ []) ∙ ap (with_commit (data_of db).commits) (sym is) in
      λ i. record { data_now = record { commits = commits i; tables = no_table 0 db.records (c ∷ cs) i; live = d.live; locks = d.locks }; used = used i }

  by_changes : (cs : List Change) → (own (data_of db) t).changes ≡ cs → IsReadBack db (and_then (keep_changes cs (used_by db.records)) (settled t (data_of db)))
  by_changes [] is = given_back db (record { data_now = after_settle (data_of db) t; used = used_by db.records }) done (ap (with_commit (data_of db).commits) is) refl refl
  by_changes (c ∷ cs) is = by_room c cs is (nat_le (used_by db.records + share (made.Commit (c ∷ cs))) max_journal)

by_savepoint : (db : Database) (t : TxId) (name : List ℕ) (s : Option Savepoint) (a : Done) → IsReadBack db (gives (record { data_now = back_to_savepoint (data_of db) t name s; used = used_by db.records }) a)
by_savepoint db t name None a = given_back db (record { data_now = back_to_savepoint (data_of db) t name None; used = used_by db.records }) a refl refl refl
by_savepoint db t name (Some s) a = given_back db (record { data_now = back_to_savepoint (data_of db) t name (Some s); used = used_by db.records }) a refl refl refl

by_refusal : (db : Database) (s : SessionId) (refusal : Option Code) → IsReadBack db (pushed refusal s (base_in db))
by_refusal db s None = given_back db (record { data_now = after_push (data_of db) s; used = used_by db.records }) done refl refl refl
by_refusal db s (Some code) = given_back db (base_in db) (Err code) refl refl refl

pub read_back : (db : Database) → AreReadBack db
read_back db = record {
  commit = λ t. by_changes db t (own (data_of db) t).changes refl;
  roll_back = λ t. given_back db (roll_back t (base_in db)).state done refl refl refl;
  savepoint = λ t name. given_back db (savepoint t name (base_in db)).state done refl refl refl;
  back_to = λ t name. by_savepoint db t name (savepoint_named (data_of db) t name) (back_to_answer (data_of db) t name);
  push = λ s. by_refusal db s (push_refusal (data_of db) s);
  pop = λ s failed. given_back db (pop s failed (base_in db)).state (pop s failed (base_in db)).value refl refl refl;
}
