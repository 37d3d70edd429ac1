-- What keeps a transaction: nothing, one after the other, and each step on it.
use Rattle.std.proofs.Common.{◌≡◌, ℕ, ◌+◌, ◌≤◌, ⊎_elim, Bool, true, false, cond, List, [], ◌∷◌, ◌++◌, Option, Some, None, length, take, refl, sym, ap, subst, ◌∙◌, append-nil, append_assoc, length-append, arith}
use Rattle.std.specs.Prelude.{find, is_some, unwrap_or}
use Rattle.std.proofs.Math.Seq.{take-append_seam}
use Rattle.std.proofs.lemmas.Bool.{or_from}
use Rattle.std.proofs.lemmas.List.Folds.{list_any-append}
use Rattle.ebr_base.specs.declared.numbers.TableId.{TableId}
use Rattle.ebr_base.specs.declared.row.Change.{Change}
use Rattle.ebr_base.specs.declared.row.RowId.{RowId}
use Rattle.ebr_base.specs.declared.row.TxId.{TxId}
use Rattle.ebr_versions.specs.Data.{changes_row, is_of, is_row}
use Rattle.ebr_versions.proofs.KeyLemmas.{is_row-true}
use Rattle.ebr_locks.specs.Locks.{locks_of}
use Rattle.ebr_locks.proofs.Released.{released-own}
use Rattle.ebr_locks.proofs.Taken.{tx-same}
use Rattle.ebr_tx.specs.declared.savepoints.TxMark.{TxMark}
use Rattle.ebr_tx.specs.Data.{Transaction, Data, IsLive, changed, is_named, not_begun, own}
use Rattle.ebr_tx.specs.Calls.{after_begin, begun_at, after_change, with_change, after_mark, marked, mark_of}
use Rattle.ebr_tx.proofs.Stays.{own-after}
use Rattle.ebr_seats.proofs.Others.{locks_other}
use Rattle.ebr_levels.specs.Keeps.{IsOutside, Keeps, Spares, UnderChange}
use Rattle.ebr_levels.proofs.OthersLemmas.{itself_no_higher, itself_or_outside, outside_no_higher, outside_differs, own_other, locked_by, others_locks, own_locks}
use Rattle.ebr_levels.proofs.EarlyLemmas.{still_early, early_step, early_begun, early_marked}

pub keeps_same : (d : Data) (t : TxId) (under : UnderChange) → Keeps d t under d
keeps_same d t under = record {
  tables = refl;
  committed = [];
  commits = sym (append-nil d.commits);
  added = [];
  changes = sym (append-nil (own d t).changes);
  spared = λ row h. refl;
  locked = [];
  locks = sym (append-nil (locks_of t d.locks));
  begun = λ h. refl;
  others = λ u out. refl;
  other_locks = λ u out. refl;
  early = λ e. e;
}

both_spare : (row : RowId) (xs ys : List Change) → changes_row row xs ≡ false → changes_row row ys ≡ false → changes_row row (xs ++ ys) ≡ false
both_spare row xs ys a b = list_any-append (is_of row) xs ys ∙ or_from (changes_row row xs) (changes_row row ys) a b

pub keeps_keeps : (a b c : Data) (t : TxId) (under : UnderChange) → Keeps a t under b → Keeps b t under c → Keeps a t under c
keeps_keeps a b c t under k l = record {
  tables = l.tables ∙ k.tables;
  committed = k.committed ++ l.committed;
  commits = l.commits ∙ ap (λ cs. cs ++ l.committed) k.commits ∙ append_assoc a.commits k.committed l.committed;
  added = k.added ++ l.added;
  changes = l.changes ∙ ap (λ cs. cs ++ l.added) k.changes ∙ append_assoc (own a t).changes k.added l.added;
  spared = λ row h. both_spare row k.added l.added (k.spared row h) (l.spared row h);
  locked = k.locked ++ l.locked;
  locks = l.locks ∙ ap (λ ls. ls ++ l.locked) k.locks ∙ append_assoc (locks_of t a.locks) k.locked l.locked;
  begun = λ h. l.begun (ap (λ (o : Option ℕ). is_some o) (k.begun h) ∙ h) ∙ k.begun h;
  others = λ u out. l.others u out ∙ k.others u out;
  other_locks = λ u out. l.other_locks u out ∙ k.other_locks u out;
  early = λ e. l.early (k.early e);
}

pub keeps_fewer : (a b : Data) (t : TxId) (under more : UnderChange) → ((x : TableId) → under t x ≡ true → more t x ≡ true) → Keeps a t more b → Keeps a t under b
keeps_fewer a b t under more each k = record {
  tables = k.tables;
  committed = k.committed;
  commits = k.commits;
  added = k.added;
  changes = k.changes;
  spared = λ row h. k.spared row (each row.table h);
  locked = k.locked;
  locks = k.locks;
  begun = k.begun;
  others = k.others;
  other_locks = k.other_locks;
  early = k.early;
}

-- ---- other transactions, none of them below this one

pub keeps_spared : (a b c : Data) (t : TxId) (under : UnderChange) → Keeps a t under b → Spares b t c → Keeps a t under c
keeps_spared a b c t under k l =
    let mine : own c t ≡ own b t = l.owns t (itself_no_higher t) in
    record {
      tables = l.tables ∙ k.tables;
      committed = k.committed ++ l.committed;
      commits = l.commits ∙ ap (λ cs. cs ++ l.committed) k.commits ∙ append_assoc a.commits k.committed l.committed;
      added = k.added;
      changes = ap (λ (x : Transaction). x.changes) mine ∙ k.changes;
      spared = k.spared;
      locked = k.locked;
      locks = l.locks t (itself_no_higher t) ∙ k.locks;
      begun = λ h. ap (λ (x : Transaction). x.begun) mine ∙ k.begun h;
      others = λ u out. l.owns u (outside_no_higher t u out) ∙ k.others u out;
      other_locks = λ u out. l.locks u (outside_no_higher t u out) ∙ k.other_locks u out;
      early = λ e. l.early (k.early e);
    }

-- ---- steps on the transaction

has_begun : (o : Option ℕ) (n : ℕ) → is_some o ≡ true → Some (unwrap_or o n) ≡ o
has_begun None n h = cc
has_begun (Some m) n h = refl

module _ (d : Data) (t : TxId) (under : UnderChange) (there : IsLive d t) where
  pub keeps_begun : Keeps d t under (after_begin d t)
  keeps_begun =
      let mine : own (after_begin d t) t ≡ begun_at (length d.commits) (own d t) = own-after t (begun_at (length d.commits)) (λ x. refl) d.live (changed t (begun_at (length d.commits)) d.live) refl there in
      record {
        tables = refl;
        committed = [];
        commits = sym (append-nil d.commits);
        added = [];
        changes = ap (λ (x : Transaction). x.changes) mine ∙ sym (append-nil (own d t).changes);
        spared = λ row h. refl;
        locked = [];
        locks = sym (append-nil (locks_of t d.locks));
        begun = λ h. ap (λ (x : Transaction). x.begun) mine ∙ has_begun (own d t).begun (length d.commits) h;
        others = λ u out. own_other t (begun_at (length d.commits)) (λ x. refl) d (after_begin d t) refl u (outside_differs t u out);
        other_locks = λ u out. refl;
        early = early_begun d (after_begin d t) t refl;
      }

  other_table : (row : RowId) (c : Change) → under t c.row.table ≡ false → under t row.table ≡ true → is_row c.row row ≡ false
  other_table row c off on = by (is_row c.row row) refl
    where
      by : (b : Bool) → is_row c.row row ≡ b → b ≡ false
      by true e = sym on ∙ ap (λ (r : RowId). under t r.table) (sym (is_row-true c.row row e)) ∙ off
      by false e = refl

  pub keeps_changed : (c : Change) → under t c.row.table ≡ false → Keeps d t under (after_change d t c)
  keeps_changed c off =
      let mine : own (after_change d t c) t ≡ with_change c (own d t) = own-after t (with_change c) (λ x. refl) d.live (changed t (with_change c) d.live) refl there in
      record {
        tables = refl;
        committed = [];
        commits = sym (append-nil d.commits);
        added = c ∷ [];
        changes = ap (λ (x : Transaction). x.changes) mine;
        spared = λ row h. or_from (is_row c.row row) false (other_table row c off h) refl;
        locked = [];
        locks = sym (append-nil (locks_of t d.locks));
        begun = λ h. ap (λ (x : Transaction). x.begun) mine;
        others = λ u out. own_other t (with_change c) (λ x. refl) d (after_change d t c) refl u (outside_differs t u out);
        other_locks = λ u out. refl;
        early = λ e. early_step t (with_change c) (λ x. refl) d (after_change d t c) refl within (e t) e;
      }
    where
      within : length d.commits ≤ length d.commits
      within = omega arith

abbrev pub with_locks : Data → TxId → List RowId → Data
with_locks d t rows = record d { locks = d.locks ++ locked_by t rows }

pub keeps_locks : (d : Data) (t : TxId) (under : UnderChange) (rows : List RowId) → Keeps d t under (with_locks d t rows)
keeps_locks d t under rows = record {
  tables = refl;
  committed = [];
  commits = sym (append-nil d.commits);
  added = [];
  changes = sym (append-nil (own d t).changes);
  spared = λ row h. refl;
  locked = locks_of t (locked_by t rows);
  locks = own_locks t rows d.locks;
  begun = λ h. refl;
  others = λ u out. refl;
  other_locks = λ u out. others_locks t u (outside_differs t u out) rows d.locks;
  early = λ e. e;
}

-- ---- back to a mark that was taken before

own_id : (t : TxId) (live : List Transaction) → (unwrap_or (find (is_named t) live) (not_begun t)).id ≡ t
own_id t [] = refl
own_id t (x ∷ xs) = by (is_named t x) refl (own_id t xs)
  where
    by : (q : Bool) → is_named t x ≡ q → (unwrap_or (find (is_named t) xs) (not_begun t)).id ≡ t → (unwrap_or (cond q (Some x) (find (is_named t) xs)) (not_begun t)).id ≡ t
    by true e rest = tx-same x.id t e
    by false e rest = rest

module _ (before now : Data) (t : TxId) (under : UnderChange) (there : IsLive now t) (k : Keeps before t under now) where
  abbrev m : TxMark
  m = mark_of before t

  same_locks : locks_of t (after_mark now t m).locks ≡ locks_of t before.locks
  same_locks = released-own t m.locks now.locks ∙ ap (take m.locks) k.locks ∙ take-append_seam (locks_of t before.locks) k.locked

  pub keeps_back : Keeps before t under (after_mark now t m)
  keeps_back =
      let mine : own (after_mark now t m) t ≡ marked m (own now t) = own-after t (marked m) (λ x. refl) now.live (changed t (marked m) now.live) refl there in
      record {
        tables = k.tables;
        committed = k.committed;
        commits = k.commits;
        added = [];
        changes = ap (λ (x : Transaction). x.changes) mine ∙ ap (take (length (own before t).changes)) k.changes ∙ take-append_seam (own before t).changes k.added ∙ sym (append-nil (own before t).changes);
        spared = λ row h. refl;
        locked = [];
        locks = same_locks ∙ sym (append-nil (locks_of t before.locks));
        begun = λ h. ap (λ (x : Transaction). x.begun) mine;
        others = λ u out. own_other t (marked m) (λ x. refl) now (after_mark now t m) refl u (outside_differs t u out) ∙ k.others u out;
        other_locks = λ u out. locks_other t u (outside_differs t u out) m.locks now.locks ∙ k.other_locks u out;
        early = λ e. early_marked now (after_mark now t m) t m refl (still_early (own before t).begun (length before.commits) (length now.commits) further (e t)) (k.early e);
      }
    where
      further : length before.commits ≤ length now.commits
      further =
          let n : length now.commits ≡ length before.commits + length k.committed = ap (λ (cs : List (List Change)). length cs) k.commits ∙ length-append before.commits k.committed in
          omega (arith, n)

  -- the transaction is what it was
  same_own : own (after_mark now t m) t ≡ own before t
  same_own =
      let mine : own (after_mark now t m) t ≡ marked m (own now t) = own-after t (marked m) (λ x. refl) now.live (changed t (marked m) now.live) refl there in
      let id : (own now t).id ≡ (own before t).id = own_id t now.live ∙ sym (own_id t before.live) in
      let changes : take m.changes (own now t).changes ≡ (own before t).changes = ap (take (length (own before t).changes)) k.changes ∙ take-append_seam (own before t).changes k.added in
      mine ∙ (λ i. record { id = id i; begun = (own before t).begun; changes = changes i; savepoints = (own before t).savepoints })

  pub spares_back : Spares before t (after_mark now t m)
  spares_back = record {
    tables = keeps_back.tables;
    committed = keeps_back.committed;
    commits = keeps_back.commits;
    owns = λ u low. ⊎_elim (λ (same : t ≡ u). subst (λ x. own (after_mark now t m) x ≡ own before x) same same_own) (λ (out : IsOutside t u). keeps_back.others u out) (itself_or_outside t u low);
    locks = λ u low. ⊎_elim (λ (same : t ≡ u). subst (λ x. locks_of x (after_mark now t m).locks ≡ locks_of x before.locks) same same_locks) (λ (out : IsOutside t u). keeps_back.other_locks u out) (itself_or_outside t u low);
    early = keeps_back.early;
  }
