-- What holds of the live transactions holds after each kind of change to them.
use Rattle.std.proofs.Common.{◌≡◌, ℕ, zero, suc, ◌≤◌, ◌⊎◌, inl, inr, ⊎_elim, Bool, true, false, not, cond, List, [], ◌∷◌, ◌++◌, Some, None, length, take, refl, sym, ap, subst, ◌∙◌, arith}
use Rattle.std.specs.Prelude.{All, filter, find, unwrap_or, option_map}
use Rattle.std.specs.List.{AllByRecursion}
use Rattle.std.proofs.lemmas.Bool.{both_ways}
use Rattle.std.proofs.lemmas.Option.{same_Some}
use Rattle.std.proofs.lemmas.List.Elements.{All-nil, All-head, All-tail, recursion_from_All}
use Rattle.ebr_base.specs.declared.row.Change.{Change}
use Rattle.ebr_base.specs.declared.row.TxId.{TxId}
use Rattle.ebr_versions.specs.declared.table.Table.{Table}
use Rattle.ebr_versions.specs.Data.{last_change, Latest}
use Rattle.ebr_versions.specs.Keys.{is_added, key_of, row_in, KeysDiffer}
use Rattle.ebr_versions.specs.Store.{OfAdded}
use Rattle.ebr_versions.proofs.KeyLemmas.{OfAdded-append, key_places-append}
use Rattle.ebr_locks.specs.Locks.{same_tx}
use Rattle.ebr_locks.proofs.Taken.{tx-same}
use Rattle.ebr_tx.specs.declared.savepoints.Savepoint.{Savepoint}
use Rattle.ebr_tx.specs.declared.savepoints.TxMark.{TxMark}
use Rattle.ebr_tx.specs.Data.{Transaction, Data, IsLive, own, is_named, names_of, IsIn, not_begun, named_at, changed}
use Rattle.ebr_tx.specs.Reads.{over}
use Rattle.ebr_tx.specs.Calls.{begun_at, with_change, with_savepoint, kept_to, marked, ended, with_commit, first_transactions, MayCommit}
use Rattle.ebr_tx.specs.Limits.{max_changes, max_record, record_length}
use Rattle.ebr_tx.specs.inside.Sound.{Among, IsSound, MayAdd, ShareNoKey, TakesFreeKeys, key_by}
use Rattle.ebr_tx.proofs.FreeKeys.{keys_differ}
use Rattle.ebr_tx.proofs.SoundLemmas.{own_found, sound_cut, sound_kept, sound_added, sound_settled, found_named}

abbrev no_changes : List Change
no_changes = []

take_nil : (n : ℕ) → take n no_changes ≡ no_changes
take_nil zero = refl
take_nil (suc n) = refl

module _ (commits : List (List Change)) (tables : List Table) (live : List Transaction) where
  abbrev mine : TxId → Transaction
  mine t = unwrap_or (find (is_named t) live) (not_begun t)

  pub sound_begun : (t : TxId) (n : ℕ) → IsIn (names_of live) t → IsSound commits tables live → IsSound commits tables (changed t (begun_at n) live)
  sound_begun t n there sound = sound_kept t (begun_at n) (λ x. refl) commits tables live (mine t) (own_found t live there) sound refl (λ e. cc)

  pub sound_savepoint : (t : TxId) (s : Savepoint) → IsIn (names_of live) t → IsSound commits tables live → IsSound commits tables (changed t (with_savepoint s) live)
  sound_savepoint t s there sound = sound_kept t (with_savepoint s) (λ x. refl) commits tables live (mine t) (own_found t live there) sound refl (λ e. e)

  pub sound_back_to : (t : TxId) (name : List ℕ) (n : ℕ) → IsIn (names_of live) t → IsSound commits tables live → IsSound commits tables (changed t (kept_to name n) live)
  sound_back_to t name n there sound =
      sound_cut t (kept_to name n) (λ x. refl) commits tables live (mine t) (own_found t live there) n sound refl
      (λ e. ap (take n) (sound.begun t (mine t) (own_found t live there) e) ∙ take_nil n)

  pub sound_marked : (t : TxId) (m : TxMark) → IsIn (names_of live) t → (m.begun ≡ None → m.changes ≡ 0) → IsSound commits tables live → IsSound commits tables (changed t (marked m) live)
  sound_marked t m there first sound =
      sound_cut t (marked m) (λ x. refl) commits tables live (mine t) (own_found t live there) m.changes sound refl (λ e. ap (λ n. take n (mine t).changes) (first e))

  pub sound_ended : (t : TxId) → IsIn (names_of live) t → IsSound commits tables live → IsSound commits tables (changed t ended live)
  sound_ended t there sound = sound_cut t ended (λ x. refl) commits tables live (mine t) (own_found t live there) 0 sound refl (λ e. refl)

  pub sound_changed_more : (t : TxId) (c : Change) → IsIn (names_of live) t → IsSound commits tables live → MayAdd commits tables live t (mine t) c → IsSound commits tables (changed t (with_change c) live)
  sound_changed_more t c there sound may = sound_added commits tables live t (mine t) c (own_found t live there) sound may

  -- a commit of the changes, if there are any, and the end of their transaction
  pub sound_done : (t : TxId) → IsIn (names_of live) t → IsSound commits tables live → IsSound (with_commit commits (mine t).changes) tables (changed t ended live)
  sound_done t there sound = by (mine t).changes refl
    where
      by : (cs : List Change) → (mine t).changes ≡ cs → IsSound (with_commit commits cs) tables (changed t ended live)
      by [] e = sound_ended t there sound
      by (c ∷ cs) e =
          subst (λ (xs : List Change). IsSound (commits ++ xs ∷ []) tables (changed t ended live)) e
          (sound_settled commits tables live t (mine t) (own_found t live there) sound)

-- what is found where one more transaction stands at the end
found_push : (u : TxId) (xs : List Transaction) (z y : Transaction) → find (is_named u) (xs ++ z ∷ []) ≡ Some y → (find (is_named u) xs ≡ Some y) ⊎ (z ≡ y)
found_push u [] z y e = by (is_named u z) e
  where
    by : (b : Bool) → cond b (Some z) None ≡ Some y → (find (is_named u) [] ≡ Some y) ⊎ (z ≡ y)
    by true h = inr (same_Some z y h)
    by false h = cc
found_push u (x ∷ xs) z y e = by (is_named u x) e (found_push u xs z y)
  where
    by : (b : Bool) → cond b (Some x) (find (is_named u) (xs ++ z ∷ [])) ≡ Some y → (find (is_named u) (xs ++ z ∷ []) ≡ Some y → (find (is_named u) xs ≡ Some y) ⊎ (z ≡ y))
        → (cond b (Some x) (find (is_named u) xs) ≡ Some y) ⊎ (z ≡ y)
    by true h rest = inl h
    by false h rest = rest h

pub sound_pushed : (commits : List (List Change)) (tables : List Table) (live : List Transaction) (t : TxId) → IsSound commits tables live → IsSound commits tables (live ++ not_begun t ∷ [])
sound_pushed commits tables live t sound = record {
  free = λ u y e. ⊎_elim (λ (a : find (is_named u) live ≡ Some y). sound.free u y a)
      (λ (b : not_begun t ≡ y). subst (λ (z : Transaction). TakesFreeKeys commits tables [] z.changes) b tt) (found_push u live (not_begun t) y e);
  apart = λ u v y z ne e h. ⊎_elim
      (λ (a : find (is_named u) live ≡ Some y). ⊎_elim
      (λ (c : find (is_named v) live ≡ Some z). sound.apart u v y z ne a c)
      (λ (d : not_begun t ≡ z). subst (λ (w : Transaction). ShareNoKey tables y.changes w.changes) d (λ p q i j. absurd j)) (found_push v live (not_begun t) z h))
      (λ (b : not_begun t ≡ y). subst (λ (w : Transaction). ShareNoKey tables w.changes z.changes) b (λ p q i j. absurd i)) (found_push u live (not_begun t) y e);
  added = λ u y e. ⊎_elim (λ (a : find (is_named u) live ≡ Some y). sound.added u y a)
      (λ (b : not_begun t ≡ y). subst (λ (z : Transaction). OfAdded tables z.changes) b (All-nil (λ (c : Change). is_added tables c.row.table ≡ true))) (found_push u live (not_begun t) y e);
  few = λ u y e. ⊎_elim (λ (a : find (is_named u) live ≡ Some y). sound.few u y a)
      (λ (b : not_begun t ≡ y). subst (λ (z : Transaction). length z.changes ≤ max_changes) b none) (found_push u live (not_begun t) y e);
  short = λ u y e. ⊎_elim (λ (a : find (is_named u) live ≡ Some y). sound.short u y a)
      (λ (b : not_begun t ≡ y). subst (λ (z : Transaction). record_length z.changes ≤ max_record) b small) (found_push u live (not_begun t) y e);
  begun = λ u y e. ⊎_elim (λ (a : find (is_named u) live ≡ Some y). sound.begun u y a)
      (λ (b : not_begun t ≡ y). subst (λ (z : Transaction). z.begun ≡ None → z.changes ≡ []) b (λ i. refl)) (found_push u live (not_begun t) y e);
}
  where
    none : length no_changes ≤ max_changes
    none = omega arith

    small : record_length no_changes ≤ max_record
    small = omega arith

pub sound_first : (n : ℕ) → IsSound [] [] (first_transactions n)
sound_first zero = record {
  free = λ u y e. cc;
  apart = λ u v y z ne e h. cc;
  added = λ u y e. cc;
  few = λ u y e. cc;
  short = λ u y e. cc;
  begun = λ u y e. cc;
}
sound_first (suc n) = sound_pushed [] [] (first_transactions n) (named_at (record { 0 = suc n }) 0) (sound_first n)

-- what is left has another name
kept_other : (t u : TxId) (xs : List Transaction) (y : Transaction) → find (is_named u) (filter (λ x. not (is_named t x)) xs) ≡ Some y → is_named t y ≡ false
kept_other t u [] y e = cc
kept_other t u (x ∷ xs) y e = by (is_named t x) refl e (kept_other t u xs y)
  where
    by : (b : Bool) → is_named t x ≡ b → find (is_named u) (cond (not b) (x ∷ filter (λ z. not (is_named t z)) xs) (filter (λ z. not (is_named t z)) xs)) ≡ Some y
        → (find (is_named u) (filter (λ z. not (is_named t z)) xs) ≡ Some y → is_named t y ≡ false) → is_named t y ≡ false
    by true is h rest = rest h
    by false is h rest = by2 (is_named u x) h
      where
        by2 : (b : Bool) → cond b (Some x) (find (is_named u) (filter (λ z. not (is_named t z)) xs)) ≡ Some y → is_named t y ≡ false
        by2 true k = ap (is_named t) (sym (same_Some x y k)) ∙ is
        by2 false k = rest k

found_kept : (t u : TxId) (xs : List Transaction) (y : Transaction) → find (is_named u) (filter (λ x. not (is_named t x)) xs) ≡ Some y → find (is_named u) xs ≡ Some y
found_kept t u [] y e = e
found_kept t u (x ∷ xs) y e = by (is_named t x) refl e (found_kept t u xs y)
  where
    by : (b : Bool) → is_named t x ≡ b → find (is_named u) (cond (not b) (x ∷ filter (λ z. not (is_named t z)) xs) (filter (λ z. not (is_named t z)) xs)) ≡ Some y
        → (find (is_named u) (filter (λ z. not (is_named t z)) xs) ≡ Some y → find (is_named u) xs ≡ Some y) → cond (is_named u x) (Some x) (find (is_named u) xs) ≡ Some y
    by true is h rest = by2 (is_named u x) refl
      where
        by2 : (b : Bool) → is_named u x ≡ b → cond b (Some x) (find (is_named u) xs) ≡ Some y
        by2 true i =
            let same : u ≡ t = sym (tx-same x.id u i) ∙ tx-same x.id t is in
            let its : y.id ≡ x.id = found_named u (filter (λ z. not (is_named t z)) xs) y h ∙ same ∙ sym (tx-same x.id t is) in
            absurd (both_ways (is_named t y) (kept_other t u xs y h) (ap (λ n. same_tx n t) its ∙ is))
        by2 false i = rest h
    by false is h rest = by2 (is_named u x) h
      where
        by2 : (b : Bool) → cond b (Some x) (find (is_named u) (filter (λ z. not (is_named t z)) xs)) ≡ Some y → cond b (Some x) (find (is_named u) xs) ≡ Some y
        by2 true k = k
        by2 false k = rest k

pub sound_removed : (commits : List (List Change)) (tables : List Table) (live : List Transaction) (t : TxId) → IsSound commits tables live → IsSound commits tables (filter (λ x. not (is_named t x)) live)
sound_removed commits tables live t sound = record {
  free = λ u y e. sound.free u y (found_kept t u live y e);
  apart = λ u v y z ne e h. sound.apart u v y z ne (found_kept t u live y e) (found_kept t v live z h);
  added = λ u y e. sound.added u y (found_kept t u live y e);
  few = λ u y e. sound.few u y (found_kept t u live y e);
  short = λ u y e. sound.short u y (found_kept t u live y e);
  begun = λ u y e. sound.begun u y (found_kept t u live y e);
}

-- a table more makes no difference to the keys in those that were there
key_by-append : (xs ys : List Table) (c : Change) → is_added xs c.row.table ≡ true → key_by (xs ++ ys) c ≡ key_by xs c
key_by-append xs ys c e = ap (λ places. option_map (key_of places) c.values) (key_places-append c.row.table xs ys e)

free-append : (commits : List (List Change)) (xs ys : List Table) (before cs : List Change) → AllByRecursion (λ (c : Change). is_added xs c.row.table ≡ true) cs
    → TakesFreeKeys commits xs before cs → TakesFreeKeys commits (xs ++ ys) before cs
free-append commits xs ys before [] added free = tt
free-append commits xs ys before (c ∷ cs) added free = (
  λ key r some of_c other at.
      free.0 key r some (sym (key_by-append xs ys c added.0) ∙ of_c) other
      (ap (λ places. option_map (key_of places) (over (last_change (row_in c.row.table r) before) (Latest commits (row_in c.row.table r)))) (sym (key_places-append c.row.table xs ys added.0)) ∙ at),
  free-append commits xs ys (before ++ c ∷ []) cs added.1 free.1,
)

each_added : (tables : List Table) (cs : List Change) (c : Change) → AllByRecursion (λ (d : Change). is_added tables d.row.table ≡ true) cs → Among cs c → is_added tables c.row.table ≡ true
each_added tables [] c added a = absurd a
each_added tables (d ∷ ds) c added (inl e) = subst (λ (x : Change). is_added tables x.row.table ≡ true) e added.0
each_added tables (d ∷ ds) c added (inr a) = each_added tables ds c added.1 a

pub sound_table : (commits : List (List Change)) (tables : List Table) (live : List Transaction) (x : Table) → IsSound commits tables live → IsSound commits (tables ++ x ∷ []) live
sound_table commits tables live x sound = record {
  free = λ u y e. free-append commits tables (x ∷ []) [] y.changes (added u y e) (sound.free u y e);
  apart = λ u v y z ne e h c d a b same key some of_c of_d.
      sound.apart u v y z ne e h c d a b same key some
      (sym (key_by-append tables (x ∷ []) c (each_added tables y.changes c (added u y e) a)) ∙ of_c)
      (sym (key_by-append tables (x ∷ []) d (each_added tables z.changes d (added v z h) b)) ∙ of_d);
  added = λ u y e. OfAdded-append tables (x ∷ []) y.changes (sound.added u y e);
  few = sound.few;
  short = sound.short;
  begun = sound.begun;
}
  where
    added : (u : TxId) (y : Transaction) → find (is_named u) live ≡ Some y → AllByRecursion (λ (c : Change). is_added tables c.row.table ≡ true) y.changes
    added u y e = recursion_from_All (λ (c : Change). is_added tables c.row.table ≡ true) y.changes (sound.added u y e)

-- where no transaction has begun, a commit may be added
all_found : (live : List Transaction) (u : TxId) (y : Transaction) → All (λ (x : Transaction). x.begun ≡ None) live → find (is_named u) live ≡ Some y → y.begun ≡ None
all_found [] u y all e = cc
all_found (x ∷ xs) u y all e = by (is_named u x) e (all_found xs u y (All-tail (λ (z : Transaction). z.begun ≡ None) x xs all))
  where
    by : (b : Bool) → cond b (Some x) (find (is_named u) xs) ≡ Some y → (find (is_named u) xs ≡ Some y → y.begun ≡ None) → y.begun ≡ None
    by true h rest = ap (λ (z : Transaction). z.begun) (sym (same_Some x y h)) ∙ All-head (λ (z : Transaction). z.begun ≡ None) x xs all
    by false h rest = rest h

pub sound_loaded : (commits : List (List Change)) (tables : List Table) (live : List Transaction) (changes : List Change) → All (λ (x : Transaction). x.begun ≡ None) live → IsSound commits tables live
    → IsSound (commits ++ changes ∷ []) tables live
sound_loaded commits tables live changes none sound = record {
  free = λ u y e. subst (TakesFreeKeys (commits ++ changes ∷ []) tables []) (sym (sound.begun u y e (all_found live u y none e))) tt;
  apart = sound.apart;
  added = sound.added;
  few = sound.few;
  short = sound.short;
  begun = sound.begun;
}

pub sound_new : (commits : List (List Change)) (tables : List Table) (live : List Transaction) (n : ℕ) → commits ≡ [] → tables ≡ [] → live ≡ first_transactions n → IsSound commits tables live
sound_new commits tables live n a b c =
    subst (λ (cs : List (List Change)). IsSound cs tables live) (sym a) (subst (λ (ts : List Table). IsSound [] ts live) (sym b) (subst (IsSound [] []) (sym c) (sound_first n)))

pub sound_with : (commits old : List (List Change)) (tables was : List Table) (live : List Transaction) → commits ≡ old → tables ≡ was → IsSound old was live → IsSound commits tables live
sound_with commits old tables was live a b sound = subst (λ (cs : List (List Change)). IsSound cs tables live) (sym a) (subst (λ (ts : List Table). IsSound old ts live) (sym b) sound)

-- what a transaction has changed may be committed
pub may_commit : (d : Data) (t : TxId) → IsLive d t → IsSound d.commits d.tables d.live → KeysDiffer d.commits d.tables → MayCommit d (own d t).changes
may_commit d t there sound keys =
    let found = own_found t d.live there in
    record {
      few = sound.few t (own d t) found;
      short = sound.short t (own d t) found;
      added = sound.added t (own d t) found;
      keys = keys_differ d.commits d.tables (own d t).changes keys (sound.free t (own d t) found);
    }
