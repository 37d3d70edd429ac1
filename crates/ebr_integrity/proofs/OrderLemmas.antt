-- What holds of the changes of all live transactions, where one of these is another, opened or closed.
use Rattle.std.proofs.Common.{◌≡◌, ◌≢◌, ℕ, zero, suc, ◌⊎◌, inl, inr, ⊎_elim, Bool, true, false, cond, List, [], ◌∷◌, ◌++◌, Option, Some, None, take, refl, sym, ap, subst, ◌∙◌}
use Rattle.std.specs.Prelude.{not, filter, find, option_map, unwrap_or}
use Rattle.std.specs.Option.{option_or}
use Rattle.std.specs.List.{AllByRecursion}
use Rattle.std.proofs.lemmas.Bool.{both_ways}
use Rattle.std.proofs.lemmas.List.Folds.{find-append}
use Rattle.ebr_base.specs.declared.row.Change.{Change}
use Rattle.ebr_base.specs.declared.row.TxId.{TxId}
use Rattle.ebr_versions.specs.Data.{changes_row}
use Rattle.ebr_locks.specs.Locks.{same_tx}
use Rattle.ebr_locks.proofs.Taken.{tx-same}
use Rattle.ebr_tx.specs.Commits.{AreThere, IsThere}
use Rattle.ebr_tx.specs.Data.{Transaction, is_named, named_at, not_begun, changed}
use Rattle.ebr_tx.specs.Calls.{ended, first_transactions, with_change}
use Rattle.ebr_tx.proofs.SoundLemmas.{find-other, names, tx-itself}
use Rattle.ebr_integrity.specs.Integrity.{AreOrderly, ShareNoRow, changes_of}
use Rattle.ebr_integrity.proofs.ChangeLemmas.{all_push, all_take, share_none, share_push, share_sym, share_take, there_commit, there_push, there_take}

apart_names : (t u : TxId) → same_tx t u ≡ false → t ≢ u
apart_names t u far is = both_ways (same_tx t u) far (ap (same_tx t) (sym is) ∙ tx-itself t)

far_names : (t u : TxId) → t ≢ u → same_tx t u ≡ false
far_names t u apart = ⊎_elim (λ (same : t ≡ u). absurd (apart same)) (λ (far : same_tx t u ≡ false). far) (names t u)

-- ---- one transaction is another

module _ (t : TxId) (f : Transaction → Transaction) (keeps : (x : Transaction) → (f x).id ≡ x.id) where
  found_changed : (xs : List Transaction) → find (is_named t) (changed t f xs) ≡ option_map f (find (is_named t) xs)
  found_changed [] = refl
  found_changed (x ∷ xs) = by (is_named t x) refl (found_changed xs)
    where
      by : (b : Bool) → is_named t x ≡ b → find (is_named t) (changed t f xs) ≡ option_map f (find (is_named t) xs)
          → find (is_named t) (cond b (f x ∷ xs) (x ∷ changed t f xs)) ≡ option_map f (cond b (Some x) (find (is_named t) xs))
      by true is rest = ap (λ b. cond b (Some (f x)) (find (is_named t) xs)) (ap (λ i. same_tx i t) (keeps x) ∙ is)
      by false is rest = ap (λ b. cond b (Some x) (find (is_named t) (changed t f xs))) is ∙ rest

  module _ (live : List Transaction) where
    abbrev mine : Transaction
    mine = unwrap_or (find (is_named t) live) (not_begun t)

    -- of the transaction itself: what is so of its new changes, and of none
    of_it : (Q : List Change → Type 0) → Q (f mine).changes → Q [] → Q (changes_of (changed t f live) t)
    of_it Q new nil = subst (λ o. Q (unwrap_or o (not_begun t)).changes) (sym (found_changed live)) (by (find (is_named t) live) new)
      where
        by : (o : Option Transaction) → Q (f (unwrap_or o (not_begun t))).changes → Q (unwrap_or (option_map f o) (not_begun t)).changes
        by None h = nil
        by (Some x) h = h

    of_other : (u : TxId) → t ≢ u → changes_of (changed t f live) u ≡ changes_of live u
    of_other u apart = ap (λ o. (unwrap_or o (not_begun u)).changes) (find-other t f keeps u live (far_names t u apart))

    of_each : (Q : List Change → Type 0) → Q (f mine).changes → Q [] → ((u : TxId) → t ≢ u → Q (changes_of live u)) → (u : TxId) → Q (changes_of (changed t f live) u)
    of_each Q new nil old u =
        ⊎_elim (λ (same : t ≡ u). subst (λ v. Q (changes_of (changed t f live) v)) same (of_it Q new nil))
        (λ (far : same_tx t u ≡ false). let apart : t ≢ u = apart_names t u far in subst Q (sym (of_other u apart)) (old u apart)) (names t u)

    -- whatever the commits are
    pub order_among : (P : Change → Type 0) (commits : List (List Change)) → AllByRecursion P (f mine).changes → AreThere commits [] (f mine).changes
        → ((u : TxId) → t ≢ u → ShareNoRow (f mine).changes (changes_of live u)) → ((u : TxId) → t ≢ u → AllByRecursion P (changes_of live u)) → ((u : TxId) → t ≢ u → AreThere commits [] (changes_of live u))
        → ((u v : TxId) → u ≢ v → ShareNoRow (changes_of live u) (changes_of live v)) → AreOrderly P commits (changed t f live)
    order_among P commits each there apart others others_there others_apart = record {
      each = of_each (AllByRecursion P) each tt others;
      there = of_each (AreThere commits []) there tt others_there;
      apart = λ u v ne.
          ⊎_elim
          (λ (a : t ≡ u). let far : t ≢ v = λ e. ne (sym a ∙ e) in
          subst (λ w. ShareNoRow (changes_of (changed t f live) w) (changes_of (changed t f live) v)) a
          (subst (ShareNoRow (changes_of (changed t f live) t)) (sym (of_other v far)) (of_it (λ xs. ShareNoRow xs (changes_of live v)) (apart v far) (share_none (changes_of live v)))))
          (λ (b : same_tx t u ≡ false). let off : t ≢ u = apart_names t u b in
          subst (λ xs. ShareNoRow xs (changes_of (changed t f live) v)) (sym (of_other u off))
          (⊎_elim
          (λ (c : t ≡ v). subst (λ w. ShareNoRow (changes_of live u) (changes_of (changed t f live) w)) c
          (share_sym (changes_of (changed t f live) t) (changes_of live u) (of_it (λ xs. ShareNoRow xs (changes_of live u)) (apart u off) (share_none (changes_of live u)))))
          (λ (d : same_tx t v ≡ false). subst (ShareNoRow (changes_of live u)) (sym (of_other v (apart_names t v d))) (others_apart u v ne))
          (names t v)))
          (names t u);
    }

    module _ (P : Change → Type 0) (commits : List (List Change)) (h : AreOrderly P commits live) where
      pub order_step : AllByRecursion P (f mine).changes → AreThere commits [] (f mine).changes → ((u : TxId) → t ≢ u → ShareNoRow (f mine).changes (changes_of live u)) → AreOrderly P commits (changed t f live)
      order_step each there apart = order_among P commits each there apart (λ u ne. h.each u) (λ u ne. h.there u) h.apart

      -- it keeps its first changes alone
      pub order_cut : (n : ℕ) → (f mine).changes ≡ take n mine.changes → AreOrderly P commits (changed t f live)
      order_cut n cut =
          order_step (subst (AllByRecursion P) (sym cut) (all_take P n mine.changes (h.each t))) (subst (AreThere commits []) (sym cut) (there_take commits n [] mine.changes (h.there t)))
          (λ u ne. subst (λ xs. ShareNoRow xs (changes_of live u)) (sym cut) (share_take n mine.changes (changes_of live u) (h.apart t u ne)))

      -- it keeps all of them
      pub order_kept : (f mine).changes ≡ mine.changes → AreOrderly P commits (changed t f live)
      order_kept same =
          order_step (subst (AllByRecursion P) (sym same) (h.each t)) (subst (AreThere commits []) (sym same) (h.there t))
          (λ u ne. subst (λ xs. ShareNoRow xs (changes_of live u)) (sym same) (h.apart t u ne))

-- ---- a change, and a commit

module _ (P : Change → Type 0) (commits : List (List Change)) (live : List Transaction) (h : AreOrderly P commits live) (t : TxId) where
  pub order_changed : (c : Change) → P c → IsThere commits (changes_of live t) c → ((u : TxId) → t ≢ u → changes_row c.row (changes_of live u) ≡ false) → AreOrderly P commits (changed t (with_change c) live)
  order_changed c fine there spared =
      order_step t (with_change c) (λ x. refl) live P commits h (all_push P (changes_of live t) c (h.each t) fine) (there_push commits [] (changes_of live t) c (h.there t) there)
      (λ u ne. share_push (changes_of live t) (changes_of live u) c (h.apart t u ne) (spared u ne))

  pub order_settled : AreOrderly P (commits ++ changes_of live t ∷ []) (changed t ended live)
  order_settled =
      order_among t ended (λ x. refl) live P (commits ++ changes_of live t ∷ []) tt tt (λ u ne. share_none (changes_of live u)) (λ u ne. h.each u)
      (λ u ne. there_commit commits (changes_of live t) (changes_of live u) (h.apart u t (λ e. ne (sym e))) (h.there u)) h.apart

-- ---- one more, and one less

pub of_pushed : (live : List Transaction) (n u : TxId) → changes_of (live ++ not_begun n ∷ []) u ≡ changes_of live u
of_pushed live n u = ap (λ o. (unwrap_or o (not_begun u)).changes) (find-append (is_named u) live (not_begun n ∷ [])) ∙ by (find (is_named u) live)
  where
    new : (b : Bool) → (unwrap_or (cond b (Some (not_begun n)) None) (not_begun u)).changes ≡ []
    new true = refl
    new false = refl

    by : (o : Option Transaction) → (unwrap_or (option_or o (find (is_named u) (not_begun n ∷ []))) (not_begun u)).changes ≡ (unwrap_or o (not_begun u)).changes
    by (Some x) = refl
    by None = new (same_tx n u)

-- either as before, or none
abbrev IsLess : List Transaction → List Transaction → Type 0
IsLess live after = (u : TxId) → (changes_of after u ≡ changes_of live u) ⊎ (changes_of after u ≡ [])

order_less : (P : Change → Type 0) (commits : List (List Change)) (live after : List Transaction) → IsLess live after → AreOrderly P commits live → AreOrderly P commits after
order_less P commits live after less h = record {
  each = λ u. by (AllByRecursion P) u tt (h.each u);
  there = λ u. by (AreThere commits []) u tt (h.there u);
  apart = λ u v ne.
      by (λ xs. ShareNoRow xs (changes_of after v)) u (share_none (changes_of after v))
      (by (λ ys. ShareNoRow (changes_of live u) ys) v (share_sym [] (changes_of live u) (share_none (changes_of live u))) (h.apart u v ne));
}
  where
    by : (Q : List Change → Type 0) (u : TxId) → Q [] → Q (changes_of live u) → Q (changes_of after u)
    by Q u nil old = ⊎_elim (λ (same : changes_of after u ≡ changes_of live u). subst Q (sym same) old) (λ (none : changes_of after u ≡ []). subst Q (sym none) nil) (less u)

pub order_pushed : (P : Change → Type 0) (commits : List (List Change)) (live : List Transaction) (n : TxId) → AreOrderly P commits live → AreOrderly P commits (live ++ not_begun n ∷ [])
order_pushed P commits live n h = order_less P commits live (live ++ not_begun n ∷ []) (λ u. inl (of_pushed live n u)) h

abbrev without : TxId → List Transaction → List Transaction
without t live = filter (λ (y : Transaction). not (is_named t y)) live

-- one of that name isn't there
none_left : (t : TxId) (live : List Transaction) → find (is_named t) (without t live) ≡ None
none_left t [] = refl
none_left t (y ∷ ys) = by (is_named t y) refl (none_left t ys)
  where
    by : (b : Bool) → is_named t y ≡ b → find (is_named t) (without t ys) ≡ None → find (is_named t) (cond (not b) (y ∷ without t ys) (without t ys)) ≡ None
    by true is rest = rest
    by false is rest = ap (λ b. cond b (Some y) (find (is_named t) (without t ys))) is ∙ rest

-- one of another name is
module _ (t u : TxId) (far : same_tx t u ≡ false) where
  not_it : (n : TxId) → same_tx n u ≡ true → same_tx n t ≡ false
  not_it n is = by (same_tx n t) refl
    where
      by : (b : Bool) → same_tx n t ≡ b → b ≡ false
      by true e = sym is ∙ ap (λ m. same_tx m u) (tx-same n t e) ∙ far
      by false e = refl

  find_without : (live : List Transaction) → find (is_named u) (without t live) ≡ find (is_named u) live
  find_without [] = refl
  find_without (y ∷ ys) = by (is_named u y) refl (find_without ys)
    where
      kept : is_named t y ≡ false → find (is_named u) (without t (y ∷ ys)) ≡ cond (is_named u y) (Some y) (find (is_named u) (without t ys))
      kept none = ap (λ b. find (is_named u) (cond (not b) (y ∷ without t ys) (without t ys))) none

      dropped : is_named u y ≡ false → (b : Bool) → is_named t y ≡ b → find (is_named u) (without t ys) ≡ find (is_named u) ys → find (is_named u) (cond (not b) (y ∷ without t ys) (without t ys)) ≡ find (is_named u) ys
      dropped none true e rest = rest
      dropped none false e rest = ap (λ b. cond b (Some y) (find (is_named u) (without t ys))) none ∙ rest

      by : (b : Bool) → is_named u y ≡ b → find (is_named u) (without t ys) ≡ find (is_named u) ys → find (is_named u) (without t (y ∷ ys)) ≡ cond (is_named u y) (Some y) (find (is_named u) ys)
      by true is rest = kept (not_it y.id is) ∙ ap (λ o. cond (is_named u y) (Some y) o) rest
      by false is rest = dropped is (is_named t y) refl rest ∙ ap (λ b. cond b (Some y) (find (is_named u) ys)) (sym is)

pub order_removed : (P : Change → Type 0) (commits : List (List Change)) (live : List Transaction) (t : TxId) → AreOrderly P commits live → AreOrderly P commits (filter (λ (y : Transaction). not (is_named t y)) live)
order_removed P commits live t h = order_less P commits live (without t live) less h
  where
    less : IsLess live (without t live)
    less u =
        ⊎_elim (λ (same : t ≡ u). inr (subst (λ v. changes_of (without t live) v ≡ []) same (ap (λ o. (unwrap_or o (not_begun t)).changes) (none_left t live))))
        (λ (far : same_tx t u ≡ false). inl (ap (λ o. (unwrap_or o (not_begun u)).changes) (find_without t u far live))) (names t u)

-- ---- none has changes

pub none_changed : (n : ℕ) (u : TxId) → changes_of (first_transactions n) u ≡ []
none_changed zero u = refl
none_changed (suc n) u = of_pushed (first_transactions n) (named_at (record { 0 = suc n }) 0) u ∙ none_changed n u

pub order_first : (P : Change → Type 0) (commits : List (List Change)) (live : List Transaction) → ((u : TxId) → changes_of live u ≡ []) → AreOrderly P commits live
order_first P commits live none = record {
  each = λ u. subst (AllByRecursion P) (sym (none u)) tt;
  there = λ u. subst (AreThere commits []) (sym (none u)) tt;
  apart = λ u v ne. subst (λ xs. ShareNoRow xs (changes_of live v)) (sym (none u)) (share_none (changes_of live v));
}
