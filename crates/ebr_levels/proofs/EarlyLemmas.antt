-- No transaction began later than now, whatever is done.
use Rattle.std.proofs.Common.{◌≡◌, ℕ, ◌≤◌, ⊎_elim, Bool, true, false, cond, List, [], ◌∷◌, ◌++◌, Option, Some, None, length, refl, sym, ap, subst, ◌∙◌, length-append, arith}
use Rattle.std.specs.Prelude.{All, not, filter, find, option_map, unwrap_or}
use Rattle.std.specs.Option.{option_or}
use Rattle.std.proofs.lemmas.List.Elements.{All-head, All-tail}
use Rattle.std.proofs.lemmas.List.Folds.{find-append}
use Rattle.ebr_base.specs.declared.numbers.SessionId.{SessionId}
use Rattle.ebr_base.specs.declared.row.Change.{Change}
use Rattle.ebr_base.specs.declared.row.TxId.{TxId}
use Rattle.ebr_locks.specs.Locks.{same_tx}
use Rattle.ebr_locks.proofs.Taken.{tx-same}
use Rattle.ebr_tx.specs.declared.savepoints.Savepoint.{Savepoint}
use Rattle.ebr_tx.specs.declared.savepoints.TxMark.{TxMark}
use Rattle.ebr_tx.specs.Data.{Transaction, Data, is_named, names_of, stack_of, not_begun, named_at, changed, own}
use Rattle.ebr_tx.specs.Calls.{HasNotBegun, after_begin, begun_at, after_mark, marked, ended, after_rollback, after_settle, with_commit, with_savepoint, savepoint_at, after_savepoint, kept_to, savepoint_named, back_to_savepoint, after_back_to, after_push, after_pop, top}
use Rattle.ebr_tx.proofs.SoundLemmas.{names}
use Rattle.ebr_levels.specs.Keeps.{AreEarly, IsEarly}
use Rattle.ebr_levels.proofs.OthersLemmas.{own_other}

pub still_early : (begun : Option ℕ) (count more : ℕ) → count ≤ more → IsEarly begun count → IsEarly begun more
still_early None count more h early = tt
still_early (Some n) count more h early = omega (arith, h, early)

-- where one transaction alone is another
pub early_one : (d d' : Data) (t : TxId) → length d.commits ≤ length d'.commits → ((u : TxId) → same_tx t u ≡ false → own d' u ≡ own d u)
    → IsEarly (own d' t).begun (length d'.commits) → AreEarly d → AreEarly d'
early_one d d' t more others mine early u =
    ⊎_elim
    (λ (same : t ≡ u). subst (λ v. IsEarly (own d' v).begun (length d'.commits)) same mine)
    (λ (far : same_tx t u ≡ false). subst (λ (x : Transaction). IsEarly x.begun (length d'.commits)) (sym (others u far))
    (still_early (own d u).begun (length d.commits) (length d'.commits) more (early u)))
    (names t u)

-- where none is another
pub early_all : (d d' : Data) → length d.commits ≤ length d'.commits → ((u : TxId) → own d' u ≡ own d u) → AreEarly d → AreEarly d'
early_all d d' more others early u =
    subst (λ (x : Transaction). IsEarly x.begun (length d'.commits)) (sym (others u)) (still_early (own d u).begun (length d.commits) (length d'.commits) more (early u))

pub early_same : (d d' : Data) → d' ≡ d → AreEarly d → AreEarly d'
early_same d d' is early = subst AreEarly (sym is) early

-- where none has begun
pub early_not_begun : (d : Data) → HasNotBegun d → AreEarly d
early_not_begun d none u = by d.live none
  where
    by : (live : List Transaction) → All (λ (x : Transaction). x.begun ≡ None) live → IsEarly (unwrap_or (find (is_named u) live) (not_begun u)).begun (length d.commits)
    by [] all = tt
    by (x ∷ xs) all = one (is_named u x) (by xs (All-tail (λ (y : Transaction). y.begun ≡ None) x xs all))
      where
        one : (b : Bool) → IsEarly (unwrap_or (find (is_named u) xs) (not_begun u)).begun (length d.commits) → IsEarly (unwrap_or (cond b (Some x) (find (is_named u) xs)) (not_begun u)).begun (length d.commits)
        one true rest = subst (λ o. IsEarly o (length d.commits)) (sym (All-head (λ (y : Transaction). y.begun ≡ None) x xs all)) tt
        one false rest = rest

-- ---- one transaction changed

module _ (t : TxId) (f : Transaction → Transaction) (keeps : (x : Transaction) → (f x).id ≡ x.id) where
  found_changed : (xs : List Transaction) → find (is_named t) (changed t f xs) ≡ option_map f (find (is_named t) xs)
  found_changed [] = refl
  found_changed (x ∷ xs) = by (is_named t x) refl (found_changed xs)
    where
      by : (b : Bool) → is_named t x ≡ b → find (is_named t) (changed t f xs) ≡ option_map f (find (is_named t) xs)
          → find (is_named t) (cond b (f x ∷ xs) (x ∷ changed t f xs)) ≡ option_map f (cond b (Some x) (find (is_named t) xs))
      by true is rest = ap (λ b. cond b (Some (f x)) (find (is_named t) xs)) (ap (λ i. same_tx i t) (keeps x) ∙ is)
      by false is rest = ap (λ b. cond b (Some x) (find (is_named t) (changed t f xs))) is ∙ rest

module _ (t : TxId) (f : Transaction → Transaction) (keeps : (x : Transaction) → (f x).id ≡ x.id) (d d' : Data) (is : d'.live ≡ changed t f d.live) where
  -- where it isn't there, it has not begun
  changed_early : (o : Option Transaction) (count : ℕ) → IsEarly (f (unwrap_or o (not_begun t))).begun count → IsEarly (unwrap_or (option_map f o) (not_begun t)).begun count
  changed_early None count h = tt
  changed_early (Some x) count h = h

  pub early_step : length d.commits ≤ length d'.commits → IsEarly (f (own d t)).begun (length d'.commits) → AreEarly d → AreEarly d'
  early_step more mine early =
      early_one d d' t more (own_other t f keeps d d' is)
      (subst (λ live. IsEarly (unwrap_or (find (is_named t) live) (not_begun t)).begun (length d'.commits)) (sym is)
      (subst (λ o. IsEarly (unwrap_or o (not_begun t)).begun (length d'.commits)) (sym (found_changed t f keeps d.live))
      (changed_early (find (is_named t) d.live) (length d'.commits) mine))) early

same_count : (d d' : Data) → d'.commits ≡ d.commits → length d.commits ≤ length d'.commits
same_count d d' e = let n : length d'.commits ≡ length d.commits = ap (λ (cs : List (List Change)). length cs) e in omega (arith, n)

module _ (d d' : Data) (t : TxId) where
  pub early_begun : d' ≡ after_begin d t → AreEarly d → AreEarly d'
  early_begun is early = subst AreEarly (sym is) (early_step t (begun_at (length d.commits)) (λ x. refl) d (after_begin d t) refl within (first (own d t).begun (early t)) early)
    where
      within : length d.commits ≤ length d.commits
      within = omega arith

      first : (begun : Option ℕ) → IsEarly begun (length d.commits) → unwrap_or begun (length d.commits) ≤ length d.commits
      first None h = omega arith
      first (Some n) h = h

  -- back to a mark with such a beginning
  pub early_marked : (m : TxMark) → d' ≡ after_mark d t m → IsEarly m.begun (length d.commits) → AreEarly d → AreEarly d'
  early_marked m is mine early = subst AreEarly (sym is) (early_step t (marked m) (λ x. refl) d (after_mark d t m) refl (same_count d (after_mark d t m) refl) mine early)

  pub early_rolled_back : d' ≡ after_rollback d t → AreEarly d → AreEarly d'
  early_rolled_back is early = subst AreEarly (sym is) (early_step t ended (λ x. refl) d (after_rollback d t) refl (same_count d (after_rollback d t) refl) tt early)

  more_commits : (cs : List Change) → length d.commits ≤ length (with_commit d.commits cs)
  more_commits [] = omega arith
  more_commits (c ∷ cs) = omega (arith, length-append d.commits ((c ∷ cs) ∷ []))

  pub early_settled : d' ≡ after_settle d t → AreEarly d → AreEarly d'
  early_settled is early = subst AreEarly (sym is) (early_step t ended (λ x. refl) d (after_settle d t) refl (more_commits (own d t).changes) tt early)

  pub early_saved : (name : List ℕ) → d' ≡ after_savepoint d t name → AreEarly d → AreEarly d'
  early_saved name is early =
      subst AreEarly (sym is)
      (early_step t (with_savepoint (savepoint_at d t name)) (λ x. refl) d (after_savepoint d t name) refl (same_count d (after_savepoint d t name) refl) (early t) early)

  pub early_went_back : (name : List ℕ) → d' ≡ after_back_to d t name → AreEarly d → AreEarly d'
  early_went_back name is early = subst AreEarly (sym is) (by (savepoint_named d t name))
    where
      by : (o : Option Savepoint) → AreEarly (back_to_savepoint d t name o)
      by None = early
      by (Some s) = early_step t (kept_to name s.changes) (λ x. refl) d (back_to_savepoint d t name (Some s)) refl (same_count d (back_to_savepoint d t name (Some s)) refl) (early t) early

-- ---- one more, and one less

-- a new transaction has done nothing, as one that isn't there
own_one_more : (live : List Transaction) (h u : TxId) → unwrap_or (find (is_named u) (live ++ not_begun h ∷ [])) (not_begun u) ≡ unwrap_or (find (is_named u) live) (not_begun u)
own_one_more live h u = ap (λ o. unwrap_or o (not_begun u)) (find-append (is_named u) live (not_begun h ∷ [])) ∙ by (find (is_named u) live)
  where
    new : (b : Bool) → same_tx h u ≡ b → unwrap_or (cond b (Some (not_begun h)) None) (not_begun u) ≡ not_begun u
    new true e = ap not_begun (tx-same h u e)
    new false e = refl

    by : (o : Option Transaction) → unwrap_or (option_or o (find (is_named u) (not_begun h ∷ []))) (not_begun u) ≡ unwrap_or o (not_begun u)
    by (Some x) = refl
    by None = new (same_tx h u) refl

pub own_pushed : (d : Data) (s : SessionId) (u : TxId) → own (after_push d s) u ≡ own d u
own_pushed d s u = own_one_more d.live (named_at s (length (stack_of (names_of d.live) s))) u

pub early_pushed : (d d' : Data) (s : SessionId) → d' ≡ after_push d s → AreEarly d → AreEarly d'
early_pushed d d' s is early = subst AreEarly (sym is) (early_all d (after_push d s) (same_count d (after_push d s) refl) (own_pushed d s) early)

-- a transaction of another name is still there
module _ (t u : TxId) (far : same_tx t u ≡ false) where
  not_it : (n : TxId) → same_tx n u ≡ true → same_tx n t ≡ false
  not_it n is = by (same_tx n t) refl
    where
      by : (b : Bool) → same_tx n t ≡ b → b ≡ false
      by true e = sym is ∙ ap (λ m. same_tx m u) (tx-same n t e) ∙ far
      by false e = refl

  find_without : (live : List Transaction) → find (is_named u) (filter (λ (y : Transaction). not (is_named t y)) live) ≡ find (is_named u) live
  find_without [] = refl
  find_without (y ∷ ys) = by (is_named u y) refl (find_without ys)
    where
      kept : is_named t y ≡ false → find (is_named u) (filter (λ (z : Transaction). not (is_named t z)) (y ∷ ys)) ≡ cond (is_named u y) (Some y) (find (is_named u) (filter (λ (z : Transaction). not (is_named t z)) ys))
      kept none = ap (λ b. find (is_named u) (cond (not b) (y ∷ filter (λ (z : Transaction). not (is_named t z)) ys) (filter (λ (z : Transaction). not (is_named t z)) ys))) none

      dropped : is_named u y ≡ false → (b : Bool) → is_named t y ≡ b → find (is_named u) (filter (λ (z : Transaction). not (is_named t z)) ys) ≡ find (is_named u) ys
          → find (is_named u) (cond (not b) (y ∷ filter (λ (z : Transaction). not (is_named t z)) ys) (filter (λ (z : Transaction). not (is_named t z)) ys)) ≡ find (is_named u) ys
      dropped none true e rest = rest
      dropped none false e rest = ap (λ b. cond b (Some y) (find (is_named u) (filter (λ (z : Transaction). not (is_named t z)) ys))) none ∙ rest

      by : (b : Bool) → is_named u y ≡ b → find (is_named u) (filter (λ (z : Transaction). not (is_named t z)) ys) ≡ find (is_named u) ys
          → find (is_named u) (filter (λ (z : Transaction). not (is_named t z)) (y ∷ ys)) ≡ cond (is_named u y) (Some y) (find (is_named u) ys)
      by true is rest = kept (not_it y.id is) ∙ ap (λ o. cond (is_named u y) (Some y) o) rest
      by false is rest = dropped is (is_named t y) refl rest ∙ ap (λ b. cond b (Some y) (find (is_named u) ys)) (sym is)

-- one of that name isn't
none_left : (t : TxId) (live : List Transaction) → find (is_named t) (filter (λ (y : Transaction). not (is_named t y)) live) ≡ None
none_left t [] = refl
none_left t (y ∷ ys) = by (is_named t y) refl (none_left t ys)
  where
    by : (b : Bool) → is_named t y ≡ b → find (is_named t) (filter (λ (z : Transaction). not (is_named t z)) ys) ≡ None
        → find (is_named t) (cond (not b) (y ∷ filter (λ (z : Transaction). not (is_named t z)) ys) (filter (λ (z : Transaction). not (is_named t z)) ys)) ≡ None
    by true is rest = rest
    by false is rest = ap (λ b. cond b (Some y) (find (is_named t) (filter (λ (z : Transaction). not (is_named t z)) ys))) is ∙ rest

pub own_popped : (d : Data) (s : SessionId) (u : TxId) → same_tx (top d s) u ≡ false → own (after_pop d s) u ≡ own d u
own_popped d s u far = ap (λ o. unwrap_or o (not_begun u)) (find_without (top d s) u far d.live)

pub early_popped : (d d' : Data) (s : SessionId) → d' ≡ after_pop d s → AreEarly d → AreEarly d'
early_popped d d' s is early =
    subst AreEarly (sym is)
    (early_one d (after_pop d s) (top d s) (same_count d (after_pop d s) refl) (own_popped d s)
    (subst (λ o. IsEarly (unwrap_or o (not_begun (top d s))).begun (length d.commits)) (sym (none_left (top d s) d.live)) tt) early)
