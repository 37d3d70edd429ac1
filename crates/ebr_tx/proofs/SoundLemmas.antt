-- What holds of the live transactions holds after each call.
use Rattle.std.proofs.Common.{◌≡◌, ◌≢◌, ℕ, zero, suc, ◌≤◌, ◌⊎◌, inl, inr, ⊎_elim, Bool, true, false, cond, ◌==◌, List, [], ◌∷◌, ◌++◌, Option, Some, None, length, take, refl, sym, ap, subst, ◌∙◌, arith, length-append}
use Rattle.std.specs.Prelude.{find, is_some, unwrap_or, sum_by}
use Rattle.std.proofs.lemmas.Bool.{both_ways, and_from, eq-eqb}
use Rattle.std.proofs.lemmas.Option.{same_Some}
use Rattle.std.proofs.lemmas.List.{take_all}
use Rattle.std.proofs.lemmas.List.Sums.{sum_by-take-le}
use Rattle.std.proofs.lemmas.List.Elements.{All-push, All-take}
use Rattle.ebr_base.specs.declared.row.Change.{Change}
use Rattle.ebr_base.specs.declared.row.TxId.{TxId}
use Rattle.ebr_versions.specs.declared.table.Table.{Table}
use Rattle.ebr_versions.specs.Keys.{is_added}
use Rattle.ebr_versions.specs.Store.{OfAdded}
use Rattle.ebr_locks.specs.Locks.{same_tx}
use Rattle.ebr_locks.proofs.Taken.{tx-same}
use Rattle.ebr_tx.specs.Data.{Transaction, is_named, names_of, IsIn, not_begun, changed}
use Rattle.ebr_tx.specs.Calls.{with_change, ended}
use Rattle.ebr_tx.specs.Limits.{max_changes, max_record, change_length, record_length}
use Rattle.ebr_tx.specs.inside.Sound.{IsSound, MayAdd, ShareNoKey, TakesFreeKeys}
use Rattle.ebr_tx.proofs.LiveLemmas.{found-in}
use Rattle.ebr_tx.proofs.FreeKeys.{share-sym, share-take, share-push, free-take, free-push, free-commit}

pub tx-itself : (t : TxId) → same_tx t t ≡ true
tx-itself t = and_from (t.session.0 == t.session.0) (t.depth == t.depth) (eq-eqb t.session.0 t.session.0 refl) (eq-eqb t.depth t.depth refl)

-- two names are one, or the test tells them apart
pub names : (t u : TxId) → (t ≡ u) ⊎ (same_tx t u ≡ false)
names t u = by (same_tx t u) refl
  where
    by : (b : Bool) → same_tx t u ≡ b → (t ≡ u) ⊎ (same_tx t u ≡ false)
    by true e = inl (tx-same t u e)
    by false e = inr e

apart_names : (t u : TxId) → same_tx t u ≡ false → t ≢ u
apart_names t u e same = both_ways (same_tx t u) e (ap (same_tx t) (sym same) ∙ tx-itself t)

-- what is found by a name has it
pub found_named : (t : TxId) (xs : List Transaction) (x : Transaction) → find (is_named t) xs ≡ Some x → x.id ≡ t
found_named t [] x e = cc
found_named t (y ∷ ys) x e = by (is_named t y) refl e (found_named t ys x)
  where
    by : (b : Bool) → is_named t y ≡ b → cond b (Some y) (find (is_named t) ys) ≡ Some x → (find (is_named t) ys ≡ Some x → x.id ≡ t) → x.id ≡ t
    by true is h rest = ap (λ (z : Transaction). z.id) (sym (same_Some y x h)) ∙ tx-same y.id t is
    by false is h rest = rest h

-- fewer changes make no longer record
record-take : (n : ℕ) (xs : List Change) → record_length xs ≤ max_record → record_length (take n xs) ≤ max_record
record-take n xs h = let less : sum_by change_length (take n xs) ≤ sum_by change_length xs = sum_by-take-le change_length xs n in omega arith

module _ (t : TxId) (f : Transaction → Transaction) (keeps : (x : Transaction) → (f x).id ≡ x.id) where
  pub find-changed : (xs : List Transaction) (x : Transaction) → find (is_named t) xs ≡ Some x → find (is_named t) (changed t f xs) ≡ Some (f x)
  find-changed [] x e = cc
  find-changed (y ∷ ys) x e = by (is_named t y) refl e (find-changed ys x)
    where
      by : (b : Bool) → is_named t y ≡ b → cond b (Some y) (find (is_named t) ys) ≡ Some x → (find (is_named t) ys ≡ Some x → find (is_named t) (changed t f ys) ≡ Some (f x))
          → find (is_named t) (cond b (f y ∷ ys) (y ∷ changed t f ys)) ≡ Some (f x)
      by true is h rest =
          let here : is_named t (f y) ≡ true = ap (λ i. same_tx i t) (keeps y) ∙ is in
          rw here (ap (λ z. Some (f z)) (same_Some y x h))
      by false is h rest = rw is (rest h)

  pub find-other : (u : TxId) (xs : List Transaction) → same_tx t u ≡ false → find (is_named u) (changed t f xs) ≡ find (is_named u) xs
  find-other u [] e = refl
  find-other u (y ∷ ys) e = by (is_named t y) refl (find-other u ys e)
    where
      by : (b : Bool) → is_named t y ≡ b → find (is_named u) (changed t f ys) ≡ find (is_named u) ys → find (is_named u) (cond b (f y ∷ ys) (y ∷ changed t f ys)) ≡ find (is_named u) (y ∷ ys)
      by true is rest =
          let before : is_named u y ≡ false = ap (λ i. same_tx i u) (tx-same y.id t is) ∙ e in
          let after : is_named u (f y) ≡ false = ap (λ i. same_tx i u) (keeps y) ∙ before in
          rw (before, after) refl
      by false is rest = ap (λ o. cond (is_named u y) (Some y) o) rest

  module _ (commits : List (List Change)) (tables : List Table) (live : List Transaction) (x : Transaction) (found : find (is_named t) live ≡ Some x) where
    -- what is found after the change is the changed transaction, or was found before
    found_after : (u : TxId) (y : Transaction) → find (is_named u) (changed t f live) ≡ Some y → ((t ≡ u) × (f x ≡ y)) ⊎ ((same_tx t u ≡ false) × (find (is_named u) live ≡ Some y))
    found_after u y e =
        ⊎_elim
        (λ (same : t ≡ u). inl (same, same_Some (f x) y (sym (find-changed live x found) ∙ ap (λ v. find (is_named v) (changed t f live)) same ∙ e)))
        (λ (other : same_tx t u ≡ false). inr (other, sym (find-other u live other) ∙ e)) (names t u)

    pub sound_changed : IsSound commits tables live → TakesFreeKeys commits tables [] (f x).changes
        → ((u : TxId) (y : Transaction) → t ≢ u → find (is_named u) live ≡ Some y → ShareNoKey tables (f x).changes y.changes)
        → OfAdded tables (f x).changes → length (f x).changes ≤ max_changes → record_length (f x).changes ≤ max_record → ((f x).begun ≡ None → (f x).changes ≡ []) → IsSound commits tables (changed t f live)
    sound_changed sound free apart added few short begun = record {
      free = λ u y e. ⊎_elim
          (λ (a : (t ≡ u) × (f x ≡ y)). subst (λ (z : Transaction). TakesFreeKeys commits tables [] z.changes) a.1 free)
          (λ (b : (same_tx t u ≡ false) × (find (is_named u) live ≡ Some y)). sound.free u y b.1) (found_after u y e);
      apart = λ u v y z ne e h. ⊎_elim
          (λ (a : (t ≡ u) × (f x ≡ y)). ⊎_elim
          (λ (c : (t ≡ v) × (f x ≡ z)). absurd (ne (sym a.0 ∙ c.0)))
          (λ (d : (same_tx t v ≡ false) × (find (is_named v) live ≡ Some z)).
          subst (λ (w : Transaction). ShareNoKey tables w.changes z.changes) a.1 (apart v z (apart_names t v d.0) d.1)) (found_after v z h))
          (λ (b : (same_tx t u ≡ false) × (find (is_named u) live ≡ Some y)). ⊎_elim
          (λ (c : (t ≡ v) × (f x ≡ z)).
          share-sym tables z.changes y.changes (subst (λ (w : Transaction). ShareNoKey tables w.changes y.changes) c.1 (apart u y (apart_names t u b.0) b.1)))
          (λ (d : (same_tx t v ≡ false) × (find (is_named v) live ≡ Some z)). sound.apart u v y z ne b.1 d.1) (found_after v z h))
          (found_after u y e);
      added = λ u y e. ⊎_elim
          (λ (a : (t ≡ u) × (f x ≡ y)). subst (λ (z : Transaction). OfAdded tables z.changes) a.1 added)
          (λ (b : (same_tx t u ≡ false) × (find (is_named u) live ≡ Some y)). sound.added u y b.1) (found_after u y e);
      few = λ u y e. ⊎_elim
          (λ (a : (t ≡ u) × (f x ≡ y)). subst (λ (z : Transaction). length z.changes ≤ max_changes) a.1 few)
          (λ (b : (same_tx t u ≡ false) × (find (is_named u) live ≡ Some y)). sound.few u y b.1) (found_after u y e);
      short = λ u y e. ⊎_elim
          (λ (a : (t ≡ u) × (f x ≡ y)). subst (λ (z : Transaction). record_length z.changes ≤ max_record) a.1 short)
          (λ (b : (same_tx t u ≡ false) × (find (is_named u) live ≡ Some y)). sound.short u y b.1) (found_after u y e);
      begun = λ u y e. ⊎_elim
          (λ (a : (t ≡ u) × (f x ≡ y)). subst (λ (z : Transaction). z.begun ≡ None → z.changes ≡ []) a.1 begun)
          (λ (b : (same_tx t u ≡ false) × (find (is_named u) live ≡ Some y)). sound.begun u y b.1) (found_after u y e);
    }

    -- a transaction that keeps only its first changes
    pub sound_cut : (n : ℕ) → IsSound commits tables live → (f x).changes ≡ take n x.changes → ((f x).begun ≡ None → (f x).changes ≡ []) → IsSound commits tables (changed t f live)
    sound_cut n sound cut begun =
        sound_changed sound (subst (TakesFreeKeys commits tables []) (sym cut) (free-take commits tables n [] x.changes (sound.free t x found)))
        (λ u y ne e. subst (λ cs. ShareNoKey tables cs y.changes) (sym cut) (share-take tables n x.changes y.changes (sound.apart t u x y ne found e)))
        (subst (OfAdded tables) (sym cut) (All-take (λ (c : Change). is_added tables c.row.table ≡ true) n x.changes (sound.added t x found)))
        (shorter (f x).changes cut) (subst (λ cs. record_length cs ≤ max_record) (sym cut) (record-take n x.changes (sound.short t x found))) begun
      where
        shorter : (cs : List Change) → cs ≡ take n x.changes → length cs ≤ 200000
        shorter cs e = rw e (at_most n x.changes (sound.few t x found))
          where
            at_most : (m : ℕ) (xs : List Change) → length xs ≤ 200000 → length (take m xs) ≤ 200000
            at_most zero xs h = omega arith
            at_most (suc m) [] h = omega arith
            at_most (suc m) (c ∷ cs) h = let rest : length cs ≤ 200000 = omega arith in let less : length (take m cs) ≤ length cs = fewer m cs in omega arith
              where
                fewer : (k : ℕ) (ys : List Change) → length (take k ys) ≤ length ys
                fewer zero ys = omega arith
                fewer (suc k) [] = omega arith
                fewer (suc k) (y ∷ ys) = let h : length (take k ys) ≤ length ys = fewer k ys in omega arith

    -- a transaction that keeps all its changes
    pub sound_kept : IsSound commits tables live → (f x).changes ≡ x.changes → ((f x).begun ≡ None → x.begun ≡ None) → IsSound commits tables (changed t f live)
    sound_kept sound same begun =
        sound_cut (length x.changes) sound (same ∙ sym (take_all (length x.changes) x.changes (omega arith))) (λ e. same ∙ sound.begun t x found (begun e))

-- one more change
pub sound_added : (commits : List (List Change)) (tables : List Table) (live : List Transaction) (t : TxId) (x : Transaction) (c : Change) → find (is_named t) live ≡ Some x
    → IsSound commits tables live → MayAdd commits tables live t x c → IsSound commits tables (changed t (with_change c) live)
sound_added commits tables live t x c found sound may =
    sound_changed t (with_change c) (λ y. refl) commits tables live x found sound
    (free-push commits tables [] x.changes c (sound.free t x found) may.free)
    (λ u y ne e. share-push tables x.changes y.changes c (sound.apart t u x y ne found e) (may.apart u y ne e))
    (All-push (λ (d : Change). is_added tables d.row.table ≡ true) x.changes c (sound.added t x found) may.added)
    (omega (arith, length-append x.changes (c ∷ []), may.few)) may.short (λ e. absurd (may.begun e))

-- a commit of a transaction's changes, and its end
pub sound_settled : (commits : List (List Change)) (tables : List Table) (live : List Transaction) (t : TxId) (x : Transaction) → find (is_named t) live ≡ Some x
    → IsSound commits tables live → IsSound (commits ++ x.changes ∷ []) tables (changed t ended live)
sound_settled commits tables live t x found sound = record {
  free = λ u y e. ⊎_elim
      (λ (a : (t ≡ u) × (ended x ≡ y)). subst (λ (z : Transaction). TakesFreeKeys (commits ++ x.changes ∷ []) tables [] z.changes) a.1 tt)
      (λ (b : (same_tx t u ≡ false) × (find (is_named u) live ≡ Some y)).
      free-commit commits tables x.changes [] y.changes (sound.free u y b.1) (sound.apart t u x y (apart_names t u b.0) found b.1)) (after u y e);
  apart = rest.apart;
  added = rest.added;
  few = rest.few;
  short = rest.short;
  begun = rest.begun;
}
  where
    rest : IsSound commits tables (changed t ended live)
    rest = sound_cut t ended (λ y. refl) commits tables live x found 0 sound refl (λ e. refl)

    after : (u : TxId) (y : Transaction) → find (is_named u) (changed t ended live) ≡ Some y → ((t ≡ u) × (ended x ≡ y)) ⊎ ((same_tx t u ≡ false) × (find (is_named u) live ≡ Some y))
    after u y e = found_after t ended (λ z. refl) commits tables live x found u y e

-- the transaction of a name that is there
pub own_found : (t : TxId) (xs : List Transaction) → IsIn (names_of xs) t → find (is_named t) xs ≡ Some (unwrap_or (find (is_named t) xs) (not_begun t))
own_found t xs e = by (find (is_named t) xs) (found-in t xs e)
  where
    by : (o : Option Transaction) → is_some o ≡ true → o ≡ Some (unwrap_or o (not_begun t))
    by None e = cc
    by (Some x) e = refl
