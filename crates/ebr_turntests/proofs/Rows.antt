-- Chairs that are split off and joined in a row.
use Rattle.std.proofs.Common.{◌≡◌, ◌⊎◌, ℕ, zero, suc, ◌+◌, ◌-◌, ◌*◌, ◌^◌, ◌<◌, ◌≤◌, List, [], ◌∷◌, ◌++◌, length, get_or, sym, refl, ap, ◌∙◌, subst, ⊎_elim, inl, inr, arith, None}
use mathlib.Core.Logic.{dite}
use native.Mathlib.Decide.{dec_le}
use Rattle.ebr_turn.specs.declared.view.View.{View}
use Rattle.ebr_turn.specs.Chairs.{TurnId, In, items, list_of, lists, own_list, parted, joined}
use Rattle.ebr_turn.proofs.Items.{in_left, in_right, in_or, list_of_is}
use Rattle.ebr_turntests.specs.declared.writer.Writer.{Writer}
use Rattle.ebr_turntests.specs.Written.{upto}
use Rattle.ebr_turntests.specs.Rows.{down, gave, IsNew, AllNew, HasWritten, AllWritten, Gathers, HasAll}

pub parted_gave : (n seats : ℕ) → parted (n + 1) (gave n seats) ≡ gave (suc n) seats
parted_gave n seats =
    let a : seats - n - 1 ≡ seats - suc n = omega arith in
    let b : 2 ^ 63 - 2 ^ 31 * n - 2 ^ 31 ≡ 2 ^ 63 - 2 ^ 31 * suc n = omega arith in
    λ i. record (gave (suc n) seats) { share = a i; left = b i }

pub below : (n m : ℕ) → In m (down n) → m ≤ n
below zero m h = absurd h
below (suc n) m h = ⊎_elim (λ e. omega arith) (λ i. let l = below n m i in omega arith) h

at_end : {A : Type 0} (ws : List A) (w d : A) (k : ℕ) → k < length (ws ++ w ∷ []) → ((k < length ws) × (get_or (ws ++ w ∷ []) k d ≡ get_or ws k d)) ⊎ ((k ≡ length ws) × (get_or (ws ++ w ∷ []) k d ≡ w))
at_end [] w d zero h = inr (refl, refl)
at_end [] w d (suc k) h = absurd (omega arith)
at_end (x ∷ ws) w d zero h = inl (omega arith, refl)
at_end (x ∷ ws) w d (suc k) h = ⊎_elim (λ t. inl (let a = t.0 in omega arith, t.1)) (λ t. inr (let a = t.0 in omega arith, t.1)) (at_end ws w d k (omega arith))

pub one_new : (z : TurnId) (count n : ℕ) (ws : List Writer) (w : Writer) → AllNew z count ws → length ws ≡ n → IsNew z count n w → AllNew z count (ws ++ w ∷ [])
one_new z count n ws w all long new k d h = ⊎_elim
    (λ t. subst (IsNew z count k) (sym t.1) (all k d t.0))
    (λ t. subst (λ (p : ℕ × Writer). IsNew z count p.0 p.1) (λ i. (sym (t.0 ∙ long) i, sym t.1 i)) new)
    (at_end ws w d k h)

abbrev pair : ℕ → List ℕ → ℕ × List ℕ
pair k xs = (k, xs)

pub gathers_none : (count n : ℕ) (v : View ℕ) → v.number ≡ None → v.kept ≡ [] → Gathers count n n v
gathers_none count n v num kept = record {
  all = λ k xs h. absurd (subst (In (pair k xs)) (λ i. own_list (num i) v.mine ++ kept i) h);
  has = λ k a b. absurd (omega arith);
}

pub gathers_more : (count m n : ℕ) (v w : View ℕ) → Gathers count (suc m) n v → m < n → lists w ≡ (m + 1, upto count) ∷ [] → Gathers count m n (joined v w)
gathers_more count m n v w g within theirs = record {
  all = λ k xs h. ⊎_elim
      (λ (own : In (pair k xs) (own_list v.number v.mine)). let a = g.all k xs (in_left (k, xs) (own_list v.number v.mine) v.kept own) in let b = a.1 in (a.0, omega arith, a.2))
      (λ (rest : In (pair k xs) (v.kept ++ lists w)). ⊎_elim
      (λ (kept : In (pair k xs) v.kept). let a = g.all k xs (in_right (k, xs) (own_list v.number v.mine) v.kept kept) in let b = a.1 in (a.0, omega arith, a.2))
      (λ (new : In (pair k xs) (lists w)). last k xs (subst (In (pair k xs)) theirs new))
      (in_or (k, xs) v.kept (lists w) rest))
      (in_or (k, xs) (own_list v.number v.mine) (v.kept ++ lists w) h);
  has = λ k a b. dite (dec_le (suc (suc m)) k)
      (λ above. ⊎_elim
      (λ (own : In (pair k (upto count)) (own_list v.number v.mine)). in_left (k, upto count) (own_list v.number v.mine) (v.kept ++ lists w) own)
      (λ (kept : In (pair k (upto count)) v.kept). in_right (k, upto count) (own_list v.number v.mine) (v.kept ++ lists w) (in_left (k, upto count) v.kept (lists w) kept))
      (in_or (k, upto count) (own_list v.number v.mine) v.kept (g.has k (omega arith) b)))
      (λ here. let same : k ≡ m + 1 = omega arith in
      in_right (k, upto count) (own_list v.number v.mine) (v.kept ++ lists w) (in_right (k, upto count) v.kept (lists w) (subst (In (pair k (upto count))) (sym theirs) (inl (λ i. (sym same i, upto count))))));
}
  where
    last : (k : ℕ) (xs : List ℕ) → In (pair k xs) (pair (m + 1) (upto count) ∷ []) → (xs ≡ upto count) × (m < k) × (k ≤ n)
    last k xs h = ⊎_elim (λ (e : pair (m + 1) (upto count) ≡ pair k xs). let same : m + 1 ≡ k = ap (λ (z : ℕ × List ℕ). z.0) e in (sym (ap (λ (z : ℕ × List ℕ). z.1) e), omega arith, omega arith)) (λ i. absurd i) h

pub has_all : (n count : ℕ) (l : List (ℕ × ℕ)) (v : View ℕ) → Gathers count 0 n v → ((k : ℕ) → items k l ≡ list_of k (lists v)) → HasAll n count l
has_all n count l v g same = record {
  each = λ k some within. same k ∙ list_of_is k (lists v) (upto count) (λ xs h. (g.all k xs h).0) (inr (upto count, g.has k some within));
  others = λ k beyond. same k ∙ list_of_is k (lists v) [] (λ xs h. let a = g.all k xs h in let some = a.1 in let within = a.2 in ⊎_elim (λ e. absurd (omega arith)) (λ e. absurd (omega arith)) beyond) (inl refl);
}

front : {A : Type 0} (ws : List A) (w d : A) (k : ℕ) → k < length ws → get_or (ws ++ w ∷ []) k d ≡ get_or ws k d
front [] w d k h = absurd (omega arith)
front (x ∷ ws) w d zero h = refl
front (x ∷ ws) w d (suc k) h = front ws w d k (omega arith)

back : {A : Type 0} (ws : List A) (w d : A) → get_or (ws ++ w ∷ []) (length ws) d ≡ w
back [] w d = refl
back (x ∷ ws) w d = back ws w d

one_longer : {A : Type 0} (ws : List A) (w : A) → length (ws ++ w ∷ []) ≡ suc (length ws)
one_longer [] w = refl
one_longer (x ∷ ws) w = ap suc (one_longer ws w)

-- the last writer is taken from the others
pub popped : (z : TurnId) (count : ℕ) (all ws : List Writer) (w : Writer) → AllWritten z count all → all ≡ ws ++ w ∷ [] → AllWritten z count ws × HasWritten z count (length ws) w
popped z count all ws w written is = let now = subst (AllWritten z count) is written in let long = one_longer ws w in (
  λ k d h. subst (HasWritten z count k) (front ws w d k h) (now k d (omega arith)),
  subst (HasWritten z count (length ws)) (back ws w w) (now (length ws) w (omega arith)),
)

pub joins_one : (z : TurnId) (count n : ℕ) (all ws : List Writer) (w : Writer) (v u : View ℕ) → AllWritten z count all → all ≡ ws ++ w ∷ [] → length all ≤ n → Gathers count (length all) n v → u ≡ joined v w.chair.view
    → (u.share + length ws ≡ v.share + length all) × Gathers count (length ws) n u × (length ws ≤ n)
joins_one z count n all ws w v u written is fits g now =
    let p = (popped z count all ws w written is).1 in
    let long : length all ≡ suc (length ws) = ap length is ∙ one_longer ws w in
    let one = p.2 in
    let sum : u.share ≡ v.share + w.chair.view.share = ap (λ (x : View ℕ). x.share) now in (
      omega arith,
      subst (Gathers count (length ws) n) (sym now) (gathers_more count (length ws) n v w.chair.view (subst (λ m. Gathers count m n v) long g) (omega arith) p.3),
      omega arith,
    )

pub wrote_all : (n m count : ℕ) (base l log : List (ℕ × ℕ)) (v : View ℕ) → base ≡ [] → m ≡ n → Gathers count 0 m v → l ≡ base ++ log → ((k : ℕ) → items k log ≡ list_of k (lists v)) → HasAll n count l
wrote_all n m count base l log v empty long g is same =
    has_all n count l v (subst (λ (z : ℕ). Gathers count 0 z v) long g) (λ k. ap (items k) (is ∙ ap (λ (b : List (ℕ × ℕ)). b ++ log) empty) ∙ same k)
