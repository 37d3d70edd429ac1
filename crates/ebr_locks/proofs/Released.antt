-- What a release does to the list of locks.
use Rattle.std.proofs.Common.{◌≡◌, ℕ, zero, suc, Bool, true, false, not, cond, ◌-◌, ◌<◌, ◌≤◌, ⊎_elim, List, [], ◌∷◌, ◌++◌, length, take, sym, refl, ap, ◌∙◌, arith}
use Rattle.std.proofs.lemmas.Bool.{or_parts, or_from, cases_lt}
use Rattle.ebr_base.specs.declared.row.RowId.{RowId}
use Rattle.ebr_base.specs.declared.row.TxId.{TxId}
use Rattle.ebr_locks.specs.Locks.{Lock, same_row, is_of, is_locked, locks_of, others_than, released, IsLockedOnce, AreLocks}

module _ (tx : TxId) where
  -- the locks of the transaction are its first ones
  pub released-own : (mark : ℕ) (taken : List Lock) → locks_of tx (released tx mark taken) ≡ take mark (locks_of tx taken)
  released-own zero [] = refl
  released-own (suc mark) [] = refl
  released-own zero (l ∷ taken) = by (is_of tx l) refl (released-own zero taken)
    where
      by : (b : Bool) → is_of tx l ≡ b → locks_of tx (released tx zero taken) ≡ take zero (locks_of tx taken)
          → locks_of tx (cond b (released tx zero taken) (l ∷ released tx zero taken)) ≡ take zero (cond b (l ∷ locks_of tx taken) (locks_of tx taken))
      by true is rest = rest
      by false is rest = rw is rest
  released-own (suc mark) (l ∷ taken) = by (is_of tx l) refl (released-own mark taken) (released-own (suc mark) taken)
    where
      by : (b : Bool) → is_of tx l ≡ b → locks_of tx (released tx mark taken) ≡ take mark (locks_of tx taken) → locks_of tx (released tx (suc mark) taken) ≡ take (suc mark) (locks_of tx taken)
          → locks_of tx (cond b (l ∷ released tx mark taken) (l ∷ released tx (suc mark) taken)) ≡ take (suc mark) (cond b (l ∷ locks_of tx taken) (locks_of tx taken))
      by true is rest same = rw is (ap (λ ls. l ∷ ls) rest)
      by false is rest same = rw is same

  -- the locks of others stay
  pub released-others : (mark : ℕ) (taken : List Lock) → others_than tx (released tx mark taken) ≡ others_than tx taken
  released-others mark [] = refl
  released-others zero (l ∷ taken) = by (is_of tx l) refl (released-others zero taken)
    where
      by : (b : Bool) → is_of tx l ≡ b → others_than tx (released tx zero taken) ≡ others_than tx taken
          → others_than tx (cond b (released tx zero taken) (l ∷ released tx zero taken)) ≡ cond (not b) (l ∷ others_than tx taken) (others_than tx taken)
      by true is rest = rest
      by false is rest = rw is (ap (λ ls. l ∷ ls) rest)
  released-others (suc mark) (l ∷ taken) = by (is_of tx l) refl (released-others mark taken) (released-others (suc mark) taken)
    where
      by : (b : Bool) → is_of tx l ≡ b → others_than tx (released tx mark taken) ≡ others_than tx taken → others_than tx (released tx (suc mark) taken) ≡ others_than tx taken
          → others_than tx (cond b (l ∷ released tx mark taken) (l ∷ released tx (suc mark) taken)) ≡ cond (not b) (l ∷ others_than tx taken) (others_than tx taken)
      by true is rest same = rw is rest
      by false is rest same = rw is (ap (λ ls. l ∷ ls) same)

  pub free-released : (row : RowId) (mark : ℕ) (taken : List Lock) → is_locked row taken ≡ false → is_locked row (released tx mark taken) ≡ false
  free-released row mark [] e = refl
  free-released row zero (l ∷ taken) e =
      let p = or_parts (same_row l.0 row) (is_locked row taken) e in
      by (is_of tx l) p.0 (free-released row zero taken p.1)
    where
      by : (b : Bool) → same_row l.0 row ≡ false → is_locked row (released tx zero taken) ≡ false
          → is_locked row (cond b (released tx zero taken) (l ∷ released tx zero taken)) ≡ false
      by true here rest = rest
      by false here rest = or_from (same_row l.0 row) (is_locked row (released tx zero taken)) here rest
  free-released row (suc mark) (l ∷ taken) e =
      let p = or_parts (same_row l.0 row) (is_locked row taken) e in
      by (is_of tx l) p.0 (free-released row mark taken p.1) (free-released row (suc mark) taken p.1)
    where
      by : (b : Bool) → same_row l.0 row ≡ false → is_locked row (released tx mark taken) ≡ false → is_locked row (released tx (suc mark) taken) ≡ false
          → is_locked row (cond b (l ∷ released tx mark taken) (l ∷ released tx (suc mark) taken)) ≡ false
      by true here rest same = or_from (same_row l.0 row) (is_locked row (released tx mark taken)) here rest
      by false here rest same = or_from (same_row l.0 row) (is_locked row (released tx (suc mark) taken)) here same

  once-released : (mark : ℕ) (taken : List Lock) → IsLockedOnce taken → IsLockedOnce (released tx mark taken)
  once-released mark [] once = tt
  once-released zero (l ∷ taken) once = by (is_of tx l) (once-released zero taken once.1)
    where
      by : (b : Bool) → IsLockedOnce (released tx zero taken) → IsLockedOnce (cond b (released tx zero taken) (l ∷ released tx zero taken))
      by true rest = rest
      by false rest = (free-released l.0 zero taken once.0, rest)
  once-released (suc mark) (l ∷ taken) once = by (is_of tx l) (once-released mark taken once.1) (once-released (suc mark) taken once.1)
    where
      by : (b : Bool) → IsLockedOnce (released tx mark taken) → IsLockedOnce (released tx (suc mark) taken)
          → IsLockedOnce (cond b (l ∷ released tx mark taken) (l ∷ released tx (suc mark) taken))
      by true rest same = (free-released l.0 mark taken once.0, rest)
      by false rest same = (free-released l.0 (suc mark) taken once.0, same)

  length-released : (mark : ℕ) (taken : List Lock) → length (released tx mark taken) ≤ length taken
  length-released mark [] = omega arith
  length-released zero (l ∷ taken) = by (is_of tx l) (length-released zero taken)
    where
      by : (b : Bool) → length (released tx zero taken) ≤ length taken → length (cond b (released tx zero taken) (l ∷ released tx zero taken)) ≤ suc (length taken)
      by true rest = omega arith
      by false rest = omega arith
  length-released (suc mark) (l ∷ taken) = by (is_of tx l) (length-released mark taken) (length-released (suc mark) taken)
    where
      by : (b : Bool) → length (released tx mark taken) ≤ length taken → length (released tx (suc mark) taken) ≤ length taken
          → length (cond b (l ∷ released tx mark taken) (l ∷ released tx (suc mark) taken)) ≤ suc (length taken)
      by true rest same = omega arith
      by false rest same = omega arith

  pub locks-released : (mark : ℕ) (taken : List Lock) → AreLocks taken → AreLocks (released tx mark taken)
  locks-released mark taken are = record {
    once = once-released mark taken are.once;
    count = omega (arith, length-released mark taken, are.count);
  }

-- one step of a release, by whose the lock is
pub released-other : (tx : TxId) (mark : ℕ) (l : Lock) (taken : List Lock) → is_of tx l ≡ false → released tx mark (l ∷ taken) ≡ l ∷ released tx mark taken
released-other tx zero l taken e = rw e refl
released-other tx (suc mark) l taken e = rw e refl

pub released-kept : (tx : TxId) (mark : ℕ) (l : Lock) (taken : List Lock) → is_of tx l ≡ true → 0 < mark → released tx mark (l ∷ taken) ≡ l ∷ released tx (mark - 1) taken
released-kept tx zero l taken e some = absurd (omega arith)
released-kept tx (suc mark) l taken e some =
    let less : suc mark - 1 ≡ mark = omega arith in
    rw (e, less) refl

pub released-freed : (tx : TxId) (l : Lock) (taken : List Lock) → is_of tx l ≡ true → released tx 0 (l ∷ taken) ≡ released tx 0 taken
released-freed tx l taken e = rw e refl

-- where the first locks have as many as are kept, the others are freed
pub released-split : (tx : TxId) (mark : ℕ) (xs ys : List Lock) → length (locks_of tx xs) ≡ mark → released tx mark (xs ++ ys) ≡ xs ++ released tx 0 ys
released-split tx mark [] ys e = ap (λ n. released tx n ys) (sym e)
released-split tx zero (x ∷ xs) ys e = by (is_of tx x) refl e (released-split tx zero xs ys)
  where
    by : (b : Bool) → is_of tx x ≡ b → length (cond b (x ∷ locks_of tx xs) (locks_of tx xs)) ≡ zero → (length (locks_of tx xs) ≡ zero → released tx zero (xs ++ ys) ≡ xs ++ released tx 0 ys)
        → cond (is_of tx x) (released tx zero (xs ++ ys)) (x ∷ released tx zero (xs ++ ys)) ≡ x ∷ xs ++ released tx 0 ys
    by true is none rest = absurd (omega (arith, none))
    by false is none rest = rw is (ap (λ ls. x ∷ ls) (rest none))
released-split tx (suc mark) (x ∷ xs) ys e = by (is_of tx x) refl e (released-split tx mark xs ys) (released-split tx (suc mark) xs ys)
  where
    by : (b : Bool) → is_of tx x ≡ b → length (cond b (x ∷ locks_of tx xs) (locks_of tx xs)) ≡ suc mark → (length (locks_of tx xs) ≡ mark → released tx mark (xs ++ ys) ≡ xs ++ released tx 0 ys)
        → (length (locks_of tx xs) ≡ suc mark → released tx (suc mark) (xs ++ ys) ≡ xs ++ released tx 0 ys)
        → cond (is_of tx x) (x ∷ released tx mark (xs ++ ys)) (x ∷ released tx (suc mark) (xs ++ ys)) ≡ x ∷ xs ++ released tx 0 ys
    by true is some rest same = rw is (ap (λ ls. x ∷ ls) (rest (omega (arith, some))))
    by false is some rest same = rw is (ap (λ ls. x ∷ ls) (same some))

-- where there are no more than are kept, all stay
pub released-all : (tx : TxId) (mark : ℕ) (xs : List Lock) → length (locks_of tx xs) ≤ mark → released tx mark xs ≡ xs
released-all tx mark [] le = refl
released-all tx zero (x ∷ xs) le = by (is_of tx x) refl le (released-all tx zero xs)
  where
    by : (b : Bool) → is_of tx x ≡ b → length (cond b (x ∷ locks_of tx xs) (locks_of tx xs)) ≤ zero → (length (locks_of tx xs) ≤ zero → released tx zero xs ≡ xs)
        → cond (is_of tx x) (released tx zero xs) (x ∷ released tx zero xs) ≡ x ∷ xs
    by true is none rest = absurd (omega (arith, none))
    by false is none rest = rw is (ap (λ ls. x ∷ ls) (rest none))
released-all tx (suc mark) (x ∷ xs) le = by (is_of tx x) refl le (released-all tx mark xs) (released-all tx (suc mark) xs)
  where
    by : (b : Bool) → is_of tx x ≡ b → length (cond b (x ∷ locks_of tx xs) (locks_of tx xs)) ≤ suc mark → (length (locks_of tx xs) ≤ mark → released tx mark xs ≡ xs)
        → (length (locks_of tx xs) ≤ suc mark → released tx (suc mark) xs ≡ xs)
        → cond (is_of tx x) (x ∷ released tx mark xs) (x ∷ released tx (suc mark) xs) ≡ x ∷ xs
    by true is some rest same = rw is (ap (λ ls. x ∷ ls) (rest (omega (arith, some))))
    by false is some rest same = rw is (ap (λ ls. x ∷ ls) (same some))

pub held-le : (tx : TxId) (xs : List Lock) → length (locks_of tx xs) ≤ length xs
held-le tx [] = omega arith
held-le tx (x ∷ xs) = by (is_of tx x) (held-le tx xs)
  where
    by : (b : Bool) → length (locks_of tx xs) ≤ length xs → length (cond b (x ∷ locks_of tx xs) (locks_of tx xs)) ≤ suc (length xs)
    by true h = omega arith
    by false h = omega arith

length-take-le : (n : ℕ) (xs : List Lock) → n ≤ length xs → length (take n xs) ≡ n
length-take-le zero xs le = refl
length-take-le (suc n) [] le = absurd (omega (arith, le))
length-take-le (suc n) (x ∷ xs) le = ap suc (length-take-le n xs (omega (arith, le)))

-- ---- a release after another one

pub released-again : (tx : TxId) (few mark : ℕ) (xs : List Lock) → few ≤ mark → released tx few (released tx mark xs) ≡ released tx few xs
released-again tx few mark [] le = nothing few mark
  where
    nothing : (few mark : ℕ) → released tx few (released tx mark []) ≡ released tx few []
    nothing zero zero = refl
    nothing zero (suc mark) = refl
    nothing (suc few) zero = refl
    nothing (suc few) (suc mark) = refl
released-again tx zero zero (x ∷ xs) le = by (is_of tx x) refl (released-again tx zero zero xs le)
  where
    by : (b : Bool) → is_of tx x ≡ b → released tx zero (released tx zero xs) ≡ released tx zero xs
        → released tx zero (cond b (released tx zero xs) (x ∷ released tx zero xs)) ≡ cond b (released tx zero xs) (x ∷ released tx zero xs)
    by true is rest = rest
    by false is rest = rw is (ap (λ ls. x ∷ ls) rest)
released-again tx zero (suc mark) (x ∷ xs) le = by (is_of tx x) refl (released-again tx zero mark xs (omega arith)) (released-again tx zero (suc mark) xs le)
  where
    by : (b : Bool) → is_of tx x ≡ b → released tx zero (released tx mark xs) ≡ released tx zero xs → released tx zero (released tx (suc mark) xs) ≡ released tx zero xs
        → released tx zero (cond b (x ∷ released tx mark xs) (x ∷ released tx (suc mark) xs)) ≡ cond b (released tx zero xs) (x ∷ released tx zero xs)
    by true is rest same = rw is rest
    by false is rest same = rw is (ap (λ ls. x ∷ ls) same)
released-again tx (suc few) zero (x ∷ xs) le = absurd (omega (arith, le))
released-again tx (suc few) (suc mark) (x ∷ xs) le = by (is_of tx x) refl (released-again tx few mark xs (omega (arith, le))) (released-again tx (suc few) (suc mark) xs le)
  where
    by : (b : Bool) → is_of tx x ≡ b → released tx few (released tx mark xs) ≡ released tx few xs → released tx (suc few) (released tx (suc mark) xs) ≡ released tx (suc few) xs
        → released tx (suc few) (cond b (x ∷ released tx mark xs) (x ∷ released tx (suc mark) xs)) ≡ cond b (x ∷ released tx few xs) (x ∷ released tx (suc few) xs)
    by true is rest same = rw is (ap (λ ls. x ∷ ls) rest)
    by false is rest same = rw is (ap (λ ls. x ∷ ls) same)

-- what is left after one more step of a release, of as many locks as there are
pub released-step : (tx : TxId) (held : ℕ) (was now next : List Lock) → now ≡ released tx held was → held ≤ length (locks_of tx was) → next ≡ released tx (length (locks_of tx now) - 1) now → next ≡ released tx (held - 1) was
released-step tx held was now next is low step =
    let count : length (locks_of tx now) ≡ held = ap (λ ls. length (locks_of tx ls)) is ∙ ap length (released-own tx held was) ∙ length-take-le held (locks_of tx was) low in
    step ∙ ap (λ n. released tx (n - 1) now) count ∙ ap (released tx (held - 1)) is ∙ released-again tx (held - 1) held was (omega arith)

-- no more than are there
pub released-most : (tx : TxId) (held mark : ℕ) (xs : List Lock) → held ≤ mark → (held < mark → held ≡ length (locks_of tx xs)) → released tx held xs ≡ released tx mark xs
released-most tx held mark xs le all = ⊎_elim
    (λ (less : held < mark).
    let whole : held ≡ length (locks_of tx xs) = all less in
    released-all tx held xs (omega (arith, whole)) ∙ sym (released-all tx mark xs (omega (arith, whole, less))))
    (λ (more : mark ≤ held). let same : held ≡ mark = omega (arith, le, more) in ap (λ n. released tx n xs) same) (cases_lt held mark)
