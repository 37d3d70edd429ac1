-- Going back to the mark of before leaves all as before.
use Rattle.std.proofs.Common.{◌≡◌, ℕ, zero, suc, ◌+◌, ◌≤◌, Bool, true, false, cond, List, [], ◌∷◌, ◌++◌, Some, length, map, take, refl, sym, ap, subst, ◌∙◌, append_assoc, append-nil, length-append, arith}
use Rattle.std.specs.Prelude.{◌==◌, find, unwrap_or}
use Rattle.std.proofs.Math.Seq.{take-append_seam}
use Rattle.std.proofs.lemmas.Bool.{and_from, eq-eqb}
use Rattle.std.proofs.lemmas.List.{map-append}
use Rattle.std.proofs.lemmas.List.Elements.{filter-append}
use Rattle.ebr_base.specs.declared.row.Change.{Change}
use Rattle.ebr_base.specs.declared.row.RowId.{RowId}
use Rattle.ebr_base.specs.declared.row.TxId.{TxId}
use Rattle.ebr_locks.specs.Locks.{Lock, same_tx, is_of, locks_of, released}
use Rattle.ebr_tx.specs.declared.savepoints.TxMark.{TxMark}
use Rattle.ebr_tx.specs.Data.{Transaction, Data, is_named, not_begun, changed}
use Rattle.ebr_tx.specs.Calls.{after_begin, begun_at, after_change, with_change, mark_of, marked, after_mark, IsMarkOf}
use Rattle.ebr_query.specs.Queries.{AddsLocks}
use Rattle.ebr_exec.specs.Over.{Over}

itself : (t : TxId) → same_tx t t ≡ true
itself t = and_from (t.session.0 == t.session.0) (t.depth == t.depth) (eq-eqb t.session.0 t.session.0 refl) (eq-eqb t.depth t.depth refl)

abbrev own_in : TxId → List Transaction → Transaction
own_in t live = unwrap_or (find (is_named t) live) (not_begun t)

-- ---- one transaction changed twice

module _ (t : TxId) (f g : Transaction → Transaction) (named : (x : Transaction) → (f x).id ≡ x.id) where
  pub twice : (live : List Transaction) → changed t g (changed t f live) ≡ changed t (λ x. g (f x)) live
  twice [] = refl
  twice (x ∷ xs) = by (is_named t x) refl (twice xs)
    where
      by : (b : Bool) → is_named t x ≡ b → changed t g (changed t f xs) ≡ changed t (λ x. g (f x)) xs
          → changed t g (cond b (f x ∷ xs) (x ∷ changed t f xs)) ≡ cond b (g (f x) ∷ xs) (x ∷ changed t (λ x. g (f x)) xs)
      by true is rest = let here : is_named t (f x) ≡ true = ap (λ i. same_tx i t) (named x) ∙ is in ap (λ b. cond b (g (f x) ∷ xs) (f x ∷ changed t g xs)) here
      by false is rest = ap (λ b. cond b (g x ∷ changed t f xs) (x ∷ changed t g (changed t f xs))) is ∙ ap (λ ys. x ∷ ys) rest

-- ---- the transactions

module _ (t : TxId) (f : Transaction → Transaction) (more : List Change) (named : (x : Transaction) → (f x).id ≡ x.id) (grows : (x : Transaction) → (f x).changes ≡ x.changes ++ more) where
  -- a transaction is what it was at its mark
  unmarked : (m : TxMark) (x : Transaction) → m.begun ≡ x.begun → m.changes ≡ length x.changes → m.savepoints ≡ x.savepoints → marked m (f x) ≡ x
  unmarked m x b c s =
      let kept : take m.changes (f x).changes ≡ x.changes = ap (λ n. take n (f x).changes) c ∙ ap (take (length x.changes)) (grows x) ∙ take-append_seam x.changes more in
      λ i. record { id = named x i; begun = b i; changes = kept i; savepoints = s i }

  back : (m : TxMark) (live : List Transaction) → m.begun ≡ (own_in t live).begun → m.changes ≡ length (own_in t live).changes → m.savepoints ≡ (own_in t live).savepoints
      → changed t (marked m) (changed t f live) ≡ live
  back m [] b c s = refl
  back m (x ∷ xs) b c s = by (is_named t x) refl b c s (back m xs)
    where
      by : (q : Bool) → is_named t x ≡ q
          → m.begun ≡ (unwrap_or (cond q (Some x) (find (is_named t) xs)) (not_begun t)).begun
          → m.changes ≡ length (unwrap_or (cond q (Some x) (find (is_named t) xs)) (not_begun t)).changes
          → m.savepoints ≡ (unwrap_or (cond q (Some x) (find (is_named t) xs)) (not_begun t)).savepoints
          → (m.begun ≡ (own_in t xs).begun → m.changes ≡ length (own_in t xs).changes → m.savepoints ≡ (own_in t xs).savepoints → changed t (marked m) (changed t f xs) ≡ xs)
          → changed t (marked m) (cond q (f x ∷ xs) (x ∷ changed t f xs)) ≡ x ∷ xs
      by true is b c s rest =
          let here : is_named t (f x) ≡ true = ap (λ i. same_tx i t) (named x) ∙ is in
          ap (λ q. cond q (marked m (f x) ∷ xs) (f x ∷ changed t (marked m) xs)) here ∙ ap (λ y. y ∷ xs) (unmarked m x b c s)
      by false is b c s rest = ap (λ q. cond q (marked m x ∷ changed t f xs) (x ∷ changed t (marked m) (changed t f xs))) is ∙ ap (λ ys. x ∷ ys) (rest b c s)

  -- it has no fewer changes
  pub no_fewer : (live : List Transaction) → length (own_in t live).changes ≤ length (own_in t (changed t f live)).changes
  no_fewer [] = omega arith
  no_fewer (x ∷ xs) = by (is_named t x) refl (no_fewer xs)
    where
      by : (q : Bool) → is_named t x ≡ q → length (own_in t xs).changes ≤ length (own_in t (changed t f xs)).changes
          → length (unwrap_or (cond q (Some x) (find (is_named t) xs)) (not_begun t)).changes ≤ length (own_in t (cond q (f x ∷ xs) (x ∷ changed t f xs))).changes
      by true is rest =
          let here : is_named t (f x) ≡ true = ap (λ i. same_tx i t) (named x) ∙ is in
          let so : length (f x).changes ≡ length x.changes + length more = ap (λ (cs : List Change). length cs) (grows x) ∙ length-append x.changes more in
          subst (λ q. length x.changes ≤ length (unwrap_or (cond q (Some (f x)) (find (is_named t) xs)) (not_begun t)).changes) (sym here) (omega (arith, so))
      by false is rest = subst (λ q. length (own_in t xs).changes ≤ length (unwrap_or (cond q (Some x) (find (is_named t) (changed t f xs))) (not_begun t)).changes) (sym is) rest

-- ---- the locks

module _ (t : TxId) where
  abbrev pub locked_by : List RowId → List Lock
  locked_by rows = map (λ row. (row, t)) rows

  all_released : (rows : List RowId) → released t 0 (locked_by rows) ≡ []
  all_released [] = refl
  all_released (row ∷ rows) = ap (λ b. cond b (released t 0 (locked_by rows)) ((row, t) ∷ released t 0 (locked_by rows))) (itself t) ∙ all_released rows

  unlocked : (rows : List RowId) (ls : List Lock) → released t (length (locks_of t ls)) (ls ++ locked_by rows) ≡ ls
  unlocked rows [] = all_released rows
  unlocked rows (l ∷ ls) = by (is_of t l) refl (unlocked rows ls)
    where
      passed : (n : ℕ) → is_of t l ≡ false → released t n (l ∷ ls ++ locked_by rows) ≡ l ∷ released t n (ls ++ locked_by rows)
      passed zero is = ap (λ b. cond b (released t zero (ls ++ locked_by rows)) (l ∷ released t zero (ls ++ locked_by rows))) is
      passed (suc n) is = ap (λ b. cond b (l ∷ released t n (ls ++ locked_by rows)) (l ∷ released t (suc n) (ls ++ locked_by rows))) is

      by : (b : Bool) → is_of t l ≡ b → released t (length (locks_of t ls)) (ls ++ locked_by rows) ≡ ls
          → released t (length (cond b (l ∷ locks_of t ls) (locks_of t ls))) (l ∷ ls ++ locked_by rows) ≡ l ∷ ls
      by true is rest = ap (λ b. cond b (l ∷ released t (length (locks_of t ls)) (ls ++ locked_by rows)) (l ∷ released t (suc (length (locks_of t ls))) (ls ++ locked_by rows))) is ∙ ap (λ x. l ∷ x) rest
      by false is rest = passed (length (locks_of t ls)) is ∙ ap (λ x. l ∷ x) rest

  pub no_fewer_locks : (rows : List RowId) (ls : List Lock) → length (locks_of t ls) ≤ length (locks_of t (ls ++ locked_by rows))
  no_fewer_locks rows ls =
      let so : length (locks_of t (ls ++ locked_by rows)) ≡ length (locks_of t ls) + length (locks_of t (locked_by rows)) =
      ap (λ (xs : List Lock). length xs) (filter-append (is_of t) ls (locked_by rows)) ∙ length-append (locks_of t ls) (locks_of t (locked_by rows)) in
      omega (arith, so)

-- ---- together

module _ (before : Data) (t : TxId) (now : Data) where
  pub undone : Over before t now → after_mark now t (mark_of before t) ≡ before
  undone o =
      let m : TxMark = mark_of before t in
      let live : changed t (marked m) (changed t o.step before.live) ≡ before.live = back t o.step o.more o.named o.changes m before.live refl refl refl in
      let locks : released t m.locks (before.locks ++ locked_by t o.added) ≡ before.locks = unlocked t o.added before.locks in
      ap (λ (d : Data). after_mark d t m) o.is ∙ (λ i. record before { live = live i; locks = locks i })

  pub still_mark : Over before t now → IsMarkOf before t (mark_of before t) → IsMarkOf now t (mark_of before t)
  still_mark o h = subst (λ d. IsMarkOf d t (mark_of before t)) (sym o.is) (record {
    begun = h.begun;
    changes = no_fewer t o.step o.more o.named o.changes before.live;
    locks = no_fewer_locks t o.added before.locks;
  })

-- ---- what adds to a transaction

unchanged : (t : TxId) (live : List Transaction) → changed t (λ x. x) live ≡ live
unchanged t [] = refl
unchanged t (x ∷ xs) = by (is_named t x) (unchanged t xs)
  where
    by : (q : Bool) → changed t (λ x. x) xs ≡ xs → cond q (x ∷ xs) (x ∷ changed t (λ x. x) xs) ≡ x ∷ xs
    by true rest = refl
    by false rest = ap (λ ys. x ∷ ys) rest

pub over_over : (d d' d'' : Data) (t : TxId) → Over d t d' → Over d' t d'' → Over d t d''
over_over d d' d'' t o p = record {
  step = λ x. p.step (o.step x);
  more = o.more ++ p.more;
  added = o.added ++ p.added;
  named = λ x. p.named (o.step x) ∙ o.named x;
  changes = λ x. p.changes (o.step x) ∙ ap (λ cs. cs ++ p.more) (o.changes x) ∙ append_assoc x.changes o.more p.more;
  is = p.is ∙ ap (λ (x : Data). record x { live = changed t p.step x.live; locks = x.locks ++ locked_by t p.added }) o.is ∙ joined;
}
  where
    locks : (d.locks ++ locked_by t o.added) ++ locked_by t p.added ≡ d.locks ++ locked_by t (o.added ++ p.added)
    locks = append_assoc d.locks (locked_by t o.added) (locked_by t p.added) ∙ ap (λ ls. d.locks ++ ls) (sym (map-append (λ row. (row, t)) o.added p.added))

    joined : record d { live = changed t p.step (changed t o.step d.live); locks = (d.locks ++ locked_by t o.added) ++ locked_by t p.added }
        ≡ record d { live = changed t (λ x. p.step (o.step x)) d.live; locks = d.locks ++ locked_by t (o.added ++ p.added) }
    joined = λ i. record d { live = twice t o.step p.step o.named d.live i; locks = locks i }

pub over_begun : (d : Data) (t : TxId) → Over d t (after_begin d t)
over_begun d t = record {
  step = begun_at (length d.commits);
  more = [];
  added = [];
  named = λ x. refl;
  changes = λ x. sym (append-nil x.changes);
  is = λ i. record d { live = changed t (begun_at (length d.commits)) d.live; locks = sym (append-nil d.locks) i };
}

pub over_change : (d d' : Data) (t : TxId) (c : Change) → d' ≡ after_change d t c → Over d t d'
over_change d d' t c e = record {
  step = with_change c;
  more = c ∷ [];
  added = [];
  named = λ x. refl;
  changes = λ x. refl;
  is = e ∙ (λ i. record d { live = changed t (with_change c) d.live; locks = sym (append-nil d.locks) i });
}

pub over_locks : (d d' : Data) (t : TxId) → AddsLocks d t d' → Over d t d'
over_locks d d' t l = record {
  step = λ x. x;
  more = [];
  added = l.added;
  named = λ x. refl;
  changes = λ x. sym (append-nil x.changes);
  is = l.is ∙ (λ i. record d { live = sym (unchanged t d.live) i; locks = d.locks ++ locked_by t l.added });
}

-- a mark that was taken before, and gone back to
pub undone_to : (before now after : Data) (t : TxId) (m : TxMark) → m ≡ mark_of before t → Over before t now → after ≡ after_mark now t m → after ≡ before
undone_to before now after t m is o e = e ∙ ap (λ x. after_mark now t x) is ∙ undone before t now o

pub still_mark_of : (before now : Data) (t : TxId) (m : TxMark) → m ≡ mark_of before t → IsMarkOf before t m → Over before t now → IsMarkOf now t m
still_mark_of before now t m is h o = subst (IsMarkOf now t) (sym is) (still_mark before t now o (subst (IsMarkOf before t) is h))
