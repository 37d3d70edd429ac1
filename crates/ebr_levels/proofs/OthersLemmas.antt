-- What a step on one transaction leaves of the others.
use Rattle.std.proofs.Common.{◌≡◌, ◌<◌, ◌≤◌, ◌⊎◌, inl, inr, ⊎_elim, false, List, [], ◌∷◌, ◌++◌, map, refl, sym, ap, ◌∙◌, append-nil, arith, cond}
use Rattle.std.specs.Prelude.{◌==◌, find, unwrap_or}
use Rattle.std.proofs.lemmas.Bool.{and_from, both_ways, cases_lt, eq-eqb}
use Rattle.std.proofs.lemmas.List.Elements.{filter-append}
use Rattle.ebr_base.specs.declared.row.RowId.{RowId}
use Rattle.ebr_base.specs.declared.row.TxId.{TxId}
use Rattle.ebr_locks.specs.Locks.{Lock, same_tx, is_of, locks_of}
use Rattle.ebr_tx.specs.Data.{Transaction, Data, is_named, not_begun, changed, own}
use Rattle.ebr_tx.proofs.SoundLemmas.{find-other, names}
use Rattle.ebr_levels.specs.Keeps.{IsNoHigher, IsOutside}

pub itself_no_higher : (t : TxId) → IsNoHigher t t
itself_no_higher t e = omega arith

pub outside_no_higher : (t u : TxId) → IsOutside t u → IsNoHigher t u
outside_no_higher t u out e = let less : u.depth < t.depth = out e in omega (arith, less)

pub outside_differs : (t u : TxId) → IsOutside t u → same_tx t u ≡ false
outside_differs t u out = ⊎_elim (λ (same : t ≡ u). absurd (not_below same)) (λ (far : same_tx t u ≡ false). far) (names t u)
  where
    not_below : t ≡ u → ⊥
    not_below same =
        let less : u.depth < t.depth = out (ap (λ (x : TxId). x.session.0) (sym same)) in
        let depth : t.depth ≡ u.depth = ap (λ (x : TxId). x.depth) same in
        omega (arith, less, depth)

-- ---- one transaction changed

module _ (t : TxId) (f : Transaction → Transaction) (keeps : (x : Transaction) → (f x).id ≡ x.id) (d d' : Data) (is : d'.live ≡ changed t f d.live) where
  pub own_other : (u : TxId) → same_tx t u ≡ false → own d' u ≡ own d u
  own_other u far = ap (λ live. unwrap_or (find (is_named u) live) (not_begun u)) is ∙ ap (λ o. unwrap_or o (not_begun u)) (find-other t f keeps u d.live far)

-- ---- locks added

abbrev pub locked_by : TxId → List RowId → List Lock
locked_by t rows = map (λ row. (row, t)) rows

module _ (t u : TxId) (far : same_tx t u ≡ false) where
  none_locked : (rows : List RowId) → locks_of u (locked_by t rows) ≡ []
  none_locked [] = refl
  none_locked (row ∷ rows) = ap (λ b. cond b ((row, t) ∷ locks_of u (locked_by t rows)) (locks_of u (locked_by t rows))) far ∙ none_locked rows

  pub others_locks : (rows : List RowId) (ls : List Lock) → locks_of u (ls ++ locked_by t rows) ≡ locks_of u ls
  others_locks rows ls = filter-append (is_of u) ls (locked_by t rows) ∙ ap (λ more. locks_of u ls ++ more) (none_locked rows) ∙ append-nil (locks_of u ls)

pub own_locks : (t : TxId) (rows : List RowId) (ls : List Lock) → locks_of t (ls ++ locked_by t rows) ≡ locks_of t ls ++ locks_of t (locked_by t rows)
own_locks t rows ls = filter-append (is_of t) ls (locked_by t rows)

-- ---- which transactions stand no higher

-- one that stands no higher is the transaction itself, or stands outside
pub itself_or_outside : (t u : TxId) → IsNoHigher t u → (t ≡ u) ⊎ IsOutside t u
itself_or_outside t u low = ⊎_elim (λ (same : t ≡ u). inl same) (λ (far : same_tx t u ≡ false). inr (below far)) (names t u)
  where
    below : same_tx t u ≡ false → u.session.0 ≡ t.session.0 → u.depth < t.depth
    below far e = ⊎_elim (λ (h : u.depth < t.depth). h) (λ (h : t.depth ≤ u.depth). absurd (both_ways (same_tx t u) far (and_from (t.session.0 == u.session.0) (t.depth == u.depth) (eq-eqb t.session.0 u.session.0 (sym e)) (eq-eqb t.depth u.depth (as_deep h (low e)))))) (cases_lt u.depth t.depth)
      where
        as_deep : t.depth ≤ u.depth → u.depth ≤ t.depth → t.depth ≡ u.depth
        as_deep h k = omega (arith, h, k)
