-- What a take does to the list of locks.
use Rattle.std.proofs.Common.{◌≡◌, Bool, true, false, cond, ◌||◌, ◌==◌, ◌<◌, List, [], ◌∷◌, ◌++◌, length, refl, sym, ap, ◌∙◌, arith, length-append}
use Rattle.std.specs.Prelude.{Some, None, option_map, find}
use Rattle.std.proofs.lemmas.Bool.{or_parts, or_from, and_parts, and_from, eqb-true, eq-eqb}
use Rattle.std.proofs.lemmas.List.Folds.{list_any-append}
use Rattle.ebr_base.specs.declared.numbers.TheConstants.{MAX_COUNT}
use Rattle.ebr_base.specs.declared.row.RowId.{RowId}
use Rattle.ebr_base.specs.declared.row.TxId.{TxId}
use Rattle.ebr_locks.specs.Locks.{Lock, same_row, same_tx, holder_of, is_locked, IsLockedOnce, AreLocks}

-- two rows are one where the test says so
pub row-same : (a b : RowId) → same_row a b ≡ true → a ≡ b
row-same a b e =
    let p = and_parts (a.table.0 == b.table.0) (a.row.0 == b.row.0) e in
    let t : a.table.0 ≡ b.table.0 = eqb-true a.table.0 b.table.0 p.0 in
    let r : a.row.0 ≡ b.row.0 = eqb-true a.row.0 b.row.0 p.1 in
    λ i. record { table = record { 0 = t i }; row = record { 0 = r i } }

pub tx-same : (a b : TxId) → same_tx a b ≡ true → a ≡ b
tx-same a b e =
    let p = and_parts (a.session.0 == b.session.0) (a.depth == b.depth) e in
    let s : a.session.0 ≡ b.session.0 = eqb-true a.session.0 b.session.0 p.0 in
    let d : a.depth ≡ b.depth = eqb-true a.depth b.depth p.1 in
    λ i. record { session = record { 0 = s i }; depth = d i }

pub row-itself : (a : RowId) → same_row a a ≡ true
row-itself a = and_from (a.table.0 == a.table.0) (a.row.0 == a.row.0) (eq-eqb a.table.0 a.table.0 refl) (eq-eqb a.row.0 a.row.0 refl)

pub row-back : (a b : RowId) → same_row a b ≡ false → same_row b a ≡ false
row-back a b e = by (same_row b a) refl
  where
    by : (q : Bool) → same_row b a ≡ q → q ≡ false
    by false is = refl
    by true is = sym (row-itself b) ∙ ap (same_row b) (row-same b a is) ∙ ap (λ c. same_row c a) (row-same b a is) ∙ ap (same_row a) (sym (row-same b a is)) ∙ e

-- a row that nobody holds isn't locked
pub free-row : (row : RowId) (taken : List Lock) → holder_of row taken ≡ None → is_locked row taken ≡ false
free-row row [] e = refl
free-row row (l ∷ taken) e = by (same_row l.0 row) e (free-row row taken)
  where
    by : (b : Bool) → option_map (λ m. m.1) (cond b (Some l) (find (λ m. same_row m.0 row) taken)) ≡ None
        → (holder_of row taken ≡ None → is_locked row taken ≡ false) → (b || is_locked row taken) ≡ false
    by true at rest = cc
    by false at rest = rest at

-- the lock that is added is found
pub holder-push : (row : RowId) (tx : TxId) (taken : List Lock) → is_locked row taken ≡ false → holder_of row (taken ++ (row, tx) ∷ []) ≡ Some tx
holder-push row tx [] e = let here : same_row row row ≡ true = row-itself row in rw here
holder-push row tx (l ∷ taken) e =
    let p = or_parts (same_row l.0 row) (is_locked row taken) e in
    let here : same_row l.0 row ≡ false = p.0 in
    rw here (holder-push row tx taken p.1)

pub once-push : (row : RowId) (tx : TxId) (taken : List Lock) → is_locked row taken ≡ false → IsLockedOnce taken → IsLockedOnce (taken ++ (row, tx) ∷ [])
once-push row tx [] e once = (refl, tt)
once-push row tx (l ∷ taken) e once =
    let p = or_parts (same_row l.0 row) (is_locked row taken) e in (
      list_any-append (λ m. same_row m.0 l.0) taken ((row, tx) ∷ [])
          ∙ or_from (is_locked l.0 taken) (same_row row l.0 || false) once.0 (or_from (same_row row l.0) false (row-back l.0 row p.0) refl),
      once-push row tx taken p.1 once.1,
    )

pub locks-push : (row : RowId) (tx : TxId) (taken : List Lock) → holder_of row taken ≡ None → length taken < MAX_COUNT → AreLocks taken → AreLocks (taken ++ (row, tx) ∷ [])
locks-push row tx taken none room are = record {
  once = once-push row tx taken (free-row row taken none) are.once;
  count = omega (arith, length-append taken ((row, tx) ∷ []));
}
