-- The locks, and the one behind them that a place was made for.
use Rattle.std.proofs.Common.{◌≡◌, ◌+◌, ◌-◌, ◌<◌, Bool, true, false, not, cond, ◌&&◌, ◌||◌, ◌==◌, List, [], ◌∷◌, ◌++◌, Option, Some, None, length, length-append, take, refl, sym, ap, ◌∙◌, subst, arith}
use Rattle.std.specs.List.{list_any}
use Rattle.std.proofs.lemmas.Bool.{or_parts}
use Rattle.std.proofs.lemmas.List.{append-nil}
use Rattle.std.proofs.lemmas.List.Folds.{list_any-append}
use Rattle.std.proofs.lemmas.List.Elements.{filter-append}
use Rattle.ebr_base.specs.declared.numbers.TheConstants.{MAX_COUNT}
use Rattle.ebr_base.specs.declared.numbers.TableId.{TableId}
use Rattle.ebr_base.specs.declared.row.RowId.{RowId}
use Rattle.ebr_base.specs.declared.row.TxId.{TxId}
use Rattle.ebr_locks.specs.Locks.{Lock, is_of, is_locked, same_row, locks_of, released, is_held_in, AreLocks, IsLockedOnce, holder_of}
use Rattle.ebr_locks.specs.inside.Filed.{with_place, taken_of, is_held_but, IsPlaced}
use Rattle.ebr_locks.proofs.OwnedLemmas.{owned-itself}
use Rattle.ebr_locks.proofs.FiledLemmas.{once_taken, once_free, place_free, place_other}
use Rattle.ebr_locks.proofs.Released.{released-split, released-freed}
use Rattle.ebr_locks.proofs.Taken.{once-push, row-itself, free-row, holder-push}

-- the last lock of all is its transaction's last
last_gone : (l : Lock) (taken all : List Lock) → all ≡ taken ++ l ∷ [] → released l.1 (length (locks_of l.1 all) - 1) all ≡ taken
last_gone l taken all is =
    let own : is_of l.1 l ≡ true = owned-itself l in
    let one : length (locks_of l.1 (l ∷ [])) ≡ 1 = ap (λ b. length (cond b (l ∷ []) [])) own in
    let whole : length (locks_of l.1 all) ≡ length (locks_of l.1 taken) + length (locks_of l.1 (l ∷ [])) =
    ap (λ ls. length (locks_of l.1 ls)) is ∙ ap length (filter-append (is_of l.1) taken (l ∷ [])) ∙ length-append (locks_of l.1 taken) (locks_of l.1 (l ∷ []))
    in
    let mark : length (locks_of l.1 taken) ≡ length (locks_of l.1 all) - 1 = omega (arith, whole, one) in
    ap (released l.1 (length (locks_of l.1 all) - 1)) is ∙ released-split l.1 (length (locks_of l.1 all) - 1) taken (l ∷ []) mark
    ∙ ap (λ ls. taken ++ ls) (released-freed l.1 l [] own) ∙ append-nil taken

pub given_back : (l : Lock) (all new : List Lock) → all ≡ with_place (taken_of all (Some l)) (Some l) → new ≡ released l.1 (length (locks_of l.1 all) - 1) all → new ≡ taken_of all (Some l)
given_back l all new split is = is ∙ last_gone l (taken_of all (Some l)) all split

-- the locks but the one with a place are locks, and so are those with it
pub locks_taken : (all : List Lock) (place : Option Lock) → IsPlaced all place → AreLocks (taken_of all place)
locks_taken all None placed = placed.locks
locks_taken all (Some l) placed =
    let taken : List Lock = taken_of all (Some l) in
    let count : length all ≡ length taken + 1 = ap length placed.split ∙ length-append taken (l ∷ []) in
    record {
      once = once_taken taken (Some l) (subst IsLockedOnce placed.split placed.locks.once);
      count = omega (arith, count, placed.locks.count);
    }

pub placed_none : (all new : List Lock) (place : Option Lock) → IsPlaced all place → new ≡ taken_of all place → IsPlaced new None
placed_none all new place placed is = record {
  split = refl;
  locks = subst AreLocks (sym is) (locks_taken all place placed);
}

-- one more lock, which has a place
taken-back : (taken : List Lock) (l : Lock) → taken_of (taken ++ l ∷ []) (Some l) ≡ taken
taken-back taken l =
    let count : length (taken ++ l ∷ []) - 1 ≡ length taken = omega (arith, length-append taken (l ∷ [])) in
    ap (λ n. take n (taken ++ l ∷ [])) count ∙ first taken
  where
    first : (xs : List Lock) → take (length xs) (xs ++ l ∷ []) ≡ xs
    first [] = refl
    first (x ∷ xs) = ap (λ ls. x ∷ ls) (first xs)

pub place_more : (taken all : List Lock) (l : Lock) → all ≡ taken ++ l ∷ [] → taken_of all (Some l) ≡ taken
place_more taken all l is = ap (λ ls. taken_of ls (Some l)) is ∙ taken-back taken l

pub placed_more : (taken all : List Lock) (l : Lock) → all ≡ taken ++ l ∷ [] → is_locked l.0 taken ≡ false → length taken < MAX_COUNT → AreLocks taken → IsPlaced all (Some l)
placed_more taken all l is free few locks = record {
  split = is ∙ ap (λ ls. ls ++ l ∷ []) (sym (place_more taken all l is));
  locks = subst AreLocks (sym is) (record { once = once-push l.0 l.1 taken free locks.once; count = omega (arith, length-append taken (l ∷ []), few) });
}

-- ---- what is asked

module _ (all : List Lock) (place : Option Lock) (placed : IsPlaced all place) where
  once : IsLockedOnce (with_place (taken_of all place) place)
  once = subst IsLockedOnce placed.split placed.locks.once

  pub holder_place : (row : RowId) → is_locked row (with_place [] place) ≡ true → None ≡ holder_of row (taken_of all place)
  holder_place row e = place_free (taken_of all place) place row once e

  pub holder_taken : (row : RowId) → is_locked row (with_place [] place) ≡ false → holder_of row all ≡ holder_of row (taken_of all place)
  holder_taken row e = ap (holder_of row) placed.split ∙ place_other (taken_of all place) place row e

  pub count_taken : (tx : TxId) → length (locks_of tx all) ≡ length (locks_of tx (taken_of all place)) + length (locks_of tx (with_place [] place))
  count_taken tx = ap (λ ls. length (locks_of tx ls)) placed.split ∙ by place
    where
      by : (o : Option Lock) → length (locks_of tx (with_place (taken_of all place) o)) ≡ length (locks_of tx (taken_of all place)) + length (locks_of tx (with_place [] o))
      by None = omega arith
      by (Some l) = ap length (filter-append (is_of tx) (taken_of all place) (l ∷ [])) ∙ length-append (locks_of tx (taken_of all place)) (locks_of tx (l ∷ []))

-- the lock that is taken is found
pub place_found : (all : List Lock) (place : Option Lock) (row : RowId) (tx : TxId) → IsPlaced all place → place ≡ Some (row, tx) → holder_of row (taken_of all place) ≡ None → holder_of row all ≡ Some tx
place_found all place row tx placed is none = ap (holder_of row) (placed.split ∙ ap (with_place (taken_of all place)) is) ∙ holder-push row tx (taken_of all place) (free-row row (taken_of all place) none)

-- another row than the one that has a place is another lock
pub held_but : (table : TableId) (but : TxId) (all : List Lock) (l : Lock) → IsPlaced all (Some l) → is_held_but table but l.0 all ≡ is_held_in table but (taken_of all (Some l))
held_but table but all l placed =
    let taken : List Lock = taken_of all (Some l) in
    let free : is_locked l.0 taken ≡ false = ap (is_locked l.0) (sym (append-nil taken)) ∙ once_free taken [] l (subst IsLockedOnce placed.split placed.locks.once) in
    ap (is_held_but table but l.0) placed.split ∙ list_any-append (λ (m : Lock). m.0.table.0 == table.0 && not (is_of but m) && not (same_row m.0 l.0)) taken (l ∷ [])
    ∙ ap (λ b. list_any (λ (m : Lock). m.0.table.0 == table.0 && not (is_of but m) && not (same_row m.0 l.0)) taken || b) last
    ∙ or-false (list_any (λ (m : Lock). m.0.table.0 == table.0 && not (is_of but m) && not (same_row m.0 l.0)) taken) ∙ others taken free
  where
    or-false : (b : Bool) → (b || false) ≡ b
    or-false true = refl
    or-false false = refl

    and-false : (a b : Bool) → (a && b && false) ≡ false
    and-false true true = refl
    and-false true false = refl
    and-false false b = refl

    and-true : (a b : Bool) → (a && b && true) ≡ (a && b)
    and-true true true = refl
    and-true true false = refl
    and-true false b = refl

    last : list_any (λ (m : Lock). m.0.table.0 == table.0 && not (is_of but m) && not (same_row m.0 l.0)) (l ∷ []) ≡ false
    last = or-false (l.0.table.0 == table.0 && not (is_of but l) && not (same_row l.0 l.0)) ∙ ap (λ b. l.0.table.0 == table.0 && not (is_of but l) && not b) (row-itself l.0) ∙ and-false (l.0.table.0 == table.0) (not (is_of but l))

    others : (ls : List Lock) → is_locked l.0 ls ≡ false → is_held_but table but l.0 ls ≡ is_held_in table but ls
    others [] e = refl
    others (m ∷ ms) e =
        let parts = or_parts (same_row m.0 l.0) (is_locked l.0 ms) e in
        ap (λ b. (m.0.table.0 == table.0 && not (is_of but m) && not b) || is_held_but table but l.0 ms) parts.0
        ∙ ap (λ b. b || is_held_but table but l.0 ms) (and-true (m.0.table.0 == table.0) (not (is_of but m))) ∙ ap (λ b. (m.0.table.0 == table.0 && not (is_of but m)) || b) (others ms parts.1)
