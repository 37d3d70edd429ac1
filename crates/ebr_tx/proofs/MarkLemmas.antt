-- Savepoints under their names.
use Rattle.std.proofs.Common.{◌≡◌, ℕ, zero, suc, ◌+◌, ◌<◌, ◌≤◌, min, Bool, true, false, not, cond, List, [], ◌∷◌, ◌++◌, Some, None, length, take, refl, sym, ap, ◌∙◌, arith}
use Rattle.std.specs.Prelude.{filter, find, nat_lt, position, slice_get}
use Rattle.std.specs.List.{AllByRecursion, IsDistinct}
use Rattle.std.proofs.lemmas.Bool.{ltb-false}
use Rattle.std.proofs.lemmas.Option.{same_Some}
use Rattle.std.specs.List.{position_or_len}
use Rattle.std.specs.Str.{bytes_eq}
use Rattle.std.specs.Map.{keys_of, lookup, remove_entry}
use Rattle.std.proofs.lemmas.Slice.Eq.{bytes_eq-Decides}
use Rattle.std.proofs.lemmas.Bool.Decides.{same_from_decides}
use Rattle.std.proofs.lemmas.List.{take_all, take-take, length-map, length-take}
use Rattle.std.proofs.lemmas.List.Sums.{prefix_len-le-length}
use Rattle.ebr_tx.specs.declared.savepoints.Savepoint.{Savepoint}
use Rattle.ebr_tx.specs.Savepoints.{is_savepoint, lengths_of, savepoints_to}
use Rattle.ebr_tx.specs.inside.Marked.{Marked, savepoint_of, savepoints_of}

-- the test of names goes both ways
pub either : (a b : List ℕ) → bytes_eq a b ≡ bytes_eq b a
either a b = same_from_decides (bytes_eq a b) (bytes_eq b a) ((λ e. sym ((bytes_eq-Decides a b).0 e)), (λ e. (bytes_eq-Decides a b).1 (sym e))) (bytes_eq-Decides b a)

pub found : (name : List ℕ) (es : List Marked) → lookup (bytes_eq name) es ≡ lengths_of (find (is_savepoint name) (savepoints_of es))
found name [] = refl
found name (e ∷ es) = rw (either name e.0) (by (bytes_eq e.0 name) (found name es))
  where
    by : (b : Bool) → lookup (bytes_eq name) es ≡ lengths_of (find (is_savepoint name) (savepoints_of es))
        → cond b (Some e.1) (lookup (bytes_eq name) es) ≡ lengths_of (cond b (Some (savepoint_of e)) (find (is_savepoint name) (savepoints_of es)))
    by true rest = refl
    by false rest = rest

-- the first one that passes, among the first n
place_within : {X : Type 0} (p : X → Bool) (n : ℕ) (xs : List X) → position_or_len p (take n xs) ≡ min (position_or_len p xs) (length (take n xs))
place_within p zero xs = omega arith
place_within p (suc n) [] = omega arith
place_within p (suc n) (x ∷ xs) = by (p x) (place_within p n xs)
  where
    by : (b : Bool) → position_or_len p (take n xs) ≡ min (position_or_len p xs) (length (take n xs))
        → cond (not b) (1 + position_or_len p (take n xs)) 0 ≡ min (cond (not b) (1 + position_or_len p xs) 0) (suc (length (take n xs)))
    by true rest = omega arith
    by false rest = omega (arith, rest)

pub find_within : {X : Type 0} (p : X → Bool) (n : ℕ) (xs : List X) → position_or_len p xs < n → find p (take n xs) ≡ find p xs
find_within p zero xs l = absurd (omega (arith, l))
find_within p (suc n) [] l = refl
find_within p (suc n) (x ∷ xs) l = by (p x) (find_within p n xs) l
  where
    by : (b : Bool) → (position_or_len p xs < n → find p (take n xs) ≡ find p xs) → cond (not b) (1 + position_or_len p xs) 0 < suc n → cond b (Some x) (find p (take n xs)) ≡ cond b (Some x) (find p xs)
    by true rest l = refl
    by false rest l = rest (omega (arith, l))

pub find_past : {X : Type 0} (p : X → Bool) (n : ℕ) (xs : List X) → n ≤ position_or_len p xs → find p (take n xs) ≡ None
find_past p zero xs l = refl
find_past p (suc n) [] l = refl
find_past p (suc n) (x ∷ xs) l = by (p x) (find_past p n xs) l
  where
    by : (b : Bool) → (n ≤ position_or_len p xs → find p (take n xs) ≡ None) → suc n ≤ cond (not b) (1 + position_or_len p xs) 0 → cond b (Some x) (find p (take n xs)) ≡ None
    by true rest l = absurd (omega (arith, l))
    by false rest l = rest (omega (arith, l))

-- those up to the one of a name, among the first n
pub kept_first : (name : List ℕ) (ss : List Savepoint) (n at : ℕ) → at ≡ position_or_len (is_savepoint name) ss → at < n → take (at + 1) ss ≡ savepoints_to name (take n ss)
kept_first name ss n at e l =
    let most : position_or_len (is_savepoint name) ss ≤ length ss = prefix_len-le-length (λ s. not (is_savepoint name s)) ss in
    let q : position_or_len (is_savepoint name) (take n ss) ≡ at = omega (arith, e, l, most, place_within (is_savepoint name) n ss, length-take n ss) in
    sym (ap (λ k. take (k + 1) (take n ss)) q ∙ take-take (at + 1) n ss (omega (arith, l)))

pub kept_all_of : (name : List ℕ) (ss : List Savepoint) (n at : ℕ) → at ≡ position_or_len (is_savepoint name) ss → n ≤ at → take n ss ≡ savepoints_to name (take n ss)
kept_all_of name ss n at e l =
    let all : length (take n ss) ≤ position_or_len (is_savepoint name) (take n ss) + 1 = omega (arith, e, l, place_within (is_savepoint name) n ss, length-take n ss) in
    sym (take_all (position_or_len (is_savepoint name) (take n ss) + 1) (take n ss) all)

-- of none there are none
none_of : (n : ℕ) (ss : List Savepoint) → ss ≡ [] → take n ss ≡ []
none_of zero ss e = refl
none_of (suc n) ss e = ap (take (suc n)) e

pub none_kept : (name : List ℕ) (n : ℕ) (ss : List Savepoint) → ss ≡ [] → [] ≡ savepoints_to name (take n ss)
none_kept name n ss e = sym (none_of (position_or_len (is_savepoint name) (take n ss) + 1) (take n ss) (none_of n ss e))

module _ (name : List ℕ) where
  -- the place of a name
  places : (es : List Marked) → position_or_len (bytes_eq name) (keys_of es) ≡ position_or_len (is_savepoint name) (savepoints_of es)
  places [] = refl
  places (e ∷ es) = λ i. cond (not (either name e.0 i)) (1 + places es i) 0

  at_is : (p n at : ℕ) → Some at ≡ cond (nat_lt p n) (Some p) None → at ≡ p
  at_is p n at e = by (nat_lt p n) e
    where
      by : (b : Bool) → Some at ≡ cond b (Some p) None → at ≡ p
      by true h = same_Some at p h
      by false h = cc

  past_is : (p n : ℕ) → None ≡ cond (nat_lt p n) (Some p) None → n ≤ p
  past_is p n e = by (nat_lt p n) refl e
    where
      by : (b : Bool) → nat_lt p n ≡ b → None ≡ cond b (Some p) None → n ≤ p
      by true is h = cc
      by false is h = ltb-false p n is

  -- the place that the map tells, or their number where it tells none
  pub place_some : (es : List Marked) (at : ℕ) → Some at ≡ position (bytes_eq name) (keys_of es) → at ≡ position_or_len (is_savepoint name) (savepoints_of es)
  place_some es at e = at_is (position_or_len (bytes_eq name) (keys_of es)) (length (keys_of es)) at e ∙ places es

  pub place_none : (es : List Marked) (n : ℕ) → n ≡ length (savepoints_of es) → None ≡ position (bytes_eq name) (keys_of es) → n ≡ position_or_len (is_savepoint name) (savepoints_of es)
  place_none es n l e =
      let past : length (keys_of es) ≤ position_or_len (bytes_eq name) (keys_of es) = past_is (position_or_len (bytes_eq name) (keys_of es)) (length (keys_of es)) e in
      let most : position_or_len (is_savepoint name) (savepoints_of es) ≤ length (savepoints_of es) = prefix_len-le-length (λ s. not (is_savepoint name s)) (savepoints_of es) in
      omega (arith, l, past, most, places es, length-map es (λ (x : Marked). x.0), length-map es savepoint_of)

  -- others don't have the name
  kept_all : (k : List ℕ) (es : List Marked) → bytes_eq name k ≡ true → AllByRecursion (λ y. bytes_eq k y ≡ false) (keys_of es) → filter (λ s. not (is_savepoint name s)) (savepoints_of es) ≡ savepoints_of es
  kept_all k [] e all = refl
  kept_all k (x ∷ xs) e all =
      let same : name ≡ k = (bytes_eq-Decides name k).0 e in
      let other : bytes_eq x.0 name ≡ false = either x.0 name ∙ ap (λ n. bytes_eq n x.0) same ∙ all.0 in
      rw other (ap (λ ss. savepoint_of x ∷ ss) (kept_all k xs e all.1))

  none_found : (k : List ℕ) (es : List Marked) → bytes_eq name k ≡ true → AllByRecursion (λ y. bytes_eq k y ≡ false) (keys_of es) → lookup (bytes_eq name) es ≡ None
  none_found k [] e all = refl
  none_found k (x ∷ xs) e all =
      let same : name ≡ k = (bytes_eq-Decides name k).0 e in
      let other : bytes_eq name x.0 ≡ false = ap (λ n. bytes_eq n x.0) same ∙ all.0 in
      rw other (none_found k xs e all.1)

  pub removed : (es : List Marked) → IsDistinct bytes_eq (keys_of es) → savepoints_of (remove_entry (bytes_eq name) es) ≡ filter (λ s. not (is_savepoint name s)) (savepoints_of es)
  unfolding IsDistinct
  removed [] d = refl
  removed (e ∷ es) d = rw (either e.0 name) (by (bytes_eq name e.0) refl (removed es d.1))
    where
      by : (b : Bool) → bytes_eq name e.0 ≡ b → savepoints_of (remove_entry (bytes_eq name) es) ≡ filter (λ s. not (is_savepoint name s)) (savepoints_of es)
          → savepoints_of (cond b es (e ∷ remove_entry (bytes_eq name) es)) ≡ cond (not b) (savepoint_of e ∷ filter (λ s. not (is_savepoint name s)) (savepoints_of es)) (filter (λ s. not (is_savepoint name s)) (savepoints_of es))
      by true is rest = sym (kept_all e.0 es is d.0)
      by false is rest = ap (λ ss. savepoint_of e ∷ ss) rest

  pub gone : (es : List Marked) → IsDistinct bytes_eq (keys_of es) → lookup (bytes_eq name) (remove_entry (bytes_eq name) es) ≡ None
  unfolding IsDistinct
  gone [] d = refl
  gone (e ∷ es) d = by (bytes_eq name e.0) refl (gone es d.1)
    where
      by : (b : Bool) → bytes_eq name e.0 ≡ b → lookup (bytes_eq name) (remove_entry (bytes_eq name) es) ≡ None → lookup (bytes_eq name) (cond b es (e ∷ remove_entry (bytes_eq name) es)) ≡ None
      by true is rest = none_found e.0 es is d.0
      by false is rest = rw is rest

-- a name of those behind a place isn't among those before it
pub new_name : (es : List Marked) (at : ℕ) (e : Marked) → IsDistinct bytes_eq (keys_of es) → slice_get es at ≡ Some e → lookup (bytes_eq e.0) (take at es) ≡ None
unfolding IsDistinct
new_name es zero e d h = refl
new_name [] (suc at) e d h = cc
new_name (x ∷ xs) (suc at) e d h =
    let other : bytes_eq e.0 x.0 ≡ false = either e.0 x.0 ∙ each x.0 xs at d.0 h in
    rw other (new_name xs at e d.1 h)
  where
    each : (k : List ℕ) (ys : List Marked) (n : ℕ) → AllByRecursion (λ y. bytes_eq k y ≡ false) (keys_of ys) → slice_get ys n ≡ Some e → bytes_eq k e.0 ≡ false
    each k [] n all f = cc
    each k (y ∷ ys) zero all f = ap (λ (z : Marked). bytes_eq k z.0) (sym (same_Some y e f)) ∙ all.0
    each k (y ∷ ys) (suc n) all f = each k ys n all.1 f

pub one_more : (es : List Marked) (at : ℕ) (e : Marked) → slice_get es at ≡ Some e → take at es ++ e ∷ [] ≡ take (suc at) es
one_more [] at e h = cc
one_more (x ∷ xs) zero e h = ap (λ y. y ∷ []) (sym (same_Some x e h))
one_more (x ∷ xs) (suc at) e h = ap (λ ys. x ∷ ys) (one_more xs at e h)
