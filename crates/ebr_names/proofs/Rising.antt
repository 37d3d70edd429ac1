-- A walk through objects tells whether they stand in the order of their keys.
use Rattle.std.proofs.Common.{◌≡◌, ℕ, zero, suc, ◌+◌, ◌<◌, Bool, ◌&&◌, true, List, [], ◌∷◌, map, length, drop, Option, slice_get, refl, sym, ap, ◌∙◌, arith}
use Rattle.std.specs.List.{AllByRecursion}
use Rattle.std.specs.List.Sorted.{IsStrictlySortedBy}
use Rattle.std.specs.Ordering.{is_lt}
use Rattle.std.specs.declared.cmp.Ordering.{Ordering}
use Rattle.std.specs.declared.cmp.Ordering.TheVariants.{Less, Equal, Greater}
use Rattle.std.proofs.lemmas.Bool.{and_parts, and_from}
use Rattle.ebr_base.specs.declared.object.ObjectKey.{ObjectKey}
use Rattle.ebr_base.specs.Keys.{key_order}
use Rattle.ebr_ast.specs.declared.view.Object.{Object}
use Rattle.ebr_ast.specs.Views.{key_of}
use Rattle.ebr_names.specs.inside.Rising.{rising, follows, is_before}
use Rattle.ebr_names.proofs.Halving.{key_total}

less-from : (o : Ordering) → is_lt o ≡ true → o ≡ Less
less-from Less e = refl
less-from Equal e = absurd cc
less-from Greater e = absurd cc

below : (k m : ObjectKey) (ks : List ObjectKey) → key_order k m ≡ Less → AllByRecursion (λ n. key_order m n ≡ Less) ks → AllByRecursion (λ n. key_order k n ≡ Less) ks
below k m [] less all = tt
below k m (n ∷ ks) less all = (key_total.trans k m n less all.0, below k m ks less all.1)

all-from : (x : Object) (xs : List Object) → follows x xs ≡ true → IsStrictlySortedBy key_order (map key_of xs) → AllByRecursion (λ n. key_order x.key n ≡ Less) (map key_of xs)
unfolding IsStrictlySortedBy
all-from x [] first up = tt
all-from x (y ∷ ys) first up = let less = less-from _ first in (less, below x.key y.key (map key_of ys) less up.0)

pub sorted-from_rising : (xs : List Object) → rising xs ≡ true → IsStrictlySortedBy key_order (map key_of xs)
unfolding IsStrictlySortedBy
sorted-from_rising [] e = tt
sorted-from_rising (x ∷ xs) e =
    let parts = and_parts (follows x xs) (rising xs) e in
    let up = sorted-from_rising xs parts.1 in
    (all-from x xs parts.0 up, up)

follows-from : (x : Object) (xs : List Object) → AllByRecursion (λ n. key_order x.key n ≡ Less) (map key_of xs) → follows x xs ≡ true
follows-from x [] all = refl
follows-from x (y ∷ ys) all = ap is_lt all.0

pub rising-from_sorted : (xs : List Object) → IsStrictlySortedBy key_order (map key_of xs) → rising xs ≡ true
unfolding IsStrictlySortedBy
rising-from_sorted [] up = refl
rising-from_sorted (x ∷ xs) up = and_from (follows x xs) (rising xs) (follows-from x xs up.0) (rising-from_sorted xs up.1)

dropped : (xs : List Object) (at : ℕ) → at < length xs → rising (drop at xs) ≡ (is_before (slice_get xs at) (slice_get xs (at + 1)) && rising (drop (at + 1) xs))
dropped [] at bad = absurd (omega (arith, bad))
dropped (x ∷ []) zero lt = refl
dropped (x ∷ (y ∷ ys)) zero lt = refl
dropped (x ∷ xs) (suc at) lt = let e : suc at + 1 ≡ suc (at + 1) = omega arith in rw e (dropped xs at (omega (arith, lt)))

-- A walk goes on where an object is before the next one, and ends where it isn't.
pub walked : (xs : List Object) (at : ℕ) (x y : Option Object) (b : Bool) → at < length xs → x ≡ slice_get xs at → y ≡ slice_get xs (at + 1) → b ≡ is_before x y → rising (drop at xs) ≡ rising xs → (b && rising (drop (at + 1) xs)) ≡ rising xs
walked xs at x y b lt first second is so_far =
    ap (λ c. c && rising (drop (at + 1) xs)) (is ∙ (ap (λ o. is_before o y) first ∙ ap (is_before (slice_get xs at)) second)) ∙ (sym (dropped xs at lt) ∙ so_far)
