-- The locks by their sequence numbers: a new one goes to the end, and one is taken out by its number.
use Rattle.std.proofs.Common.{◌≡◌, ℕ, ◌+◌, ◌<◌, ◌≤◌, true, false, cond, List, [], ◌∷◌, ◌++◌, Some, refl, sym, ap, ◌∙◌, arith}
use Rattle.std.specs.Prelude.{All}
use Rattle.std.specs.List.{AllByRecursion}
use Rattle.std.specs.List.Sorted.{IsStrictlySortedBy}
use Rattle.std.specs.declared.cmp.Ordering.{Ordering}
use Rattle.std.specs.declared.cmp.Ordering.TheVariants.{Less, Equal, Greater}
use Rattle.std.specs.Ordering.{nat_cmp, is_eq, is_lt, match_ordering}
use Rattle.std.specs.Map.{keys_of, values_of, lookup, remove_entry}
use Rattle.std.specs.BTreeMap.{insert_entry, is_at}
use Rattle.std.proofs.lemmas.Bool.{true≢false}
use Rattle.std.proofs.lemmas.Cmp.{ranked, tied_itself, nat_cmp_total}
use Rattle.std.proofs.lemmas.List.{map-append}
use Rattle.std.proofs.lemmas.List.Elements.{All-head, All-tail, All-weaker}
use Rattle.ebr_locks.specs.Locks.{Lock}
use Rattle.ebr_locks.specs.inside.Filed.{Entry}

greater : (t n : ℕ) → n < t → (r : Ordering) → r ≡ nat_cmp t n → r ≡ Greater
greater t n low Less e = let k : t < n = ranked t n Less e in absurd (omega (arith, k, low))
greater t n low Equal e = let k : t ≡ n = ranked t n Equal e in absurd (omega (arith, k, low))
greater t n low Greater e = refl

-- a number above all others goes to the end
pub entered : (t : ℕ) (l : Lock) (es : List Entry) → All (λ k. k < t) (keys_of es) → insert_entry nat_cmp es t l ≡ es ++ (t, l) ∷ []
entered t l [] above = refl
entered t l (e ∷ es) above =
    let here : nat_cmp t e.0 ≡ Greater = greater t e.0 (All-head (λ k. k < t) e.0 (keys_of es) above) (nat_cmp t e.0) refl in
    ap (λ o. match_ordering o ((t, l) ∷ e ∷ es) ((e.0, l) ∷ es) (e ∷ insert_entry nat_cmp es t l)) here
    ∙ ap (λ ls. e ∷ ls) (entered t l es (All-tail (λ k. k < t) e.0 (keys_of es) above))

less-other : (n t : ℕ) → nat_cmp n t ≡ Less → is_at (nat_cmp t) n ≡ false
less-other n t e = let low : n < t = ranked n t Less (sym e) in ap is_eq (greater t n low (nat_cmp t n) refl)

mid : (P : ℕ → Type 0) (front : List Entry) (t : ℕ) (l : Lock) (back : List Entry) → AllByRecursion P (keys_of (front ++ (t, l) ∷ back)) → P t
mid P [] t l back h = h.0
mid P (e ∷ front) t l back h = mid P front t l back h.1

same : (t : ℕ) → is_at (nat_cmp t) t ≡ true
same t = ap is_eq (tied_itself nat_cmp_total t)

-- the lock of a number is found, and taken out
pub found : (front : List Entry) (t : ℕ) (l : Lock) (back : List Entry) → IsStrictlySortedBy nat_cmp (keys_of (front ++ (t, l) ∷ back)) → lookup (is_at (nat_cmp t)) (front ++ (t, l) ∷ back) ≡ Some l
unfolding IsStrictlySortedBy
found [] t l back rising = rw (same t) refl
found (e ∷ front) t l back rising =
    let other : is_at (nat_cmp t) e.0 ≡ false = less-other e.0 t (mid (λ y. nat_cmp e.0 y ≡ Less) front t l back rising.0) in
    ap (λ b. cond b (Some e.1) (lookup (is_at (nat_cmp t)) (front ++ (t, l) ∷ back))) other ∙ found front t l back rising.1

pub removed : (front : List Entry) (t : ℕ) (l : Lock) (back : List Entry) → IsStrictlySortedBy nat_cmp (keys_of (front ++ (t, l) ∷ back)) → remove_entry (is_at (nat_cmp t)) (front ++ (t, l) ∷ back) ≡ front ++ back
unfolding IsStrictlySortedBy
removed [] t l back rising = rw (same t) refl
removed (e ∷ front) t l back rising =
    let other : is_at (nat_cmp t) e.0 ≡ false = less-other e.0 t (mid (λ y. nat_cmp e.0 y ≡ Less) front t l back rising.0) in
    ap (λ b. cond b (front ++ (t, l) ∷ back) (e ∷ remove_entry (is_at (nat_cmp t)) (front ++ (t, l) ∷ back))) other ∙ ap (λ es. e ∷ es) (removed front t l back rising.1)

pub values-split : (front : List Entry) (t : ℕ) (l : Lock) (back : List Entry) → values_of (front ++ (t, l) ∷ back) ≡ values_of front ++ l ∷ values_of back
values-split front t l back = map-append (λ (e : Entry). e.1) front ((t, l) ∷ back)

pub values-joined : (front back : List Entry) → values_of (front ++ back) ≡ values_of front ++ values_of back
values-joined front back = map-append (λ (e : Entry). e.1) front back

-- a number above the greatest one is above all
not-less : (last q : ℕ) → is_lt (nat_cmp last q) ≡ false → q ≤ last
not-less last q h = by (nat_cmp last q) refl h
  where
    by : (r : Ordering) → r ≡ nat_cmp last q → is_lt r ≡ false → q ≤ last
    by Less e h = absurd (true≢false h)
    by Equal e h = let k : last ≡ q = ranked last q Equal e in omega (arith, k)
    by Greater e h = let k : q < last = ranked last q Greater e in omega (arith, k)

pub above_last : (last : ℕ) (keys : List ℕ) → All (λ q. is_lt (nat_cmp last q) ≡ false) keys → All (λ k. k < last + 1) keys
above_last last keys h = All-weaker (λ q. is_lt (nat_cmp last q) ≡ false) (λ k. k < last + 1) (λ q e. let le : q ≤ last = not-less last q e in omega (arith, le)) keys h
