-- The order of values and of keys is an order.
use Rattle.std.proofs.Common.{◌≡◌, ℕ, ℤ, pos, Bool, true, false, List, [], ◌∷◌, refl, sym, subst}
use Rattle.std.specs.Ordering.{nat_cmp, int_cmp, bool_cmp, ordering_then, on, then_cmp}
use Rattle.std.specs.declared.cmp.Ordering.{Ordering}
use Rattle.std.specs.declared.cmp.Ordering.TheVariants.{Less, Equal, Greater}
use Rattle.std.specs.Cmp.{IsTotalOrder, IsStrictWeakOrder}
use Rattle.std.specs.Cmp.Lexicographic.{slice_cmp}
use Rattle.std.proofs.lemmas.Cmp.{then_total, on_total, back_total, nat_cmp_total, int_cmp_total, lists_total}
use Rattle.std.specs.Cmp.{bool_cmp_total}
use Rattle.std.proofs.lemmas.List.Sorted.{ranks_by}
use Rattle.ebr_base.specs.declared.value.Value.{Value}
use Rattle.ebr_base.specs.declared.value.Value.TheVariants as value
use Rattle.ebr_query.specs.Order.{type_place, value_order, key_order, first_key, other_keys, keys_order, Keyed, is_before}

-- what a value has of each type
abbrev number : Value → ℤ
number (value.Num n) = n
number v = pos 0

abbrev bytes : Value → List ℕ
bytes (value.Text t) = t
bytes v = []

abbrev truth : Value → Bool
truth (value.Bool b) = b
truth v = false

abbrev by_parts : Value → Value → Ordering
by_parts = then_cmp (on type_place nat_cmp) (then_cmp (on number int_cmp) (then_cmp (on bytes (slice_cmp nat_cmp)) (on truth bool_cmp)))

parts_total : IsTotalOrder by_parts
parts_total =
    then_total (on_total type_place nat_cmp_total) (then_total (on_total number int_cmp_total) (then_total (on_total bytes (lists_total nat_cmp_total)) (on_total truth bool_cmp_total)))

then-equal : (o : Ordering) → o ≡ ordering_then o Equal
then-equal Less = refl
then-equal Equal = refl
then-equal Greater = refl

as-parts : (a b : Value) → value_order a b ≡ by_parts a b
as-parts (value.Num m) (value.Num n) = then-equal (int_cmp m n)
as-parts (value.Text s) (value.Text t) = then-equal (slice_cmp nat_cmp s t)
as-parts (value.Bool b) (value.Bool c) = refl
as-parts value.Null value.Null = refl
as-parts (value.Num m) (value.Text t) = refl
as-parts (value.Num m) (value.Bool c) = refl
as-parts (value.Num m) value.Null = refl
as-parts (value.Text s) (value.Num n) = refl
as-parts (value.Text s) (value.Bool c) = refl
as-parts (value.Text s) value.Null = refl
as-parts (value.Bool b) (value.Num n) = refl
as-parts (value.Bool b) (value.Text t) = refl
as-parts (value.Bool b) value.Null = refl
as-parts value.Null (value.Num n) = refl
as-parts value.Null (value.Text t) = refl
as-parts value.Null (value.Bool c) = refl

pub value_total : IsTotalOrder value_order
value_total = subst IsTotalOrder (λ i a b. sym (as-parts a b) i) parts_total

pub key_total : (descending : Bool) → IsTotalOrder (key_order descending)
key_total false = value_total
key_total true = back_total value_total

equal_total : IsTotalOrder (λ (x y : List Value). Equal)
equal_total = record { antisymm = λ x y. refl; trans = λ x y z h k. h; congr = λ x y z h. refl }

pub keys_total : (descending : List Bool) → IsTotalOrder (keys_order descending)
keys_total [] = equal_total
keys_total (d ∷ ds) = then_total (on_total first_key (key_total d)) (on_total other_keys (keys_total ds))

-- what a sort asks for
pub ranked : (descending : List Bool) → IsStrictWeakOrder (is_before descending)
ranked descending = ranks_by (keys_total descending) (λ (k : Keyed). k.keys)
