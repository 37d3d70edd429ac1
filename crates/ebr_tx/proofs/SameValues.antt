-- The test of values tells whether they are equal.
use Rattle.std.proofs.Common.{◌≡◌, ℕ, Bool, true, false, not, cond, List, refl, ap}
use Rattle.std.specs.Prelude.{Option, Some, None, option_map, ◌↔◌, IsTrue}
use Rattle.std.specs.Bool.{Decides}
use Rattle.std.specs.Str.{bytes_eq}
use Rattle.std.specs.Ordering.{int_eq}
use Rattle.std.proofs.lemmas.Bool.Decides.{Decides-int_eq, Decides-like, same_from_decides}
use Rattle.std.proofs.lemmas.Slice.Eq.{bytes_eq-Decides, slice_eq-Decides}
use Rattle.std.proofs.lemmas.Option.{same_Some}
use Rattle.ebr_base.specs.declared.value.Value.{Value}
use Rattle.ebr_base.specs.declared.value.Value.TheVariants.{Null, Num, Text, Bool as Boolean}
use Rattle.ebr_versions.specs.Keys.{key_of}
use Rattle.ebr_tx.specs.Conflicts.{same_value, same_values, has_key}

Decides-boolean : (a b : Bool) → Decides (cond a b (not b)) (Boolean a ≡ Boolean b)
Decides-boolean true true = (λ e. refl, λ e. refl)
Decides-boolean true false = (λ e. cc, λ e. cc)
Decides-boolean false true = (λ e. cc, λ e. cc)
Decides-boolean false false = (λ e. refl, λ e. refl)

pub Decides-same_value : (a b : Value) → Decides (same_value a b) (a ≡ b)
Decides-same_value Null Null = (λ e. refl, λ e. refl)
Decides-same_value Null (Num n) = (λ e. cc, λ e. cc)
Decides-same_value Null (Text b) = (λ e. cc, λ e. cc)
Decides-same_value Null (Boolean b) = (λ e. cc, λ e. cc)
Decides-same_value (Num m) Null = (λ e. cc, λ e. cc)
Decides-same_value (Num m) (Num n) = Decides-like (int_eq m n) (λ e. ap Num e) (λ e. cc) (Decides-int_eq m n)
Decides-same_value (Num m) (Text b) = (λ e. cc, λ e. cc)
Decides-same_value (Num m) (Boolean b) = (λ e. cc, λ e. cc)
Decides-same_value (Text a) Null = (λ e. cc, λ e. cc)
Decides-same_value (Text a) (Num n) = (λ e. cc, λ e. cc)
Decides-same_value (Text a) (Text b) = Decides-like (bytes_eq a b) (λ e. ap Text e) (λ e. cc) (bytes_eq-Decides a b)
Decides-same_value (Text a) (Boolean b) = (λ e. cc, λ e. cc)
Decides-same_value (Boolean a) Null = (λ e. cc, λ e. cc)
Decides-same_value (Boolean a) (Num n) = (λ e. cc, λ e. cc)
Decides-same_value (Boolean a) (Text b) = (λ e. cc, λ e. cc)
Decides-same_value (Boolean a) (Boolean b) = Decides-boolean a b

pub Decides-same_values : (a b : List Value) → Decides (same_values a b) (a ≡ b)
Decides-same_values a b = slice_eq-Decides Decides-same_value a b (same_values a b) refl

-- a test that tells whether values have a key is this one
pub same_test : (r : Bool) (a b : List Value) → (IsTrue r ↔ (a ≡ b)) → r ≡ same_values a b
same_test r a b tells = same_from_decides r (same_values a b) (tells.0, tells.1) (Decides-same_values a b)

-- a row that has a key
pub has_key-true : (places : List ℕ) (key : List Value) (o : Option (List Value)) → has_key places key o ≡ true → option_map (key_of places) o ≡ Some key
has_key-true places key None e = cc
has_key-true places key (Some values) e = ap Some ((Decides-same_values (key_of places values) key).0 e)

pub true-has_key : (places : List ℕ) (key : List Value) (o : Option (List Value)) → option_map (key_of places) o ≡ Some key → has_key places key o ≡ true
true-has_key places key None e = cc
true-has_key places key (Some values) e = (Decides-same_values (key_of places values) key).1 (same_Some (key_of places values) key e)
