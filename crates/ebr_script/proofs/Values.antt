-- What is found exactly where a relation holds is what a function gives that is so, too.
use Rattle.std.proofs.Common.{◌≡◌, Option, Some, None, Result, Ok, Err, refl, sym, ◌∙◌}
use Rattle.std.specs.Prelude.{IfOk, IfSome}

none_is : {A : Type 0} (v : Option A) → ((a : A) → v ≡ Some a → ◌≡◌ {A = Option A} None (Some a)) → ◌≡◌ {A = Option A} None v
none_is None h = refl
none_is (Some a) h = h a refl

module _ {A : Type 0} (F : A → Type 0) (value : Option A) (sound : (a : A) → value ≡ Some a → F a) (complete : (a : A) → F a → value ≡ Some a) where
  pub option_valued : (o : Option A) → IfSome o F → ((a : A) → F a → o ≡ Some a) → o ≡ value
  option_valued (Some a) found only = sym (complete a found)
  option_valued None found only = none_is value (λ a e. only a (sound a e))

module _ {A E : Type 0} (F : A → Type 0) (value : Option A) (sound : (a : A) → value ≡ Some a → F a) (complete : (a : A) → F a → value ≡ Some a) where
  pub valued : (r : Result (Option A) E) → IfOk r (λ o. IfSome o F) → ((a : A) → F a → IfOk r (λ o. o ≡ Some a)) → IfOk r (λ o. o ≡ value)
  valued (Err e) found only = tt
  valued (Ok (Some a)) found only = sym (complete a found)
  valued (Ok None) found only = none_is value (λ a e. only a (sound a e))

  pub found_by : (r : Result (Option A) E) → IfOk r (λ o. o ≡ value) → IfOk r (λ o. IfSome o F)
  found_by (Err e) h = tt
  found_by (Ok None) h = tt
  found_by (Ok (Some a)) h = sound a (sym h)

  pub only_by : (r : Result (Option A) E) → IfOk r (λ o. o ≡ value) → (a : A) → F a → IfOk r (λ o. o ≡ Some a)
  only_by (Err e) h a s = tt
  only_by (Ok o) h a s = h ∙ complete a s

pub another_value : {A E : Type 0} (r : Result A E) (v w : A) → v ≡ w → IfOk r (λ o. o ≡ v) → IfOk r (λ o. o ≡ w)
another_value (Err e) v w is h = tt
another_value (Ok o) v w is h = h ∙ is
