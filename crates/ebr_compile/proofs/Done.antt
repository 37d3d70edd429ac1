-- A value that is kept where what was done with it was done.
use Rattle.std.proofs.Common.{◌≡◌, true, Result, Ok, Err, IfOk, OnOk, rules, ◌∙◌}
use Rattle.std.proofs.lemmas.Result.{on_ok_weaker}
use Rattle.std.specs.Result.{is_ok}

is_done : {T E Q : Type 0} (r : Result T E) → is_ok r ≡ true → OnOk r Q → Q
is_done (Ok x) e q = q
is_done (Err x) e q = search (rules, e)

pub also : {T D E : Type 0} (Q : Type 0) (r : Result T E) (done : Result D E) → OnOk r (is_ok done ≡ true) → OnOk done Q → OnOk r Q
also Q r done d q = on_ok_weaker r (λ e. is_done done e q) d

pub kept_is : {T D E : Type 0} (r : Result T E) (done : Result D E) (held x : T) → IfOk r (λ it. it ≡ held) → OnOk r (is_ok done ≡ true) → OnOk done (held ≡ x) → IfOk r (λ it. it ≡ x)
kept_is (Ok it) done held x v d q = v ∙ is_done done d q
kept_is (Err e) done held x v d q = tt
