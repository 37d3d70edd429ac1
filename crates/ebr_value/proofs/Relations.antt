-- What LIKE, TO_NUMBER and INSTR answer is what their relations say.
use Rattle.std.proofs.Common.{ℕ, ℤ, ◌≡◌, Bool, true, false, List, refl, sym, ap, subst, ◌∙◌, Option, Some, None, Result, Ok, Err, IfOk, OnErr}
use Rattle.std.proofs.Common.{◌<◌, ◌≤◌, pos, length, arith}
use Rattle.std.proofs.lemmas.Bool.{false≢true, cond-true, le-leb}
use Rattle.ebr_value.specs.Places.{place_of, IsFirstPlace}
use Rattle.ebr_value.proofs.FirstPlace.{place_is_first, place-within}
use Rattle.ebr_base.specs.declared.clone_in.NoMemory as base
use Rattle.ebr_base.specs.declared.code.Stop.{Stop}
use Rattle.ebr_base.specs.declared.code.Stop.TheVariants.{Raised, NoMemory}
use Rattle.ebr_base.specs.declared.value.Value.{Value}
use Rattle.ebr_base.specs.declared.value.Value.TheVariants as value
use Rattle.ebr_value.specs.declared.form.BinOp.{BinOp}
use Rattle.ebr_value.specs.declared.form.BinOp.TheVariants as op
use Rattle.ebr_value.specs.declared.form.Builtin.{Builtin}
use Rattle.ebr_value.specs.declared.form.Builtin.TheVariants as builtin
use Rattle.ebr_value.specs.declared.form.Place.{Place}
use Rattle.ebr_base.specs.Answers.{Answers}
use Rattle.ebr_value.specs.Outcomes.{Outcome, whole}
use Rattle.ebr_value.specs.inside.Answers.{answer, answer_of}
use Rattle.ebr_value.specs.Patterns.{like}
use Rattle.ebr_value.specs.Numerals.{read_number, number_or_fault}
use Rattle.ebr_value.specs.Forms.{binary, of_one, of_two, TellsPlace, OnWant, joins, makes_text, TellsLike, TellsNumber}
use Rattle.ebr_value.proofs.Likeness.{like_is, is_like}
use Rattle.ebr_value.proofs.Numerals.{number_is, is_number, none≢some}

value_by : (b : Bool) (r : Result Value Stop) (text pattern : List ℕ) → like pattern text ≡ b → r ≡ Ok (value.Bool b) → TellsLike r text pattern
value_by true r text pattern e h = subst (λ x. TellsLike x text pattern) (sym h) (like_is pattern text e)
value_by false r text pattern e h = subst (λ x. TellsLike x text pattern) (sym h) (λ i. false≢true (sym e ∙ is_like pattern text i))

ok_by : (r : Result Value Stop) (v : Value) (P : Type 0) → (P → ⊥) → Answers r (Ok v) → OnWant r P → r ≡ Ok v
ok_by (Ok w) v P n g m = cc
ok_by (Err (Raised code)) v P n g m = cc
ok_by (Err NoMemory) v P n g m = absurd (n m)

pub like_tells : (r : Result Value Stop) (o : BinOp) (a b : Value) (at : Place) (text pattern : List ℕ) → Answers r (binary o a b at) → OnWant r (joins o ≡ true) → o ≡ op.Like → a ≡ value.Text text → b ≡ value.Text pattern → TellsLike r text pattern
like_tells r o a b at text pattern g m eo ea eb =
    let same : binary o a b at ≡ Ok (value.Bool (like pattern text)) = ap (λ x. binary x a b at) eo ∙ ap (λ x. binary op.Like x b at) ea ∙ ap (λ x. binary op.Like (value.Text text) x at) eb in
    let e : r ≡ Ok (value.Bool (like pattern text)) = ok_by r (value.Bool (like pattern text)) (joins o ≡ true) (λ j. false≢true (sym (ap joins eo) ∙ j)) (subst (Answers r) same g) m in
    value_by (like pattern text) r text pattern refl e

number_by : (o : Option ℤ) (r : Result Value Stop) (text : List ℕ) (at : Place) → read_number text ≡ o → r ≡ answer (number_or_fault at o) → TellsNumber r text at
number_by (Some n) r text at e h = subst (λ x. TellsNumber x text at) (sym h) (number_is text n e)
number_by None r text at e h = subst (λ x. TellsNumber x text at) (sym h) (refl, λ n i. none≢some n (sym e ∙ is_number text n i))

pub number_tells : (k : Result Outcome base.NoMemory) (r : Result Value Stop) (f : Builtin) (a : Value) (at : Place) (text : List ℕ) → IfOk k (λ outcome. outcome ≡ of_one f a at) → OnErr k (makes_text f ≡ true) → r ≡ answer_of k → f ≡ builtin.ToNumber → a ≡ value.Text text → TellsNumber r text at
number_tells (Ok outcome) r f a at text v m e ef ea =
    number_by (read_number text) r text at refl (e ∙ ap answer (v ∙ ap (λ x. of_one x a at) ef ∙ ap (λ x. of_one builtin.ToNumber x at) ea))
number_tells (Err none) r f a at text v m e ef ea = absurd (false≢true (sym (ap makes_text ef) ∙ m))

place_by : (n : ℕ) (r : Result Value Stop) (text y : List ℕ) → n ≤ 999999999999999999 → IsFirstPlace text y n → r ≡ answer (whole (pos n)) → TellsPlace r text y
place_by n r text y l i e = subst (λ x. TellsPlace x text y) (sym (e ∙ ap answer (cond-true _ _ _ (le-leb n 999999999999999999 l)))) i

pub place_tells : (k : Result Outcome base.NoMemory) (r : Result Value Stop) (f : Builtin) (a b : Value) (text y : List ℕ) → IfOk k (λ outcome. outcome ≡ of_two f a b) → OnErr k (makes_text f ≡ true) → r ≡ answer_of k → f ≡ builtin.Instr → a ≡ value.Text text → b ≡ value.Text y → length text < 999999999999999999 → TellsPlace r text y
place_tells (Ok outcome) r f a b text y v m e ef ea eb l =
    place_by (place_of text y) r text y (omega (arith, place-within text y, l)) (place_is_first text y)
    (e ∙ ap answer (v ∙ ap (λ x. of_two x a b) ef ∙ ap (λ x. of_two builtin.Instr x b) ea ∙ ap (of_two builtin.Instr (value.Text text)) eb))
place_tells (Err none) r f a b text y v m e ef ea eb l = absurd (false≢true (sym (ap makes_text ef) ∙ m))
