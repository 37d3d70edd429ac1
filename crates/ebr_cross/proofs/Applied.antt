-- Answers of definitions, by what their steps answer.
use Rattle.std.proofs.Common.{◌≡◌, Bool, true, false, cond, List, [], ◌∷◌, ◌++◌, Some, None, Result, Ok, Err, IfOk, OnOk, OnErr, refl, sym, ap, subst, ◌∙◌}
use Rattle.ebr_base.specs.declared.code.Code.{Code}
use Rattle.ebr_tables.specs.Tables.{first_refusal}
use Rattle.ebr_cross.specs.declared.record.CatalogueRecord.{CatalogueRecord}
use Rattle.ebr_cross.specs.Definitions.{recording}

pub recording-err : {T : Type 0} (record_of : T → CatalogueRecord) (answer : Result T Code) (code : Code) → answer ≡ Err code → recording record_of answer ≡ Err code
recording-err record_of answer code h = ap (recording record_of) h

-- lists of refusals one after the other
pub first-of-two : (xs ys : List (Bool × Code)) (code : Code) → first_refusal xs ≡ Some code → first_refusal (xs ++ ys) ≡ Some code
first-of-two [] ys code h = absurd cc
first-of-two (x ∷ xs) ys code h = by x.0 (first-of-two xs ys code) h
  where
    by : (b : Bool) → (first_refusal xs ≡ Some code → first_refusal (xs ++ ys) ≡ Some code) → cond b (Some x.1) (first_refusal xs) ≡ Some code → cond b (Some x.1) (first_refusal (xs ++ ys)) ≡ Some code
    by true f h = h
    by false f h = f h

pub none-of-first : (xs ys : List (Bool × Code)) → first_refusal xs ≡ None → first_refusal (xs ++ ys) ≡ first_refusal ys
none-of-first [] ys h = refl
none-of-first (x ∷ xs) ys h = by x.0 (none-of-first xs ys) h
  where
    by : (b : Bool) → (first_refusal xs ≡ None → first_refusal (xs ++ ys) ≡ first_refusal ys) → cond b (Some x.1) (first_refusal xs) ≡ None → cond b (Some x.1) (first_refusal (xs ++ ys)) ≡ first_refusal ys
    by true f h = absurd cc
    by false f h = f h

pub if_ok-map : {T E : Type 0} {P Q : T → Type 0} (r : Result T E) → ((x : T) → P x → Q x) → IfOk r P → IfOk r Q
if_ok-map (Ok x) f h = f x h
if_ok-map (Err e) f h = tt
