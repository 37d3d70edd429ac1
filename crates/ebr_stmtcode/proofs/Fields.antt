-- The fields of a loop's record, one after the other.
use Rattle.std.proofs.Common.{◌≡◌, ℕ, zero, suc, ◌+◌, ◌-◌, ◌<◌, List, [], ◌∷◌, ◌++◌, length, drop, None, refl, sym, ap, ◌∙◌, arith}
use Rattle.std.proofs.lemmas.List.{append_assoc, length-drop}
use Rattle.ebr_sqlcheck.specs.Types.{Known}
use Rattle.ebr_code.specs.declared.instruction.Instruction.{Instruction, Do}
use Rattle.ebr_code.specs.declared.instruction.Operation.TheVariants as does
use Rattle.ebr_run.specs.declared.place.Location.TheVariants.{Own}
use Rattle.ebr_code.specs.Codes.{fields_code}

fields_step : (k n : ℕ) (ts : List Known) → suc n ≡ length ts → fields_code k ts ≡ Do (does.Assign (Own k) None) ∷ fields_code (suc k) (drop 1 ts)
fields_step k n [] e = cc
fields_step k n (t ∷ ts) e = refl

further : (a b : ℕ) → suc (a + b) ≡ a + (b + 1)
further a b = omega arith

drop_suc : (i : ℕ) (ts : List Known) → drop (suc i) ts ≡ drop 1 (drop i ts)
drop_suc zero ts = refl
drop_suc (suc i) [] = refl
drop_suc (suc i) (t ∷ ts) = drop_suc i ts

drop_next : (i : ℕ) (ts : List Known) → drop (i + 1) ts ≡ drop 1 (drop i ts)
drop_next i ts = let e : i + 1 ≡ suc i = omega arith in ap (λ n. drop n ts) e ∙ drop_suc i ts

one_fewer : (i : ℕ) (ts : List Known) → i < length ts → suc (length (drop (i + 1) ts)) ≡ length (drop i ts)
one_fewer i ts l =
    let a : length (drop (i + 1) ts) ≡ length ts - (i + 1) = length-drop (i + 1) ts in
    let b : length (drop i ts) ≡ length ts - i = length-drop i ts in
    omega (arith, l, a, b)

pub fields_more : (first at v : ℕ) (ts : List Known) (out end whole : List Instruction)
    → at < length ts
    → out ++ fields_code (first + at) (drop at ts) ≡ whole
    → v ≡ first + at
    → end ≡ out ++ Do (does.Assign (Own v) None) ∷ []
    → end ++ fields_code (first + (at + 1)) (drop (at + 1) ts) ≡ whole
fields_more first at v ts out end whole l h k e =
    ap (λ o. o ++ fields_code (first + (at + 1)) (drop (at + 1) ts)) (e ∙ ap (λ (i : ℕ). out ++ Do (does.Assign (Own i) None) ∷ []) k)
    ∙ ap (λ (xs : List Known). (out ++ Do (does.Assign (Own (first + at)) None) ∷ []) ++ fields_code (first + (at + 1)) xs) (drop_next at ts)
    ∙ append_assoc out (Do (does.Assign (Own (first + at)) None) ∷ []) (fields_code (first + (at + 1)) (drop 1 (drop at ts)))
    ∙ ap (λ (i : ℕ). out ++ Do (does.Assign (Own (first + at)) None) ∷ fields_code i (drop 1 (drop at ts))) (sym (further first at))
    ∙ ap (λ o. out ++ o) (sym (fields_step (first + at) (length (drop (at + 1) ts)) (drop at ts) (one_fewer at ts l)))
    ∙ h
