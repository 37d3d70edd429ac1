-- What is noted of names on the way through a list, and what it finds.
use Rattle.std.proofs.Common.{◌≡◌, ℕ, ◌+◌, Bool, true, false, cond, if◌then◌else◌, suc, ◌≤◌, arith, List, length, Option, Some, None, Result, Ok, Err, OnOk, refl, sym, ap, ◌∙◌, rules}
use Rattle.std.specs.Prelude.{find, slice_get, option_and_then, nat_lt}
use Rattle.std.specs.List.{position, position_from, position_or_len}
use Rattle.std.specs.Option.{option_or, unwrap_or}
use Rattle.std.specs.Result.{is_ok}
use Rattle.std.proofs.lemmas.Bool.{ltb-false}
use Rattle.std.proofs.lemmas.Iterator.Adapters.{position_from-zero}
use Rattle.std.proofs.lemmas.List.Folds.{find_at}
use Rattle.std.proofs.lemmas.Option.{slice_get_past}
use Rattle.ebr_ast.specs.declared.unit.PackageItem.{PackageItem}
use Rattle.ebr_ast.specs.Members.{variables_before, code_given}
use Rattle.ebr_ast.specs.inside.Notes.{Notes, note, where_so, weight}

-- the places noted so far, and those in the rest
abbrev pub Places : {X : Type 0} → (List ℕ → X → Bool) → Notes → ℕ → List X → List X → Type 0
Places p notes at rest all = (n : List ℕ) → option_or (note n notes) (position_from (p n) at rest) ≡ position_from (p n) 0 all

-- the variables counted so far, and those in the rest
abbrev pub Counts : Notes → ℕ → List PackageItem → List PackageItem → Type 0
Counts notes all rest items = (n : List ℕ) → unwrap_or (note n notes) (all + variables_before n rest) ≡ variables_before n items

-- the codes noted so far, and those in the rest
abbrev pub Codes : Notes → List PackageItem → List PackageItem → Type 0
Codes notes rest items = (n : List ℕ) → option_or (code_given n rest) (note n notes) ≡ code_given n items

-- what stands at the first place is what is found
pub at_place : {X : Type 0} (p : X → Bool) (xs : List X) → option_and_then (slice_get xs) (position_from p 0 xs) ≡ find p xs
at_place p xs = ap (option_and_then (slice_get xs)) (sym (position_from-zero p xs)) ∙ by (nat_lt (position_or_len p xs) (length xs)) refl
  where
    by : (b : Bool) → nat_lt (position_or_len p xs) (length xs) ≡ b → option_and_then (slice_get xs) (cond b (Some (position_or_len p xs)) None) ≡ find p xs
    by true e = sym (find_at p xs)
    by false e = sym (find_at p xs ∙ slice_get_past xs (position_or_len p xs) (ltb-false _ _ e))

pub same_place : {X : Type 0} (p : X → Bool) (xs : List X) → position_from p 0 xs ≡ position p xs
same_place p xs = sym (position_from-zero p xs)

-- what is said of an answer, where there is one
pub is_done : {T E Q : Type 0} (r : Result T E) → is_ok r ≡ true → OnOk r Q → Q
is_done (Ok x) e q = q
is_done (Err x) e q = search (rules, e)

-- the variables before a declaration, with one item counted
pub count_more : (d k : Bool) (o : Option ℕ) (a r : ℕ) → unwrap_or (option_or o (where_so d a)) (a + weight k + r) ≡ unwrap_or o (a + (if d then 0 else if k then suc r else r))
count_more d k (Some x) a r = refl
count_more true k None a r = omega (arith)
count_more false true None a r = omega (arith)
count_more false false None a r = omega (arith)

pub few_more : (k : Bool) (a i w : ℕ) → w ≡ weight k → a ≤ i → a + w ≤ i + 1
few_more true a i w e h = omega (arith, e, h)
few_more false a i w e h = omega (arith, e, h)
