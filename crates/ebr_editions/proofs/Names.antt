-- Editions that live have different names.
use Rattle.std.proofs.Common.{◌≡◌, ◌≢◌, ◌≤◌, ℕ, suc, Bool, List, [], ◌∷◌, ◌++◌, None, Some, option_map, find, filter, length, sym, ap, ◌∙◌, arith}
use Rattle.std.specs.Prelude.{All, AllPairs}
use Rattle.std.specs.Str.{bytes_eq}
use Rattle.std.proofs.lemmas.List.Elements.{All-nil, All-cons, All-head, All-tail, All-push}
use Rattle.std.proofs.lemmas.List.Kept.{AllPairs-cons}
use Rattle.std.proofs.lemmas.List.Sums.{length-filter, count_by-le-length}
use Rattle.ebr_editions.specs.declared.entry.EditionEntry.{EditionEntry}
use Rattle.ebr_editions.proofs.Lists.{by_test, cond-true, cond-false, none_some, false_true, name_itself}
use Rattle.ebr_editions.proofs.Line.{number_of, has_name}

pub pairs-one : {X : Type 0} (R : X → X → Type 0) (x : X) → AllPairs R (x ∷ [])
pairs-one R x i j d lt within = absurd (omega arith)

-- one more goes last
pub pairs-push : {X : Type 0} (R : X → X → Type 0) (xs : List X) (x : X) → AllPairs R xs → All (λ y. R y x) xs → AllPairs R (xs ++ x ∷ [])
pairs-push R [] x h all = pairs-one R x
pairs-push R (y ∷ xs) x h all =
    AllPairs-cons R y (xs ++ x ∷ []) (All-push (R y) xs x (λ k d lt. h 0 (suc k) d (omega arith) (omega arith)) (All-head (λ z. R z x) y xs all))
    (pairs-push R xs x (λ i j d lt within. h (suc i) (suc j) d (omega arith) (omega arith)) (All-tail (λ z. R z x) y xs all))

-- a name that none is found under
pub free-name : (n : List ℕ) (xs : List EditionEntry) → option_map number_of (find (has_name n) xs) ≡ None → All (λ (y : EditionEntry). y.name ≢ n) xs
free-name n [] h = All-nil (λ (y : EditionEntry). y.name ≢ n)
free-name n (x ∷ xs) h =
    by_test (has_name n x)
    (λ t. none_some (sym h ∙ ap (option_map number_of) (cond-true (has_name n x) (Some x) (find (has_name n) xs) t)))
    (λ f.
    All-cons (λ (y : EditionEntry). y.name ≢ n) x xs
    (λ same. false_true (sym f ∙ (ap (bytes_eq n) same ∙ name_itself n)))
    (free-name n xs (sym (ap (option_map number_of) (cond-false (has_name n x) (Some x) (find (has_name n) xs) f)) ∙ h)))

pub filter-fewer : {X : Type 0} (p : X → Bool) (xs : List X) (n : ℕ) → length xs ≤ n → length (filter p xs) ≤ n
filter-fewer p xs n h = omega (arith, length-filter p xs, count_by-le-length p xs, h)
