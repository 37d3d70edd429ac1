-- Whether the innermost of a name is among the outermost names, by the place where it is found.
use Rattle.std.proofs.Common.{◌≡◌, ℕ, Bool, true, false, if◌then◌else◌, nat_lt, List, [], ◌∷◌, map, length, Option, Some, None, refl, sym, ap, ◌∙◌}
use Rattle.std.specs.Str.{bytes_eq}
use Rattle.std.proofs.lemmas.List.{length-map}
use Rattle.ebr_scope.specs.declared.scopes.Entry as inside
use Rattle.ebr_scope.specs.Meanings.{Word, is_outer}
use Rattle.ebr_scope.specs.Nests.{place}
use Rattle.ebr_scope.specs.inside.Kept.{named}
use Rattle.ebr_scope.proofs.Shown.{shown}

abbrev pub is_before : ℕ → Option ℕ → Bool
is_before count None = false
is_before count (Some at) = nat_lt at count

pub outer_is : (count : ℕ) (n : Word) (es : List inside.Entry) → is_outer count n (map shown es) ≡ is_before count (place n (map named es))
outer_is count n [] = refl
outer_is count n (e ∷ es) = by (bytes_eq n e.name.now) (outer_is count n es)
  where
    by : (b : Bool) → is_outer count n (map shown es) ≡ is_before count (place n (map named es))
        → (if b then nat_lt (length (map shown es)) count else is_outer count n (map shown es)) ≡ is_before count (if b then Some (length (map named es)) else place n (map named es))
    by true rest = ap (λ k. nat_lt k count) (length-map es shown ∙ sym (length-map es named))
    by false rest = rest
