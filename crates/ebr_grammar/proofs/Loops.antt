-- A loop that reads one production again and again.
use Rattle.std.proofs.Common.{◌≡◌, ℕ, zero, suc, ◌+◌, ◌-◌, ◌<◌, ◌≤◌, Bool, true, false, List, [], ◌∷◌, ◌++◌, Some, None, refl, sym, ap, ◌∙◌, append_assoc, arith}
use Rattle.std.specs.Prelude.{if◌then◌else◌}
use Rattle.ebr_grammar.specs.declared.kind.Kind.{Kind}
use Rattle.ebr_lexer.specs.declared.token.Token.{Token}
use Rattle.ebr_grammar.specs.Forms.{Found, Reader, sees}
use Rattle.ebr_grammar.specs.Reading.{and_then, repeat}
use Rattle.ebr_grammar.proofs.Laws.{repeat-stops, repeat-goes_on, take_first}

repeat-fails : {A : Type 0} (kinds : List Kind) (r : Reader A) (n : ℕ) (found : List A) (ts : List Token) → sees kinds ts ≡ true → r ts ≡ None → repeat kinds r (suc n) found ts ≡ None
unfolding repeat
repeat-fails kinds r n found ts e p = take_first (sees kinds ts) (and_then (r ts) (λ a. repeat kinds r n (found ++ a ∷ []))) (Some (found, ts)) None e (rw p refl)

repeat-ends : {A : Type 0} (kinds : List Kind) (r : Reader A) (found : List A) (ts : List Token) → repeat kinds r zero found ts ≡ Some (found, ts)
unfolding repeat
repeat-ends kinds r found ts = refl

module _ {A : Type 0} (kinds : List Kind) (r : Reader A) (n at : ℕ) (found : List A) (ts : List Token) (total : Found (List A)) (so_far : repeat kinds r (n - at) found ts ≡ total) where
  pub stops : sees kinds ts ≡ false → total ≡ Some (found, ts)
  stops e = sym so_far ∙ repeat-stops kinds r (n - at) found ts e

  pub ends : n ≤ at → total ≡ Some (found, ts)
  ends le = let none : n - at ≡ 0 = omega arith in sym so_far ∙ ap (λ (z : ℕ). repeat kinds r z found ts) none ∙ repeat-ends kinds r found ts

  pub goes_on : (a : A) (mid : List Token) → at < n → sees kinds ts ≡ true → r ts ≡ Some (a, mid) → repeat kinds r (n - (at + 1)) (found ++ a ∷ []) mid ≡ total
  goes_on a mid lt e p =
      let one : n - at ≡ suc (n - (at + 1)) = omega arith in
      sym (ap (λ (z : ℕ). repeat kinds r z found ts) one ∙ repeat-goes_on kinds r (n - (at + 1)) found ts a mid (repeat kinds r (n - (at + 1)) (found ++ a ∷ []) mid) e p refl) ∙ so_far

  pub fails : at < n → sees kinds ts ≡ true → r ts ≡ None → total ≡ None
  fails lt e p =
      let one : n - at ≡ suc (n - (at + 1)) = omega arith in
      sym so_far ∙ ap (λ (z : ℕ). repeat kinds r z found ts) one ∙ repeat-fails kinds r (n - (at + 1)) found ts e p

behind_step : {A : Type 0} (kinds : List Kind) (r : Reader A) (n : ℕ) (front found : List A) (ts : List Token)
    → ((found : List A) (ts : List Token) → and_then (repeat kinds r n found ts) (λ more end. Some (front ++ more, end)) ≡ repeat kinds r n (front ++ found) ts)
    → (b : Bool) (one : Found A)
    → and_then (if b then and_then one (λ a. repeat kinds r n (found ++ a ∷ [])) else Some (found, ts)) (λ more end. Some (front ++ more, end))
    ≡ (if b then and_then one (λ a. repeat kinds r n ((front ++ found) ++ a ∷ [])) else Some (front ++ found, ts))
behind_step kinds r n front found ts h true None = refl
behind_step kinds r n front found ts h true (Some x) = h (found ++ x.0 ∷ []) x.1 ∙ ap (λ z. repeat kinds r n z x.1) (sym (append_assoc front found (x.0 ∷ [])))
behind_step kinds r n front found ts h false one = refl

-- with more items found before, these stand first
repeat-behind : {A : Type 0} (kinds : List Kind) (r : Reader A) (n : ℕ) (front found : List A) (ts : List Token)
    → and_then (repeat kinds r n found ts) (λ more end. Some (front ++ more, end)) ≡ repeat kinds r n (front ++ found) ts
unfolding repeat
repeat-behind kinds r zero front found ts = refl
repeat-behind kinds r (suc n) front found ts = behind_step kinds r n front found ts (repeat-behind kinds r n front) (sees kinds ts) (r ts)

from_twice : {A : Type 0} (first : A) (x : Found (List A))
    → and_then (and_then x (λ (found : List A) end. Some ((λ (a : A). a ∷ found), end))) (λ (f : A → List A) end. Some (f first, end)) ≡ and_then x (λ more end. Some (first ∷ more, end))
from_twice first None = refl
from_twice first (Some x) = refl

-- the items behind the first, and with it
pub from_first : {A : Type 0} (kinds : List Kind) (r : Reader A) (n : ℕ) (first : A) (ts : List Token)
    → and_then (and_then (repeat kinds r n [] ts) (λ (found : List A) end. Some ((λ (a : A). a ∷ found), end))) (λ (f : A → List A) end. Some (f first, end)) ≡ repeat kinds r n (first ∷ []) ts
from_first kinds r n first ts = from_twice first (repeat kinds r n [] ts) ∙ repeat-behind kinds r n (first ∷ []) [] ts
