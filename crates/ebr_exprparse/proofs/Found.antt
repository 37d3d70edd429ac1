-- One word of several, and what is found and left as it is.
use Rattle.std.proofs.Common.{◌≡◌, true, false, List, [], ◌∷◌, Some, None, Result, refl, subst, sym}
use Rattle.ebr_lexer.specs.declared.token.Token.{Token}
use Rattle.ebr_grammar.specs.declared.kind.Kind.{Kind}
use Rattle.ebr_grammar.specs.declared.tokens.ReadStop.{ReadStop}
use Rattle.ebr_grammar.specs.Forms.{Found, sees}
use Rattle.ebr_grammar.specs.Outcome.{Reads}
use Rattle.ebr_grammar.specs.Reading.{and_then, next}
use Rattle.ebr_exprparse.specs.inside.Words.{read_one}

pub seen : {A : Type 0} (x : Kind × A) (rest : List (Kind × A)) (ts : List Token) → sees (x.0 ∷ []) ts ≡ true → read_one (x ∷ rest) ts ≡ Some (x.1, next ts)
seen x [] ts is = rw is refl
seen x (y ∷ rest) ts is = rw is refl

pub unseen : {A : Type 0} (x : Kind × A) (rest : List (Kind × A)) (ts : List Token) → sees (x.0 ∷ []) ts ≡ false → read_one (x ∷ rest) ts ≡ read_one rest ts
unseen x [] ts is = rw is refl
unseen x (y ∷ rest) ts is = rw is refl

same : {A : Type 0} (found : Found A) → and_then found (λ a end. Some (a, end)) ≡ found
same None = refl
same (Some x) = refl

pub unchanged : {A : Type 0} (found : Found A) (result : Result A ReadStop) (ts : List Token) → Reads found result ts → Reads (and_then found (λ a end. Some (a, end))) result ts
unchanged found result ts is = subst (λ (z : Found _). Reads z result ts) (sym (same found)) is
