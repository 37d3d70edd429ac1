-- A step of the look-ahead for the parenthesis that closes.
use Rattle.std.proofs.Common.{◌≡◌, ℕ, ◌+◌, ◌-◌, ◌≤◌, ◌<◌, ◌==◌, true, false, List, [], ◌∷◌, drop, refl, ap, ◌∙◌, inl, inr, arith}
use Rattle.std.specs.Prelude.{if◌then◌else◌}
use Rattle.std.proofs.lemmas.Bool.{eqb-true}
use Rattle.std.proofs.lemmas.List.{drop-drop}
use Rattle.ebr_lexer.specs.declared.token.Token.{Token}
use Rattle.ebr_grammar.specs.declared.kind.Kind.TheVariants as k
use Rattle.ebr_grammar.specs.Forms.{sees}
use Rattle.ebr_grammar.proofs.Next.{cases_bool}
use Rattle.ebr_simpleparse.specs.Looking.{closes}

-- What is left to look at answers as all does.
pub record Closing (depth at from : ℕ) (ts : List Token) : Type 0 where
  pub same : closes depth (drop at ts) ≡ closes 0 (drop from ts)
  pub small : depth ≤ at

pub one_more : (at : ℕ) (ts : List Token) → drop 1 (drop at ts) ≡ drop (at + 1) ts
one_more at ts = drop-drop 1 at ts ∙ ap (λ (n : ℕ). drop n ts) (omega arith)

pub at_range : (depth : ℕ) (ts : List Token) → sees (k.Range ∷ []) ts ≡ true → closes depth ts ≡ false
unfolding sees
at_range depth [] e = absurd cc
at_range depth (t ∷ ts) e = rw e refl

pub at_left : (depth : ℕ) (ts : List Token) → sees (k.Range ∷ []) ts ≡ false → sees (k.LeftParen ∷ []) ts ≡ true → closes depth ts ≡ closes (depth + 1) (drop 1 ts)
unfolding sees
at_left depth [] not_range e = absurd cc
at_left depth (t ∷ ts) not_range e = rw (not_range, e) refl

none_open : {A : Type 0} (depth : ℕ) (x y : A) → depth ≡ 0 → (if depth == 0 then x else y) ≡ x
none_open depth x y e = rw e refl

some_open : {A : Type 0} (depth : ℕ) (x y : A) → 0 < depth → (if depth == 0 then x else y) ≡ y
some_open depth x y some = elim (cases_bool (depth == 0)) [ inl e ↦ absurd (omega (arith, eqb-true depth 0 e, some)) | inr e ↦ rw e refl ]

module _ (depth : ℕ) where
  right_is : (ts : List Token) → sees (k.Range ∷ []) ts ≡ false → sees (k.LeftParen ∷ []) ts ≡ false → sees (k.RightParen ∷ []) ts ≡ true
      → closes depth ts ≡ (if depth == 0 then true else closes (depth - 1) (drop 1 ts))
  unfolding sees
  right_is [] not_range not_left e = absurd cc
  right_is (t ∷ ts) not_range not_left e = rw (not_range, not_left, e) refl

  comma_is : (ts : List Token) → sees (k.Range ∷ []) ts ≡ false → sees (k.LeftParen ∷ []) ts ≡ false → sees (k.RightParen ∷ []) ts ≡ false → sees (k.Comma ∷ []) ts ≡ true
      → closes depth ts ≡ (if depth == 0 then false else closes depth (drop 1 ts))
  unfolding sees
  comma_is [] not_range not_left not_right e = absurd cc
  comma_is (t ∷ ts) not_range not_left not_right e = rw (not_range, not_left, not_right, e) refl

  pub at_other : (ts : List Token) → sees (k.Range ∷ []) ts ≡ false → sees (k.LeftParen ∷ []) ts ≡ false → sees (k.RightParen ∷ []) ts ≡ false → sees (k.Comma ∷ []) ts ≡ false
      → closes depth ts ≡ closes depth (drop 1 ts)
  unfolding sees
  at_other [] not_range not_left not_right not_comma = refl
  at_other (t ∷ ts) not_range not_left not_right not_comma = rw (not_range, not_left, not_right, not_comma) refl

  pub at_last_right : (ts : List Token) → sees (k.Range ∷ []) ts ≡ false → sees (k.LeftParen ∷ []) ts ≡ false → sees (k.RightParen ∷ []) ts ≡ true → depth ≡ 0 → closes depth ts ≡ true
  at_last_right ts not_range not_left e none = right_is ts not_range not_left e ∙ none_open depth true (closes (depth - 1) (drop 1 ts)) none

  pub at_right : (ts : List Token) → sees (k.Range ∷ []) ts ≡ false → sees (k.LeftParen ∷ []) ts ≡ false → sees (k.RightParen ∷ []) ts ≡ true → 0 < depth → closes depth ts ≡ closes (depth - 1) (drop 1 ts)
  at_right ts not_range not_left e some = right_is ts not_range not_left e ∙ some_open depth true (closes (depth - 1) (drop 1 ts)) some

  pub at_last_comma : (ts : List Token) → sees (k.Range ∷ []) ts ≡ false → sees (k.LeftParen ∷ []) ts ≡ false → sees (k.RightParen ∷ []) ts ≡ false → sees (k.Comma ∷ []) ts ≡ true → depth ≡ 0
      → closes depth ts ≡ false
  at_last_comma ts not_range not_left not_right e none = comma_is ts not_range not_left not_right e ∙ none_open depth false (closes depth (drop 1 ts)) none

  pub at_comma : (ts : List Token) → sees (k.Range ∷ []) ts ≡ false → sees (k.LeftParen ∷ []) ts ≡ false → sees (k.RightParen ∷ []) ts ≡ false → sees (k.Comma ∷ []) ts ≡ true → 0 < depth
      → closes depth ts ≡ closes depth (drop 1 ts)
  at_comma ts not_range not_left not_right e some = comma_is ts not_range not_left not_right e ∙ some_open depth false (closes depth (drop 1 ts)) some
