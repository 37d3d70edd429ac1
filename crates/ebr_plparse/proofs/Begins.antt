-- Tests on two kinds, and then on more.
use Rattle.std.proofs.Common.{◌≡◌, Bool, true, false, List, [], ◌∷◌, refl, ◌∙◌}
use Rattle.std.specs.Prelude.{◌||◌}
use Rattle.ebr_lexer.specs.declared.token.Token.{Token}
use Rattle.ebr_grammar.specs.declared.kind.Kind.{Kind}
use Rattle.ebr_grammar.specs.Forms.{sees}
use Rattle.ebr_grammar.proofs.Next.{sees_more}

or_true : (x y : Bool) → x ≡ true → (x || y) ≡ true
or_true true y e = refl
or_true false y e = absurd cc

or_false : (x y : Bool) → x ≡ false → (x || y) ≡ y
or_false true y e = absurd cc
or_false false y e = refl

module _ (a b : Kind) (kinds : List Kind) (ts : List Token) where
  pub among_two : sees (a ∷ b ∷ []) ts ≡ true → sees (a ∷ b ∷ kinds) ts ≡ true
  among_two e = sees_more (a ∷ b ∷ []) kinds ts ∙ or_true (sees (a ∷ b ∷ []) ts) (sees kinds ts) e

  pub among_more : sees (a ∷ b ∷ []) ts ≡ false → sees (a ∷ b ∷ kinds) ts ≡ sees kinds ts
  among_more e = sees_more (a ∷ b ∷ []) kinds ts ∙ or_false (sees (a ∷ b ∷ []) ts) (sees kinds ts) e
