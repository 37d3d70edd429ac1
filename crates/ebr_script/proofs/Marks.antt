-- The first token of what begins with a word, and what stands behind it.
use Rattle.std.proofs.Common.{◌≡◌, true, List, [], ◌∷◌, ◌++◌, drop, sym, ap, subst, ◌∙◌}
use Rattle.ebr_lexer.specs.declared.token.Token.{Token}
use Rattle.ebr_grammar.specs.declared.kind.Kind.{Kind}
use Rattle.ebr_grammar.specs.Kinds.{kind_of, member}
use Rattle.ebr_grammar.specs.Forms.{Form, sees}
use Rattle.ebr_grammar.specs.Grammar.{Production, Spells}
use Rattle.ebr_grammar.specs.Words.{◌▸◌}

joined : (x y ts : List Token) (t : Token) → ts ≡ x ++ y → x ≡ t ∷ [] → ts ≡ t ∷ y
joined x y ts t e is = e ∙ ap (λ (z : List Token). z ++ y) is

seen : (kind : Kind) (t : Token) (ts : List Token) → member (kind_of t) (kind ∷ []) ≡ true → sees (kind ∷ []) (t ∷ ts) ≡ true
unfolding sees
seen kind t ts e = e

module _ {K : Type 0} {V : K → Type 0} (given : (k : K) → Form (V k)) where
  pub first_is : {C : Type 0} (kind : Kind) (g : Production K V C) (ts : List Token) (c : C) → Spells given (kind ▸ g) ts c → sees (kind ∷ []) ts ≡ true
  first_is kind g ts c s =
      let is = joined s.0 s.1 ts s.5.0 s.4 s.5.1 in
      subst (λ (z : List Token). sees (kind ∷ []) z ≡ true) (sym is) (seen kind s.5.0 s.1 s.5.2)

  pub behind : {C : Type 0} (kind : Kind) (g : Production K V C) (ts : List Token) (c : C) → Spells given (kind ▸ g) ts c → Spells given g (drop 1 ts) c
  behind kind g ts c s =
      let is = joined s.0 s.1 ts s.5.0 s.4 s.5.1 in
      subst (λ (z : List Token). Spells given g z c) (sym (ap (λ (z : List Token). drop 1 z) is)) (subst (λ b. Spells given g s.1 b) s.7 s.6)
