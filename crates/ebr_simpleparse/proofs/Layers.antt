-- An expression that doesn't begin with NOT is a factor, and what stands behind it on each level.
use Rattle.std.proofs.Common.{◌≡◌, true, List, [], ◌∷◌, ◌++◌, refl, ap, ◌∙◌, inl, inr, append_assoc}
use Rattle.std.specs.Prelude.{◌⊎◌}
use Rattle.ebr_lexer.specs.declared.token.Token.{Token}
use Rattle.ebr_grammar.specs.declared.kind.Kind.TheVariants as k
use Rattle.ebr_grammar.specs.Kinds.{kind_of, member}
use Rattle.ebr_grammar.specs.Forms.{sees}
use Rattle.ebr_grammar.specs.Grammar.{both, Spells, SpellsAny}
use Rattle.ebr_grammar.proofs.Outside as outside
use Rattle.ebr_exprtree.specs.declared.expression.Expr.TheVariants as e
use Rattle.ebr_exprparse.specs.declared.level.Level.{Level}
use Rattle.ebr_exprparse.specs.declared.level.Level.TheVariants.{Whole}
use Rattle.ebr_exprparse.specs.Expressions.{P, Read, joined, summed, combined, hints, grammar, disjunction, more_conjunctions, conjunction, more_negations, negation, comparison, comparison_tail, sum, more_terms, term, more_factors, factor}
use Rattle.ebr_exprparse.proofs.Clear.{clear}

-- some tree is spelled by the production
abbrev pub Has : {C : Type 0} → P C → List Token → Type 0
Has g ts = (c : _) × Spells (SpellsAny grammar) g ts c

pub starts_any : (l : Level) (ts : List Token) (a : Read) → SpellsAny grammar l ts a → sees (hints.begins l) ts ≡ true
starts_any = outside.starts_any hints grammar clear

pub opened : (ts : List Token) (a : Read) → SpellsAny grammar Whole ts a → Spells (SpellsAny grammar) disjunction ts a
unfolding grammar
opened ts a s = outside.opened hints grammar clear Whole ts a s

pub closed_up : (ts : List Token) (a : Read) → Spells (SpellsAny grammar) disjunction ts a → SpellsAny grammar Whole ts a
unfolding grammar
closed_up ts a s = outside.closed_up hints grammar clear Whole ts a s

-- ---- layers

abbrev pub joins : List Token → List Token → List Token → List Token → List Token → List Token → List Token
joins front factors terms tail negations conjunctions = ((((front ++ factors) ++ terms) ++ tail) ++ negations) ++ conjunctions

pub record Layers (ts : List Token) : Type 0 where
  pub front : List Token
  pub factors : List Token
  pub terms : List Token
  pub tail : List Token
  pub negations : List Token
  pub conjunctions : List Token
  pub all : ts ≡ joins front factors terms tail negations conjunctions
  pub has_front : Has factor front
  pub has_factors : Has more_factors factors
  pub has_terms : Has more_terms terms
  pub has_tail : Has comparison_tail tail
  pub has_negations : Has more_negations negations
  pub has_conjunctions : Has more_conjunctions conjunctions

-- NOT and a comparison stand in front
abbrev pub Negated : List Token → Type 0
Negated ts = (t : Token) × (x y : List Token) × (ts ≡ t ∷ (x ++ y)) × (member (kind_of t) (k.Not ∷ []) ≡ true) × Has comparison x

cut_comparison : (ts x negations conjunctions : List Token) (c : Read) → ts ≡ (x ++ negations) ++ conjunctions → Spells (SpellsAny grammar) comparison x c
    → Has more_negations negations → Has more_conjunctions conjunctions → Layers ts
unfolding comparison sum term
cut_comparison ts x negations conjunctions c e s has_negations has_conjunctions =
    let sum_is = s.5 in
    let term_is = sum_is.5 in
    record {
      front = term_is.0;
      factors = term_is.1;
      terms = sum_is.1;
      tail = s.1;
      negations = negations;
      conjunctions = conjunctions;
      all = e ∙ ap (λ (z : List Token). (z ++ negations) ++ conjunctions) (s.4 ∙ ap (λ (z : List Token). z ++ s.1) (sum_is.4 ∙ ap (λ (z : List Token). z ++ sum_is.1) term_is.4));
      has_front = (term_is.2, term_is.5);
      has_factors = (term_is.3, term_is.6);
      has_terms = (sum_is.3, sum_is.6);
      has_tail = (s.3, s.6);
      has_negations = has_negations;
      has_conjunctions = has_conjunctions;
    }

cut_negation : (ts x negations conjunctions : List Token) (c : Read) → ts ≡ (x ++ negations) ++ conjunctions → Spells (SpellsAny grammar) negation x c
    → Has more_negations negations → Has more_conjunctions conjunctions → Negated ts ⊎ Layers ts
unfolding negation
cut_negation ts x negations conjunctions c e (inl n) has_negations has_conjunctions =
    let all : ts ≡ n.5.0 ∷ ((n.1 ++ negations) ++ conjunctions) = e ∙ ap (λ (z : List Token). (z ++ negations) ++ conjunctions) (n.4 ∙ ap (λ (z : List Token). z ++ n.1) n.5.1) in
    inl (n.5.0, n.1, negations ++ conjunctions, all ∙ ap (λ (z : List Token). n.5.0 ∷ z) (append_assoc n.1 negations conjunctions), n.5.2, (n.6.0, n.6.1))
cut_negation ts x negations conjunctions c e (inr n) has_negations has_conjunctions = inr (cut_comparison ts x negations conjunctions c e n has_negations has_conjunctions)

-- the layers of an expression
pub cut : (ts : List Token) (a : Read) → Spells (SpellsAny grammar) disjunction ts a → Negated ts ⊎ Layers ts
unfolding disjunction conjunction
cut ts a s = cut_negation ts s.5.0 s.5.1 s.1 s.5.2 (s.4 ∙ ap (λ (z : List Token). z ++ s.1) s.5.4) s.5.5 (s.5.3, s.5.6) (s.3, s.6)

has_both : {A B C : Type 0} (f : A → B → C) (g : P A) (h : P B) (x y : List Token) → Has g x → Has h y → Has (both f g h) (x ++ y)
has_both f g h x y p q = (f p.0 q.0, (x, y, p.0, q.0, refl, p.1, q.1, refl))

has_comparison : (front factors terms tail : List Token) → Has factor front → Has more_factors factors → Has more_terms terms → Has comparison_tail tail → Has comparison (((front ++ factors) ++ terms) ++ tail)
unfolding comparison sum term
has_comparison front factors terms tail a b c d =
    has_both (λ (x : _) f. f x) sum comparison_tail ((front ++ factors) ++ terms) tail (has_both summed term more_terms (front ++ factors) terms (has_both (joined e.Product) factor more_factors front factors a b) c) d

-- layers make an expression
pub has_all : (front factors terms tail negations conjunctions : List Token) → Has factor front → Has more_factors factors → Has more_terms terms → Has comparison_tail tail → Has more_negations negations → Has more_conjunctions conjunctions
    → Has disjunction (joins front factors terms tail negations conjunctions)
unfolding disjunction conjunction negation
has_all front factors terms tail negations conjunctions a b c d m n =
    let one = has_comparison front factors terms tail a b c d in
    has_both (combined e.Or) conjunction more_conjunctions ((((front ++ factors) ++ terms) ++ tail) ++ negations) conjunctions
    (has_both (combined e.And) negation more_negations (((front ++ factors) ++ terms) ++ tail) negations (one.0, inr one.1) m) n
