-- One step of depth.
use Rattle.std.proofs.Common.{◌≡◌, ℕ, suc, ◌-◌, ◌<◌, List, None, ap, ◌∙◌, arith}
use Rattle.ebr_lexer.specs.declared.token.Token.{Token}
use Rattle.ebr_grammar.specs.Reading.{reads_within}
use Rattle.ebr_exprparse.specs.declared.level.Level.{Level}
use Rattle.ebr_exprparse.specs.declared.level.Level.TheVariants.{Whole, Sum}
use Rattle.ebr_exprparse.specs.Expressions.{read_within, hints, grammar, disjunction, sum_alone}
use Rattle.ebr_exprparse.specs.inside.Reading.{reads_at}

pub no_depth : (n : ℕ) (l : Level) (ts : List Token) → n ≡ 0 → read_within n l ts ≡ None
unfolding reads_within
no_depth n l ts e = ap (λ (m : ℕ). reads_within hints grammar m l ts) e

pub whole_deep : (n : ℕ) (l : Level) (ts : List Token) → 0 < n → l ≡ Whole → read_within n l ts ≡ reads_at (n - 1) disjunction ts
unfolding reads_within grammar
whole_deep n l ts some is = let e : n ≡ suc (n - 1) = omega arith in ap (λ (m : ℕ). reads_within hints grammar m l ts) e ∙ ap (λ (j : Level). reads_within hints grammar (suc (n - 1)) j ts) is

pub sum_deep : (n : ℕ) (l : Level) (ts : List Token) → 0 < n → l ≡ Sum → read_within n l ts ≡ reads_at (n - 1) sum_alone ts
unfolding reads_within grammar
sum_deep n l ts some is = let e : n ≡ suc (n - 1) = omega arith in ap (λ (m : ℕ). reads_within hints grammar m l ts) e ∙ ap (λ (j : Level). reads_within hints grammar (suc (n - 1)) j ts) is
