-- One step of depth.
use Rattle.std.proofs.Common.{◌≡◌, ℕ, suc, ◌-◌, ◌<◌, List, None, ap, arith}
use Rattle.ebr_lexer.specs.declared.token.Token.{Token}
use Rattle.ebr_grammar.specs.Reading.{reads_within}
use Rattle.ebr_stmtparse.specs.Statements.{some_statements, reads_at, hints, grammar, statements}
use Rattle.ebr_stmtparse.specs.inside.Nests.{read_within}

pub no_depth : (n : ℕ) (ts : List Token) → n ≡ 0 → read_within n ts ≡ None
unfolding reads_within
no_depth n ts e = ap (λ (m : ℕ). reads_within hints grammar m some_statements ts) e

pub one_deep : (n : ℕ) (ts : List Token) → 0 < n → read_within n ts ≡ reads_at (n - 1) statements ts
unfolding reads_within grammar
one_deep n ts some = let e : n ≡ suc (n - 1) = omega arith in ap (λ (m : ℕ). reads_within hints grammar m some_statements ts) e
