use Rattle.std.proofs.Common.{◌≡◌, ◌≢◌, Some, None, rules}
use Rattle.std.proofs.lemmas.Result.{err_from_is_err_and}
use Rattle.ebr_grammar.specs.declared.tokens.ReadStop.TheVariants.{NoMemory}
use Rattle.ebr_grammar.proofs.Steps.{steps}
use Rattle.ebr_exprparse.specs.Expressions.{range, range_end, sum}
use Rattle.ebr_exprparse.specs.inside.Reading.{reads_at}
use Rattle.ebr_exprparse.proofs.Ranges.{range_fails}
use Rattle.ebr_exprparse.proofs.expression.Grammar.range.Goals as goal

pub returns-in_err-low : goal.returns-in_err-low
unfolding range
returns-in_err-low g c = simp steps (search rules)

pub returns-in_err-high : goal.returns-in_err-high
unfolding range
returns-in_err-high g c =
    let one : reads_at c.args.self.now.depth sum c.args.tokens.now ≡ Some (c.in_ok-low.low, c.sum.new.tokens) = search rules in
    let none : c.in_err-high.field-0.0 ≢ NoMemory → reads_at c.args.self.now.depth range_end c.sum.new.tokens ≡ None = λ x. search (rules, c.in_err-high.ensures x) in
    let z = λ (x : c.in_err-high.field-0.0 ≢ NoMemory). range_fails (reads_at c.args.self.now.depth sum) (reads_at c.args.self.now.depth range_end) c.args.negated c.args.left c.args.tokens.now c.in_ok-low.low c.sum.new.tokens one (none x) in
    let p = err_from_is_err_and c.from_residual-in_err-high.result c.from_residual-in_err-high.ensures.1 in
    rw (p.1, p.2) (λ x. simp steps (z x))

pub returns : goal.returns
unfolding range
returns g c = simp steps (search rules)
