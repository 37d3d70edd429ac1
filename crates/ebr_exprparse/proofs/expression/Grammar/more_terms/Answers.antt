use Rattle.std.proofs.Common.{◌≡◌, ◌≢◌, true, false, None, Some, [], ◌∷◌, rules}
use Rattle.ebr_grammar.specs.declared.tokens.ReadStop.TheVariants.{NoMemory}
use Rattle.ebr_grammar.specs.declared.kind.Kind.TheVariants as k
use Rattle.ebr_grammar.specs.Grammar.{led}
use Rattle.ebr_grammar.specs.Forms.{sees}
use Rattle.ebr_grammar.proofs.Steps.{steps}
use Rattle.ebr_grammar.proofs.Loops.{stops, ends, goes_on, fails}
use Rattle.ebr_exprparse.specs.Expressions.{addend, more_terms}
use Rattle.ebr_exprparse.specs.inside.Reading.{reads_at}
use Rattle.ebr_exprparse.proofs.expression.Grammar.more_terms.Goals as goal

pub returns-then-not-sees_any : goal.returns-then-not-sees_any
unfolding more_terms
returns-then-not-sees_any g c =
    let unseen : sees (k.Plus ∷ k.Minus ∷ k.Concat ∷ []) c.loop-turn.tokens ≡ false = search rules in
    let e = stops (k.Plus ∷ k.Minus ∷ k.Concat ∷ []) (reads_at c.args.self.now.depth (led (k.Plus ∷ k.Minus ∷ k.Concat ∷ []) addend)) _ _ c.loop-turn.found c.loop-turn.tokens _ c.loop-turn.invariant unseen in
    simp steps (search (rules, e))

pub returns-in_err-next : goal.returns-in_err-next
unfolding more_terms
returns-in_err-next g c =
    let seen : sees (k.Plus ∷ k.Minus ∷ k.Concat ∷ []) c.loop-turn.tokens ≡ true = search rules in
    let none : c.in_err-next.field-0.0 ≢ NoMemory → reads_at c.args.self.now.depth (led (k.Plus ∷ k.Minus ∷ k.Concat ∷ []) addend) c.loop-turn.tokens ≡ None = λ x. simp steps (search (rules, c.in_err-next.ensures x)) in
    let e = λ (x : c.in_err-next.field-0.0 ≢ NoMemory). fails (k.Plus ∷ k.Minus ∷ k.Concat ∷ []) (reads_at c.args.self.now.depth (led (k.Plus ∷ k.Minus ∷ k.Concat ∷ []) addend)) _ _ c.loop-turn.found c.loop-turn.tokens _ c.loop-turn.invariant c.loop-turn-test.true seen (none x) in
    simp steps (search (rules, e))

pub loop-turn-preserved : goal.loop-turn-preserved
loop-turn-preserved g c =
    let seen : sees (k.Plus ∷ k.Minus ∷ k.Concat ∷ []) c.loop-turn.tokens ≡ true = search rules in
    let read : reads_at c.args.self.now.depth (led (k.Plus ∷ k.Minus ∷ k.Concat ∷ []) addend) c.loop-turn.tokens ≡ Some (c.in_ok-next.next, c.addend.new.tokens) = simp steps (search rules) in
    let e = goes_on (k.Plus ∷ k.Minus ∷ k.Concat ∷ []) (reads_at c.args.self.now.depth (led (k.Plus ∷ k.Minus ∷ k.Concat ∷ []) addend)) _ _ c.loop-turn.found c.loop-turn.tokens _ c.loop-turn.invariant c.in_ok-next.next c.addend.new.tokens c.loop-turn-test.true seen read in
    search (rules, e)

pub returns : goal.returns
unfolding more_terms
returns g c =
    let e = ends (k.Plus ∷ k.Minus ∷ k.Concat ∷ []) (reads_at c.args.self.now.depth (led (k.Plus ∷ k.Minus ∷ k.Concat ∷ []) addend)) _ _ c.loop-turn.found c.loop-turn.tokens _ c.loop-turn.invariant c.loop-turn-test.false in
    simp steps (search (rules, e))
