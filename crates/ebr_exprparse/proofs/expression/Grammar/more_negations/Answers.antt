use Rattle.std.proofs.Common.{◌≡◌, ◌≢◌, true, false, None, Some, [], ◌∷◌, rules}
use Rattle.ebr_grammar.specs.declared.tokens.ReadStop.TheVariants.{NoMemory}
use Rattle.ebr_grammar.specs.declared.kind.Kind.TheVariants as k
use Rattle.ebr_grammar.specs.Forms.{sees}
use Rattle.ebr_grammar.specs.Words.{◌▸◌}
use Rattle.ebr_grammar.proofs.Steps.{steps}
use Rattle.ebr_grammar.proofs.Loops.{stops, ends, goes_on, fails}
use Rattle.ebr_exprparse.specs.Expressions.{negated_tree, more_negations}
use Rattle.ebr_exprparse.specs.inside.Reading.{reads_at}
use Rattle.ebr_exprparse.proofs.expression.Grammar.more_negations.Goals as goal

pub returns-then-not-eat : goal.returns-then-not-eat
unfolding more_negations
returns-then-not-eat g c =
    let unseen : sees (k.And ∷ []) c.loop-turn.tokens ≡ false = search rules in
    let e = stops (k.And ∷ []) (reads_at c.args.self.now.depth (k.And ▸ negated_tree)) _ _ c.loop-turn.found c.loop-turn.tokens _ c.loop-turn.invariant unseen in
    simp steps (search (rules, e))

pub returns-in_err-next : goal.returns-in_err-next
unfolding more_negations
returns-in_err-next g c =
    let seen : sees (k.And ∷ []) c.loop-turn.tokens ≡ true = search rules in
    let none : c.in_err-next.field-0.0 ≢ NoMemory → reads_at c.args.self.now.depth (k.And ▸ negated_tree) c.loop-turn.tokens ≡ None = λ x. simp steps (search (rules, c.in_err-next.ensures x)) in
    let e = λ (x : c.in_err-next.field-0.0 ≢ NoMemory). fails (k.And ∷ []) (reads_at c.args.self.now.depth (k.And ▸ negated_tree)) _ _ c.loop-turn.found c.loop-turn.tokens _ c.loop-turn.invariant c.loop-turn-test.true seen (none x) in
    simp steps (search (rules, e))

pub loop-turn-preserved : goal.loop-turn-preserved
loop-turn-preserved g c =
    let seen : sees (k.And ∷ []) c.loop-turn.tokens ≡ true = search rules in
    let read : reads_at c.args.self.now.depth (k.And ▸ negated_tree) c.loop-turn.tokens ≡ Some (c.in_ok-next.next, c.negated_tree.new.tokens) = simp steps (search rules) in
    let e = goes_on (k.And ∷ []) (reads_at c.args.self.now.depth (k.And ▸ negated_tree)) _ _ c.loop-turn.found c.loop-turn.tokens _ c.loop-turn.invariant c.in_ok-next.next c.negated_tree.new.tokens c.loop-turn-test.true seen read in
    search (rules, e)

pub returns : goal.returns
unfolding more_negations
returns g c =
    let e = ends (k.And ∷ []) (reads_at c.args.self.now.depth (k.And ▸ negated_tree)) _ _ c.loop-turn.found c.loop-turn.tokens _ c.loop-turn.invariant c.loop-turn-test.false in
    simp steps (search (rules, e))
