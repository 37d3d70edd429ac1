use Rattle.std.proofs.Common.{◌≡◌, ◌≢◌, true, false, None, Some, [], ◌∷◌, rules}
use Rattle.ebr_grammar.specs.declared.tokens.ReadStop.TheVariants.{NoMemory}
use Rattle.ebr_grammar.specs.declared.kind.Kind.TheVariants as k
use Rattle.ebr_grammar.specs.Forms.{sees}
use Rattle.ebr_grammar.specs.Words.{◌▸◌}
use Rattle.ebr_grammar.proofs.Steps.{steps}
use Rattle.ebr_grammar.proofs.Loops.{stops, ends, goes_on, fails}
use Rattle.ebr_exprparse.specs.Expressions.{conjoined_tree, more_conjunctions}
use Rattle.ebr_exprparse.specs.inside.Reading.{reads_at}
use Rattle.ebr_exprparse.proofs.expression.Grammar.more_conjunctions.Goals as goal

pub returns-then-not-eat : goal.returns-then-not-eat
unfolding more_conjunctions
returns-then-not-eat g c =
    let unseen : sees (k.Or ∷ []) c.loop-turn.tokens ≡ false = search rules in
    let e = stops (k.Or ∷ []) (reads_at c.args.self.now.depth (k.Or ▸ conjoined_tree)) _ _ c.loop-turn.found c.loop-turn.tokens _ c.loop-turn.invariant unseen in
    simp steps (search (rules, e))

pub returns-in_err-next : goal.returns-in_err-next
unfolding more_conjunctions
returns-in_err-next g c =
    let seen : sees (k.Or ∷ []) c.loop-turn.tokens ≡ true = search rules in
    let none : c.in_err-next.field-0.0 ≢ NoMemory → reads_at c.args.self.now.depth (k.Or ▸ conjoined_tree) c.loop-turn.tokens ≡ None = λ x. simp steps (search (rules, c.in_err-next.ensures x)) in
    let e = λ (x : c.in_err-next.field-0.0 ≢ NoMemory). fails (k.Or ∷ []) (reads_at c.args.self.now.depth (k.Or ▸ conjoined_tree)) _ _ c.loop-turn.found c.loop-turn.tokens _ c.loop-turn.invariant c.loop-turn-test.true seen (none x) in
    simp steps (search (rules, e))

pub loop-turn-preserved : goal.loop-turn-preserved
loop-turn-preserved g c =
    let seen : sees (k.Or ∷ []) c.loop-turn.tokens ≡ true = search rules in
    let read : reads_at c.args.self.now.depth (k.Or ▸ conjoined_tree) c.loop-turn.tokens ≡ Some (c.in_ok-next.next, c.conjoined_tree.new.tokens) = simp steps (search rules) in
    let e = goes_on (k.Or ∷ []) (reads_at c.args.self.now.depth (k.Or ▸ conjoined_tree)) _ _ c.loop-turn.found c.loop-turn.tokens _ c.loop-turn.invariant c.in_ok-next.next c.conjoined_tree.new.tokens c.loop-turn-test.true seen read in
    search (rules, e)

pub returns : goal.returns
unfolding more_conjunctions
returns g c =
    let e = ends (k.Or ∷ []) (reads_at c.args.self.now.depth (k.Or ▸ conjoined_tree)) _ _ c.loop-turn.found c.loop-turn.tokens _ c.loop-turn.invariant c.loop-turn-test.false in
    simp steps (search (rules, e))
