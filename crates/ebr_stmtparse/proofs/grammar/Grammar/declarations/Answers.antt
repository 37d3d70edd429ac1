use Rattle.std.proofs.Common.{◌≡◌, ◌≢◌, true, false, None, Some, rules}
use Rattle.ebr_grammar.specs.declared.tokens.ReadStop.TheVariants.{NoMemory}
use Rattle.ebr_grammar.specs.Forms.{sees}
use Rattle.ebr_grammar.proofs.Steps.{steps}
use Rattle.ebr_grammar.proofs.Loops.{stops, ends, goes_on, fails}
use Rattle.ebr_grammar.specs.Grammar.{outer}
use Rattle.ebr_simpleparse.specs.Declarations.{declaration_begins}
use Rattle.ebr_simpleparse.specs.Parts.{declaration_part}
use Rattle.ebr_stmtparse.specs.Statements.{reads_at, declarations}
use Rattle.ebr_stmtparse.proofs.grammar.Grammar.declarations.Goals as goal

pub returns-then-not-begins_declaration : goal.returns-then-not-begins_declaration
unfolding declarations
returns-then-not-begins_declaration g c =
    let unseen : sees declaration_begins c.loop-turn.tokens ≡ false = search rules in
    let e = stops declaration_begins (reads_at c.args.self.now.depth (outer declaration_part (λ d. d))) _ _ c.loop-turn.found c.loop-turn.tokens _ c.loop-turn.invariant unseen in
    simp steps (search (rules, e))

pub returns-in_err-next : goal.returns-in_err-next
unfolding declarations
returns-in_err-next g c =
    let seen : sees declaration_begins c.loop-turn.tokens ≡ true = search rules in
    let none : c.in_err-next.field-0.0 ≢ NoMemory → reads_at c.args.self.now.depth (outer declaration_part (λ d. d)) c.loop-turn.tokens ≡ None = λ x. simp steps (search (rules, c.in_err-next.ensures x)) in
    let e = λ (x : c.in_err-next.field-0.0 ≢ NoMemory). fails declaration_begins (reads_at c.args.self.now.depth (outer declaration_part (λ d. d))) _ _ c.loop-turn.found c.loop-turn.tokens _ c.loop-turn.invariant c.loop-turn-test.true seen (none x) in
    simp steps (search (rules, e))

pub loop-turn-preserved : goal.loop-turn-preserved
loop-turn-preserved g c =
    let seen : sees declaration_begins c.loop-turn.tokens ≡ true = search rules in
    let read : reads_at c.args.self.now.depth (outer declaration_part (λ d. d)) c.loop-turn.tokens ≡ Some (c.in_ok-next.next, c.read_declaration.new.tokens) = simp steps (search rules) in
    let e = goes_on declaration_begins (reads_at c.args.self.now.depth (outer declaration_part (λ d. d))) _ _ c.loop-turn.found c.loop-turn.tokens _ c.loop-turn.invariant c.in_ok-next.next c.read_declaration.new.tokens c.loop-turn-test.true seen read in
    search (rules, e)

pub returns : goal.returns
unfolding declarations
returns g c =
    let e = ends declaration_begins (reads_at c.args.self.now.depth (outer declaration_part (λ d. d))) _ _ c.loop-turn.found c.loop-turn.tokens _ c.loop-turn.invariant c.loop-turn-test.false in
    simp steps (search (rules, e))
