use Rattle.std.proofs.Common.{◌≡◌, ◌≢◌, ◌∙◌, true, false, None, Some, length, rules}
use Rattle.ebr_grammar.specs.declared.tokens.ReadStop.TheVariants.{NoMemory}
use Rattle.ebr_grammar.specs.Forms.{sees}
use Rattle.ebr_grammar.proofs.Steps.{steps}
use Rattle.ebr_grammar.proofs.Loops.{stops, ends, goes_on, fails, from_first}
use Rattle.ebr_grammar.specs.Grammar.{led}
use Rattle.ebr_stmtparse.specs.Statements.{reads_at, statement_begins, statement, more_statements}
use Rattle.ebr_stmtparse.proofs.grammar.Grammar.more_statements.Goals as goal

pub returns-then-not-begins_statement : goal.returns-then-not-begins_statement
unfolding more_statements
returns-then-not-begins_statement g c =
    let unseen : sees statement_begins c.loop-turn.tokens ≡ false = search rules in
    let e = stops statement_begins (reads_at c.args.self.now.depth (led statement_begins statement)) _ _ c.loop-turn.found c.loop-turn.tokens _ c.loop-turn.invariant unseen in
    let z = from_first statement_begins (reads_at c.args.self.now.depth (led statement_begins statement)) (length c.args.tokens.now) c.args.first c.args.tokens.now ∙ e in
    simp steps (search (rules, z))

pub returns-in_err-next : goal.returns-in_err-next
unfolding more_statements
returns-in_err-next g c =
    let seen : sees statement_begins c.loop-turn.tokens ≡ true = search rules in
    let none : c.in_err-next.field-0.0 ≢ NoMemory → reads_at c.args.self.now.depth (led statement_begins statement) c.loop-turn.tokens ≡ None = λ x. simp steps (search (rules, c.in_err-next.ensures x)) in
    let e = λ (x : c.in_err-next.field-0.0 ≢ NoMemory). fails statement_begins (reads_at c.args.self.now.depth (led statement_begins statement)) _ _ c.loop-turn.found c.loop-turn.tokens _ c.loop-turn.invariant c.loop-turn-test.true seen (none x) in
    let z = λ (x : c.in_err-next.field-0.0 ≢ NoMemory). from_first statement_begins (reads_at c.args.self.now.depth (led statement_begins statement)) (length c.args.tokens.now) c.args.first c.args.tokens.now ∙ e x in
    simp steps (search (rules, z))

pub loop-turn-preserved : goal.loop-turn-preserved
loop-turn-preserved g c =
    let seen : sees statement_begins c.loop-turn.tokens ≡ true = search rules in
    let read : reads_at c.args.self.now.depth (led statement_begins statement) c.loop-turn.tokens ≡ Some (c.in_ok-next.next, c.shared_statement.new.tokens) = simp steps (search rules) in
    let e = goes_on statement_begins (reads_at c.args.self.now.depth (led statement_begins statement)) _ _ c.loop-turn.found c.loop-turn.tokens _ c.loop-turn.invariant c.in_ok-next.next c.shared_statement.new.tokens c.loop-turn-test.true seen read in
    search (rules, e)

pub returns : goal.returns
unfolding more_statements
returns g c =
    let e = ends statement_begins (reads_at c.args.self.now.depth (led statement_begins statement)) _ _ c.loop-turn.found c.loop-turn.tokens _ c.loop-turn.invariant c.loop-turn-test.false in
    let z = from_first statement_begins (reads_at c.args.self.now.depth (led statement_begins statement)) (length c.args.tokens.now) c.args.first c.args.tokens.now ∙ e in
    simp steps (search (rules, z))
