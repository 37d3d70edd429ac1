use Rattle.std.proofs.Common.{◌≡◌, ◌≢◌, true, false, None, Some, rules}
use Rattle.ebr_grammar.specs.declared.tokens.ReadStop.TheVariants.{NoMemory}
use Rattle.ebr_grammar.specs.Forms.{sees}
use Rattle.ebr_grammar.specs.Grammar.{led}
use Rattle.ebr_grammar.proofs.Steps.{steps}
use Rattle.ebr_grammar.proofs.Loops.{stops, ends, goes_on, fails}
use Rattle.ebr_stmtparse.specs.Parts.{declaration_part}
use Rattle.ebr_plparse.specs.Productions.{reads_by, part}
use Rattle.ebr_plparse.specs.Packages.{declaration_begins, declarations}
use Rattle.ebr_plparse.proofs.packages.declarations.Goals as goal

pub returns-then-not-sees_declaration : goal.returns-then-not-sees_declaration
unfolding declarations
returns-then-not-sees_declaration c =
    let unseen : sees declaration_begins c.loop-turn.tokens ≡ false = search rules in
    let e = stops declaration_begins (reads_by (led declaration_begins (part declaration_part))) _ _ c.loop-turn.found c.loop-turn.tokens _ c.loop-turn.invariant unseen in
    simp steps (search (rules, e))

pub returns-in_err-next : goal.returns-in_err-next
unfolding declarations
returns-in_err-next c =
    let seen : sees declaration_begins c.loop-turn.tokens ≡ true = search rules in
    let none : c.in_err-next.field-0.0 ≢ NoMemory → reads_by (led declaration_begins (part declaration_part)) c.loop-turn.tokens ≡ None = λ x. simp steps (search (rules, c.in_err-next.ensures x)) in
    let e = λ (x : c.in_err-next.field-0.0 ≢ NoMemory). fails declaration_begins (reads_by (led declaration_begins (part declaration_part))) _ _ c.loop-turn.found c.loop-turn.tokens _ c.loop-turn.invariant c.loop-turn-test.true seen (none x) in
    simp steps (search (rules, e))

pub loop-turn-preserved : goal.loop-turn-preserved
loop-turn-preserved c =
    let seen : sees declaration_begins c.loop-turn.tokens ≡ true = search rules in
    let read : reads_by (led declaration_begins (part declaration_part)) c.loop-turn.tokens ≡ Some (c.in_ok-next.next, c.read_declaration.new.tokens) = simp steps (search rules) in
    let e = goes_on declaration_begins (reads_by (led declaration_begins (part declaration_part))) _ _ c.loop-turn.found c.loop-turn.tokens _ c.loop-turn.invariant c.in_ok-next.next c.read_declaration.new.tokens c.loop-turn-test.true seen read in
    search (rules, e)

pub returns : goal.returns
unfolding declarations
returns c =
    let e = ends declaration_begins (reads_by (led declaration_begins (part declaration_part))) _ _ c.loop-turn.found c.loop-turn.tokens _ c.loop-turn.invariant c.loop-turn-test.false in
    simp steps (search (rules, e))
