use Rattle.std.proofs.Common.{◌≡◌, ◌≢◌, true, false, None, Some, rules}
use Rattle.ebr_grammar.specs.declared.tokens.ReadStop.TheVariants.{NoMemory}
use Rattle.ebr_grammar.specs.Forms.{sees}
use Rattle.ebr_grammar.specs.Grammar.{led}
use Rattle.ebr_grammar.proofs.Steps.{steps}
use Rattle.ebr_grammar.proofs.Loops.{stops, ends, goes_on, fails}
use Rattle.ebr_ddlparse.specs.Base.{reading}
use Rattle.ebr_ddlparse.specs.Tables.{constraint_begins, constraint, constraints}
use Rattle.ebr_ddlparse.proofs.tables.constraints.Goals as goal

pub returns-then-not-sees_any : goal.returns-then-not-sees_any
unfolding constraints
returns-then-not-sees_any c =
    let unseen : sees constraint_begins c.loop-turn.tokens ≡ false = search rules in
    let e = stops constraint_begins (reading (led constraint_begins constraint)) _ _ c.loop-turn.found c.loop-turn.tokens _ c.loop-turn.invariant unseen in
    simp steps (search (rules, e))

pub returns-in_err-next : goal.returns-in_err-next
unfolding constraints
returns-in_err-next c =
    let seen : sees constraint_begins c.loop-turn.tokens ≡ true = search rules in
    let none : c.in_err-next.field-0.0 ≢ NoMemory → reading (led constraint_begins constraint) c.loop-turn.tokens ≡ None = λ x. simp steps (search (rules, c.in_err-next.ensures x)) in
    let e = λ (x : c.in_err-next.field-0.0 ≢ NoMemory). fails constraint_begins (reading (led constraint_begins constraint)) _ _ c.loop-turn.found c.loop-turn.tokens _ c.loop-turn.invariant c.loop-turn-test.true seen (none x) in
    simp steps (search (rules, e))

pub loop-turn-preserved : goal.loop-turn-preserved
loop-turn-preserved c =
    let seen : sees constraint_begins c.loop-turn.tokens ≡ true = search rules in
    let read : reading (led constraint_begins constraint) c.loop-turn.tokens ≡ Some (c.in_ok-next.next, c.constraint.new.tokens) = simp steps (search rules) in
    let e = goes_on constraint_begins (reading (led constraint_begins constraint)) _ _ c.loop-turn.found c.loop-turn.tokens _ c.loop-turn.invariant c.in_ok-next.next c.constraint.new.tokens c.loop-turn-test.true seen read in
    search (rules, e)

pub returns : goal.returns
unfolding constraints
returns c =
    let e = ends constraint_begins (reading (led constraint_begins constraint)) _ _ c.loop-turn.found c.loop-turn.tokens _ c.loop-turn.invariant c.loop-turn-test.false in
    simp steps (search (rules, e))
