use Rattle.std.proofs.Common.{◌≡◌, ◌≢◌, true, false, None, Some, rules}
use Rattle.ebr_grammar.specs.declared.tokens.ReadStop.TheVariants.{NoMemory}
use Rattle.ebr_grammar.specs.Forms.{sees}
use Rattle.ebr_grammar.specs.Grammar.{led}
use Rattle.ebr_grammar.proofs.Steps.{steps}
use Rattle.ebr_grammar.proofs.Loops.{stops, ends, goes_on, fails}
use Rattle.ebr_plparse.specs.Productions.{reads_by}
use Rattle.ebr_plparse.specs.Packages.{item_begins, package_item, package_items}
use Rattle.ebr_plparse.proofs.packages.package_items.Goals as goal

pub returns-then-not-sees_item : goal.returns-then-not-sees_item
unfolding package_items
returns-then-not-sees_item c =
    let unseen : sees item_begins c.loop-turn.tokens ≡ false = search rules in
    let e = stops item_begins (reads_by (led item_begins package_item)) _ _ c.loop-turn.found c.loop-turn.tokens _ c.loop-turn.invariant unseen in
    simp steps (search (rules, e))

pub returns-in_err-next : goal.returns-in_err-next
unfolding package_items
returns-in_err-next c =
    let seen : sees item_begins c.loop-turn.tokens ≡ true = search rules in
    let none : c.in_err-next.field-0.0 ≢ NoMemory → reads_by (led item_begins package_item) c.loop-turn.tokens ≡ None = λ x. simp steps (search (rules, c.in_err-next.ensures x)) in
    let e = λ (x : c.in_err-next.field-0.0 ≢ NoMemory). fails item_begins (reads_by (led item_begins package_item)) _ _ c.loop-turn.found c.loop-turn.tokens _ c.loop-turn.invariant c.loop-turn-test.true seen (none x) in
    simp steps (search (rules, e))

pub loop-turn-preserved : goal.loop-turn-preserved
loop-turn-preserved c =
    let seen : sees item_begins c.loop-turn.tokens ≡ true = search rules in
    let read : reads_by (led item_begins package_item) c.loop-turn.tokens ≡ Some (c.in_ok-next.next, c.package_item.new.tokens) = simp steps (search rules) in
    let e = goes_on item_begins (reads_by (led item_begins package_item)) _ _ c.loop-turn.found c.loop-turn.tokens _ c.loop-turn.invariant c.in_ok-next.next c.package_item.new.tokens c.loop-turn-test.true seen read in
    search (rules, e)

pub returns : goal.returns
unfolding package_items
returns c =
    let e = ends item_begins (reads_by (led item_begins package_item)) _ _ c.loop-turn.found c.loop-turn.tokens _ c.loop-turn.invariant c.loop-turn-test.false in
    simp steps (search (rules, e))
