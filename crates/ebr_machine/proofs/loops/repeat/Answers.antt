use Rattle.std.proofs.Common.{◌≡◌, Bool, true, false, rules, subst}
use Rattle.ebr_machine.specs.inside.Turns.{Turned, loop_in}
use Rattle.ebr_machine.proofs.Turning.{turns_on}
use Rattle.ebr_machine.proofs.loops.repeat.Goals as goal

pub returns-then-not-branch : goal.returns-then-not-branch
returns-then-not-branch c =
    let old = c.args.run.now in
    let m = c.turns.run in
    let new = c.turn.new.run in
    let head = c.args.head.now in
    let body = c.args.body.now in
    let e : c.in_ok-turn.field-0 ≡ false = search rules in
    turns_on false old m new head body c.turns.invariant (subst (λ (b : Bool). Turned b m new head body loop_in) e c.in_ok-turn.ensures)

pub turns-preserved : goal.turns-preserved
turns-preserved c =
    let old = c.args.run.now in
    let m = c.turns.run in
    let new = c.turn.new.run in
    let head = c.args.head.now in
    let body = c.args.body.now in
    let e : c.in_ok-turn.field-0 ≡ true = search rules in
    turns_on true old m new head body c.turns.invariant (subst (λ (b : Bool). Turned b m new head body loop_in) e c.in_ok-turn.ensures)
