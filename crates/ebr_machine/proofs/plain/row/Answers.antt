use Rattle.std.proofs.Common.{◌≡◌, true, rules, subst}
use Rattle.ebr_code.specs.Instructions.{meaning_of}
use Rattle.ebr_machine.specs.inside.Rows.{IfDone, is_normal}
use Rattle.ebr_machine.proofs.Row.{normal_at, ran_more}
use Rattle.ebr_machine.proofs.plain.row.Goals as goal

pub loop-at-preserved : goal.loop-at-preserved
loop-at-preserved c =
    let m = c.loop-at.run in
    let b : is_normal m.flow ≡ true = search rules in
    let d : c.in_ok-done.field-0 ≡ true = search rules in
    ran_more c.args.run.now m c.done.new.run c.args.place c.loop-at.at c.args.body.now c.in-Some.instruction.now c.in-Some.ensures.value (normal_at m.flow b) c.loop-at.invariant (subst (λ b. IfDone b m c.done.new.run (meaning_of c.in-Some.instruction.now)) d c.in_ok-done.ensures)
