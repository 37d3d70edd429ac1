use Rattle.std.proofs.Common.{◌≡◌, true, rules}
use Rattle.ebr_machine.specs.inside.Rows.{Ran, is_normal}
use Rattle.ebr_machine.proofs.Row.{normal_at}
use Rattle.ebr_machine.proofs.Turning.{only_step, step_on}
use Rattle.ebr_machine.proofs.loops.stepped.Goals as goal

pub returns-then-not-is_normal : goal.returns-then-not-is_normal
returns-then-not-is_normal c = only_step c.args.run.now c.step.new.self c.args.body.now c.in_ok-step.ensures

pub returns : goal.returns
returns c =
    let mid = c.step.new.self in
    let n : is_normal mid.flow ≡ true = search rules in
    let r : Ran mid c.row.new.run 0 c.in_ok-row.field-0 c.args.body.now = search rules in
    step_on c.args.run.now mid c.row.new.run c.in_ok-row.field-0 c.args.body.now (normal_at mid.flow n) c.in_ok-step.ensures r
