use Rattle.std.proofs.Common.{◌≡◌, true, false, rules}
use Rattle.ebr_machine.specs.inside.Callees.{LeavesAlike, ends_at, is_over}
use Rattle.ebr_machine.specs.inside.Rows.{Ran}
use Rattle.ebr_machine.proofs.Over.{left_later, over_now}
use Rattle.ebr_machine.proofs.subprograms.run_called.Goals as goal

pub returns-then-is_over : goal.returns-then-is_over
returns-then-is_over c book =
    let m = c.row.new.run in
    let s = c.args.found.now in
    let body = c.unguarded-body.result.now in
    let a : s.autonomous ≡ false = search rules in
    let alike : LeavesAlike body s.code = c.unguarded-body.ensures in
    let o : is_over m.flow s.function (ends_at body c.in_ok-at.at) ≡ true = search rules in
    let r : Ran c.args.run.now m 0 c.in_ok-at.at body = search rules in
    over_now book c.args.run.now m c.end_call.new.run c.args.unit.now c.args.callee.now c.args.frames_left s body c.in_ok-at.at o a alike r (search rules)

pub returns : goal.returns
returns c book =
    let m = c.row.new.run in
    let s = c.args.found.now in
    let body = c.unguarded-body.result.now in
    let a : s.autonomous ≡ false = search rules in
    let alike : LeavesAlike body s.code = c.unguarded-body.ensures in
    let r : Ran c.args.run.now m 0 c.in_ok-at.at body = search rules in
    left_later book c.args.run.now m (record m { tasks = c.push_rest.new.tasks }) c.args.unit.now c.args.callee.now c.args.frames_left s body c.in_ok-at.at (search rules) a alike r
