use Rattle.std.proofs.Common.{◌≡◌, true, rules}
use Rattle.ebr_machine.specs.inside.Callees.{ends_at}
use Rattle.ebr_machine.specs.inside.Rows.{Ran}
use Rattle.ebr_machine.specs.inside.Turns.{turn_ends}
use Rattle.ebr_machine.proofs.Turning.{behind_head, emptied, head_left}
use Rattle.ebr_machine.proofs.loops.turn.Goals as goal

pub returns-then-turn_ends : goal.returns-then-turn_ends
returns-then-turn_ends c =
    let old = c.args.run.now in
    let m = c.row.new.run in
    let head = c.args.head.now in
    let at = c.in_ok-at.at in
    let h : turn_ends m.flow (ends_at head at) ≡ true = search rules in
    let r : Ran (emptied old) m 0 at head = search rules in
    behind_head c.in_ok-turn_body.field-0 old m c.turn_body.new.run head c.args.body.now at h r c.in_ok-turn_body.ensures

pub returns : goal.returns
returns c =
    let old = c.args.run.now in
    let m = c.row.new.run in
    let head = c.args.head.now in
    let at = c.in_ok-at.at in
    let r : Ran (emptied old) m 0 at head = search rules in
    head_left old m (record m { tasks = c.push-2.new.self }) head c.args.body.now at (search rules) r
