use Rattle.std.proofs.Common.{◌≡◌, true, rules}
use Rattle.ebr_machine.specs.inside.Callees.{ends_at}
use Rattle.ebr_machine.specs.inside.Turns.{Stepped, turn_ends}
use Rattle.ebr_machine.proofs.Turning.{turn_again, turn_left}
use Rattle.ebr_machine.proofs.loops.turn_body.Goals as goal

pub returns-then-turn_ends : goal.returns-then-turn_ends
returns-then-turn_ends c =
    let m = c.stepped.new.run in
    let body = c.args.body.now in
    let at = c.in_ok-at.at in
    let h : turn_ends m.flow (ends_at body at) ≡ true = search rules in
    let s : Stepped c.args.run.now m at body = search rules in
    turn_again c.args.run.now m c.args.head.now body at h s

pub returns : goal.returns
returns c =
    let m = c.stepped.new.run in
    let body = c.args.body.now in
    let at = c.in_ok-at.at in
    let s : Stepped c.args.run.now m at body = search rules in
    turn_left c.args.run.now m (record m { tasks = c.push-2.new.self }) c.args.head.now body at (search rules) s
