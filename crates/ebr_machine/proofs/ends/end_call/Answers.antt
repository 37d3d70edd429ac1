use Rattle.std.proofs.Common.{◌≡◌, true, rules}
use Rattle.ebr_memory.specs.Levels.{with_top}
use Rattle.ebr_running.specs.Rest.{part_in}
use Rattle.ebr_machine.specs.inside.Callees.{called_from, leaves, gives}
use Rattle.ebr_machine.proofs.Ended.{call_left}
use Rattle.ebr_machine.proofs.ends.end_call.Goals as goal

pub returns : goal.returns
returns c =
    let m = c.args.run.now in
    let k = called_from c.args.unit.now c.args.place c.args.results c.args.frames_left in
    let l : leaves m.flow ≡ true = search rules in
    let kept : c.keep_given.new.operands ≡ with_top (gives (part_in k.unit k.place) m.operands.top m.variables.top) m.operands = search rules in
    call_left m c.go_back.new.run k c.keep_given.new.operands l kept c.go_back.ensures
