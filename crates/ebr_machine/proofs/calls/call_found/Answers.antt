use Rattle.std.proofs.Common.{◌≡◌, ◌<◌, true, take, reverse, Some, None, map, rules, arith}
use Rattle.ebr_run.specs.Calls.{agrees}
use Rattle.ebr_code.specs.Runs.{formal, part_of}
use Rattle.ebr_machine.specs.inside.Callees.{GoesAs, first_unfit, with_arguments, with_subprogram}
use Rattle.ebr_machine.proofs.Called.{call_unfit, call_enters}
use Rattle.ebr_machine.proofs.calls.call_found.Goals as goal

pub returns-in-Some : goal.returns-in-Some
returns-in-Some c book there =
    let m = c.args.run.now in
    let f = c.args.callee.now in
    let s = c.args.found.now in
    let h : 0 < m.frames_left = omega arith in
    let e : agrees f (part_of s) ≡ true = search rules in
    let u : Some c.in-Some.code ≡ first_unfit (map formal s.parameters) (reverse (take f.arguments m.operands.top)) = search rules in
    call_unfit book m c.raise-in-Some.new.self (part_of s) f c.in-Some.code h e u c.raise-in-Some.ensures.moves

pub returns-in_ok-run_called-in-None : goal.returns-in_ok-run_called-in-None
returns-in_ok-run_called-in-None c book there =
    let m = c.args.run.now in
    let f = c.args.callee.now in
    let s = c.args.found.now in
    let h : 0 < m.frames_left = omega arith in
    let e : agrees f (part_of s) ≡ true = search rules in
    let u : None ≡ first_unfit (map formal s.parameters) (reverse (take f.arguments m.operands.top)) = search rules in
    let w : GoesAs book c.run_called.new.run (with_subprogram c.args.unit.now f m.frames_left s (with_arguments f.arguments m)) = search rules in
    call_enters book m c.run_called.new.run c.args.unit.now s f h e u there w
