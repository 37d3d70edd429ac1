use Rattle.std.proofs.Common.{◌+◌, rules}
use Rattle.ebr_code.specs.Instructions.{meaning_of}
use Rattle.ebr_machine.specs.inside.Rows.{LeavesRest}
use Rattle.ebr_machine.proofs.Laws.{run_at, run_past}
use Rattle.ebr_machine.proofs.Row.{before_rest}
use Rattle.ebr_machine.proofs.begin.begin_at.Goals as goal

pub returns-in-None : goal.returns-in-None
returns-in-None g c asks given = rw (run_past c.args.body.now c.args.place _ _ c.in-None.ensures) (search rules)

pub returns-in_ok-begin-in-Some : goal.returns-in_ok-begin-in-Some
returns-in_ok-begin-in-Some g c asks given =
    let i = c.in-Some.instruction.now in
    let l : LeavesRest c.args.run.now c.leave_rest.new.run c.args.body.now (c.args.place + 1) = search rules in
    rw (run_at c.args.body.now c.args.place i _ _ c.in-Some.ensures)
    (before_rest (g.B.CodeBook.answers c.args.book.now c.args.edition) c.args.run.now c.leave_rest.new.run c.begin.new.run c.args.body.now (c.args.place + 1) (meaning_of i) l c.in_ok-begin-in-Some.ensures asks given)
