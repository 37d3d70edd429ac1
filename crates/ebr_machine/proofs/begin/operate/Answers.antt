use Rattle.ebr_code.specs.Instructions.{operate}
use Rattle.ebr_running.proofs.Moving.{computes_acts}
use Rattle.ebr_machine.proofs.begin.operate.Goals as goal

pub returns-in_ok-plain-in_default : goal.returns-in_ok-plain-in_default
returns-in_ok-plain-in_default g c = computes_acts c.args.run.now c.plain.new.run (operate c.args.operation.now) c.in_ok-plain-in_default.ensures (g.B.CodeBook.answers c.args.book.now c.args.edition)
