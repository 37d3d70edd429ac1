use Rattle.ebr_machine.specs.Has.{new_row_of}
use Rattle.ebr_statements.specs.inside.Held.{ready_of}
use Rattle.ebr_statements.proofs.Leaving.{row_length}
use Rattle.ebr_statements.proofs.cycle.ended.Goals as goal

pub returns-in_ok-new_row-in-Returned-clause-columns : goal.returns-in_ok-new_row-in-Returned-clause-columns
returns-in_ok-new_row-in-Returned-clause-columns c =
    row_length c.args.op (ready_of c.args.r.now) c.args.new (new_row_of c.args.course.now.machine) c.in_ok-new_row-in-Returned.field-0 c.in_ok-new_row-in-Returned.ensures
