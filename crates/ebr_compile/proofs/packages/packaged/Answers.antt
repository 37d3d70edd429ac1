use Rattle.ebr_stmtcode.proofs.Envs.{part_left}
use Rattle.ebr_compile.proofs.packages.packaged.Goals as goal

pub returns-clause-around : goal.returns-clause-around
returns-clause-around c = part_left c.in_ok-next.field-0 c.args.around.now c.enter_part.new.self c.subprogram.new.around c.leave_part.new.self c.in_ok-enter_part.ensures c.in_ok-found.ensures.around c.leave_part.ensures
