use Rattle.ebr_statements.proofs.Beginning.{begins_with}
use Rattle.ebr_statements.proofs.course.begun.Goals as goal

pub returns : goal.returns
returns c = λ w σ served left steps room.
    begins_with w c.args.op c.args.r.now c.args.old.now c.args.new.now σ served c.args.left c.args.tally.now.steps c.args.tally.now.room left steps room
    c.in_ok-machine.machine c.new-3.result c.saturating_sub.result c.in_ok-clone_in.field-0 c.new.result c.in_ok-frame.frame
    c.new-3.ensures c.saturating_sub.ensures c.in_ok-clone_in.ensures c.new.ensures c.in_ok-frame.ensures c.in_ok-machine.ensures.has c.one_meaning.ensures
