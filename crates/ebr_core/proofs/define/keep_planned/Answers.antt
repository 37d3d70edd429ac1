use Rattle.ebr_core.proofs.Recording.{not_kept, planned_kept}
use Rattle.ebr_core.proofs.define.keep_planned.Goals as goal

pub returns-in_err-r : goal.returns-in_err-r
returns-in_err-r g c = not_kept c.args.planned.now (g.K.Keep.as_keeper c.args.keeper.now).used (g.K.Keep.as_keeper c.args.keeper.now) c.from_residual.result c.from_residual.ensures.1

pub returns : goal.returns
returns g c =
    planned_kept c.args.planned.now c.in_ok-r.r (g.K.Keep.as_keeper c.args.keeper.now).used (g.K.Keep.as_keeper c.keep_record.new.keeper).used (g.K.Keep.as_keeper c.args.keeper.now)
    (g.K.Keep.as_keeper c.keep_record.new.keeper) c.keep_record.result c.in_ok-r.ensures.record c.keep_record.ensures
