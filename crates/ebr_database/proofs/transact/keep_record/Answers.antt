use Rattle.std.proofs.Common.{sym, subst}
use Rattle.ebr_database.specs.Transact.{keep_record}
use Rattle.ebr_database.specs.Shows.{Shows}
use Rattle.ebr_database.proofs.Kept.{keep_shows}
use Rattle.ebr_database.proofs.transact.keep_record.Goals as goal

pub returns : goal.returns
returns g c =
    subst (λ r. Shows (keep_record c.args.r.now (g.K.Keep.as_keeper c.args.keeper.now).used) (g.K.Keep.as_keeper c.keep.new.self).used (g.K.Keep.as_keeper c.args.keeper.now) (g.K.Keep.as_keeper c.keep.new.self) r) (sym c.failed.ensures)
    (keep_shows (g.K.Keep.as_keeper c.args.keeper.now) (g.K.Keep.as_keeper c.keep.new.self) c.args.r.now c.keep.result (g.K.Keep.leaves_less c.keep.new.self) c.keep.ensures.rest c.keep.ensures.answer c.keep.ensures.after c.keep.ensures.moments)
