use Rattle.std.proofs.Common.{Ok}
use Rattle.ebr_database.proofs.Keeping.{stays}
use Rattle.ebr_statements.proofs.Within.{back_within, pop_within, rollback_within, savepoint_within, stays_back, stays_committed, stays_rolled_back, stays_saved}
use Rattle.ebr_statements.proofs.asks.within.Goals as goal

pub returns-in-Commit-clause-opened : goal.returns-in-Commit-clause-opened
returns-in-Commit-clause-opened g c = λ under.
    stays_committed c.args.t c.args.top c.args.opened.now c.requires.some c.requires.top c.args.tx.now.contents c.commit.new.tx.contents under
    (g.K.Keep.as_keeper c.args.keeper.now) (g.K.Keep.as_keeper c.commit.new.keeper) c.commit.result c.commit.ensures.exact c.commit.ensures.unchanged

pub returns-in-Rollback-clause-exact : goal.returns-in-Rollback-clause-exact
returns-in-Rollback-clause-exact g c =
    rollback_within c.args.top c.args.ask.now c.args.tx.now.contents c.roll_back.new.tx.contents (g.K.Keep.as_keeper c.args.keeper.now) (Ok tt) c.in-Rollback.is c.roll_back.ensures.exact

pub returns-in-Rollback-clause-opened : goal.returns-in-Rollback-clause-opened
returns-in-Rollback-clause-opened g c = λ under.
    stays_rolled_back c.args.t c.args.top c.args.opened.now c.requires.some c.requires.top c.args.tx.now.contents c.roll_back.new.tx.contents under (Ok tt) c.roll_back.ensures.exact

pub returns-in-Ok-clause-exact : goal.returns-in-Ok-clause-exact
returns-in-Ok-clause-exact g c =
    savepoint_within c.args.top c.args.ask.now c.args.tx.now.contents c.set_savepoint.new.tx.contents (g.K.Keep.as_keeper c.args.keeper.now) _ (Ok tt) c.in-Savepoint.is c.in-Ok.ensures.left

pub returns-in-Ok-clause-opened : goal.returns-in-Ok-clause-opened
returns-in-Ok-clause-opened g c = λ under.
    stays_saved c.args.t c.args.top c.args.opened.now c.requires.some c.requires.top c.args.tx.now.contents c.set_savepoint.new.tx.contents under c.in-Savepoint.name (Ok tt) c.in-Ok.ensures.left

pub returns-in-Err-clause-exact : goal.returns-in-Err-clause-exact
returns-in-Err-clause-exact g c = stays (g.K.Keep.as_keeper c.args.keeper.now) _

pub returns-in-BackTo-clause-exact : goal.returns-in-BackTo-clause-exact
returns-in-BackTo-clause-exact g c =
    back_within c.args.top c.args.ask.now c.args.tx.now.contents c.back_to.new.tx.contents (g.K.Keep.as_keeper c.args.keeper.now) _ c.back_to.result c.answered.result c.answered.ensures c.in-BackTo.is c.back_to.ensures.exact

pub returns-in-BackTo-clause-opened : goal.returns-in-BackTo-clause-opened
returns-in-BackTo-clause-opened g c = λ under.
    stays_back c.args.t c.args.top c.args.opened.now c.requires.some c.requires.top c.args.tx.now.contents c.back_to.new.tx.contents under c.in-BackTo.name c.back_to.result c.back_to.ensures.exact

pub returns-in-PopAuto-clause-exact : goal.returns-in-PopAuto-clause-exact
returns-in-PopAuto-clause-exact g c =
    pop_within c.args.top c.args.ask.now c.args.tx.now.contents c.pop.new.tx.contents (g.K.Keep.as_keeper c.args.keeper.now) c.args.t c.args.opened.now c.in-PopAuto.failed c.pop.result
    c.answered-in-PopAuto.result c.answered-in-PopAuto.ensures c.requires.top c.in-PopAuto.is c.pop.ensures.left
