use Rattle.std.proofs.Common.{subst}
use Rattle.std.proofs.lemmas.Result.{on_ok_weaker}
use Rattle.ebr_database.specs.Transact.{savepoint}
use Rattle.ebr_database.specs.Shows.{Leaves}
use Rattle.std.proofs.Common.{Ok}
use Rattle.ebr_seats.proofs.Live.{top_lives}
use Rattle.ebr_seats.proofs.Asked.{savepoint_reply}
use Rattle.ebr_seats.proofs.transact.savepoint_top.Goals as goal

pub savepoint-requires-clause-live : goal.savepoint-requires-clause-live
savepoint-requires-clause-live c = top_lives c.args.tx.now.contents c.args.seats.now c.args.s c.requires c.top_of-t.result c.top_of-t.ensures

pub returns-clause-exact : goal.returns-clause-exact
returns-clause-exact c = λ used db x h there.
    on_ok_weaker c.savepoint.result
    (λ left. savepoint_reply used c.args.tx.now.contents c.args.seats.now db c.args.s x h there (c.asks_are_read_back.ensures db) c.top_of-t.result c.top_of-t.ensures
    c.savepoint.new.tx.contents c.savepoint.ensures.stacks c.savepoint.ensures.storable c.args.name.now
    (subst (λ name. Leaves (savepoint c.top_of-t.result name) c.args.tx.now.contents c.savepoint.new.tx.contents (Ok tt)) c.in_ok-name.ensures left))
    c.savepoint.ensures.exact
