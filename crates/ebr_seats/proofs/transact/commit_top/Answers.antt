use Rattle.std.proofs.Common.{refl, subst, sym, Ok, Err}
use Rattle.std.proofs.lemmas.Result.{err_from_is_err_and}
use Rattle.ebr_database.specs.Database.{as_answer, reply_commit}
use Rattle.ebr_seats.specs.Seats.{Goes}
use Rattle.ebr_seats.proofs.Live.{top_lives, has_seat}
use Rattle.ebr_seats.proofs.Asked.{IsTop, committed, commit_reply}
use Rattle.ebr_seats.proofs.Replies.{held}
use Rattle.ebr_seats.proofs.transact.commit_top.Goals as goal

pub commit-requires-clause-live : goal.commit-requires-clause-live
commit-requires-clause-live g c =
    top_lives c.args.tx.now.contents c.args.seats.now.items c.args.s c.requires c.top_of-t.result
    (subst (λ ss. IsTop ss c.args.s c.top_of-t.result) c.as_slice.ensures.value c.top_of-t.ensures)

pub returns-in_err-commit : goal.returns-in_err-commit
returns-in_err-commit g c =
    let p = err_from_is_err_and c.from_residual.result c.from_residual.ensures.1 in rw (p.1, p.2)
    (λ used db x h there same.
    commit_reply used c.args.tx.now.contents c.args.seats.now.items db c.args.s x h there (c.asks_are_read_back.ensures db) c.top_of-t.result
    (subst (λ ss. IsTop ss c.args.s c.top_of-t.result) c.as_slice.ensures.value c.top_of-t.ensures)
    c.commit.new.tx.contents c.commit.ensures.stacks c.commit.ensures.storable (g.K.Keep.as_keeper c.args.keeper.now) (g.K.Keep.as_keeper c.commit.new.keeper) same
    (Err c.in_err-commit.field-0.0) c.args.seats.now.items c.in_err-commit.ensures.unchanged refl tt c.in_err-commit.ensures.exact)

pub end_mark-requires : goal.end_mark-requires
end_mark-requires g c = has_seat c.args.tx.now.contents c.args.seats.now.items c.args.s c.requires

pub returns : goal.returns
returns g c = λ used db x h there same.
    let sd = held used c.args.tx.now.contents c.args.seats.now.items db c.args.s x h there in
    subst (λ ss. Goes (g.K.Keep.as_keeper c.args.keeper.now) (g.K.Keep.as_keeper c.commit.new.keeper) c.commit.new.tx.contents ss (as_answer (Ok tt)) (reply_commit db c.args.s x)) (sym (c.end_mark.ensures sd.seat sd.there))
    (committed used c.args.tx.now.contents c.args.seats.now.items db c.args.s x h there (c.asks_are_read_back.ensures db) c.top_of-t.result
    (subst (λ ss. IsTop ss c.args.s c.top_of-t.result) c.as_slice.ensures.value c.top_of-t.ensures)
    c.commit.new.tx.contents c.commit.ensures.stacks c.commit.ensures.storable (g.K.Keep.as_keeper c.args.keeper.now) (g.K.Keep.as_keeper c.commit.new.keeper) same tt
    c.in_ok-commit.ensures.exact)
