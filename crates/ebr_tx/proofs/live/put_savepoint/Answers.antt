use Rattle.std.proofs.Common.{sym, ap, subst, refl, ◌∙◌}
use Rattle.std.specs.List.{position_or_len}
use Rattle.ebr_tx.specs.Calls.{with_savepoint}
use Rattle.ebr_tx.specs.inside.Filed.{FiledTransaction, is_live, IsFiledBy}
use Rattle.ebr_tx.proofs.LiveLemmas.{put, stays_filed, kept_filed}
use Rattle.ebr_tx.proofs.live.put_savepoint.Goals as goal

pub returns-clause-ok : goal.returns-clause-ok
returns-clause-ok c =
    put c.args.t (with_savepoint c.args.savepoint) c.args.live.now.items c.place_of-at.result c.index_mut.result.now c.put_savepoint.new.self
    (c.place_of-at.ensures.place ∙ ap (position_or_len (is_live c.args.t)) c.as_slice.ensures.value) c.index_mut.ensures.value (ap (λ (x : FiledTransaction). x.transaction) c.in_ok-put_savepoint.ensures.ok)

pub returns-clause-filed : goal.returns-clause-filed
returns-clause-filed c = λ tables all. stays_filed tables c.args.live.now.items c.as_slice.result.now c.place_of-at.result c.index_mut.result.now c.put_savepoint.new.self
    c.place_of-at.ensures.within c.as_slice.ensures.value c.index_mut.ensures.value (λ f. subst (IsFiledBy tables) (sym c.in_ok-put_savepoint.ensures.ok) (kept_filed tables c.index_mut.result.now (with_savepoint c.args.savepoint c.index_mut.result.now.transaction) refl f)) all

pub returns-in_err-put_savepoint-clause-filed : goal.returns-in_err-put_savepoint-clause-filed
returns-in_err-put_savepoint-clause-filed c = λ tables all. stays_filed tables c.args.live.now.items c.as_slice.result.now c.place_of-at.result c.index_mut.result.now c.put_savepoint.new.self
    c.place_of-at.ensures.within c.as_slice.ensures.value c.index_mut.ensures.value (λ f. subst (IsFiledBy tables) (sym c.in_err-put_savepoint.ensures.err) f) all
