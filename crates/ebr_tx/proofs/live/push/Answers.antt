use Rattle.std.proofs.Common.{sym, ap, subst, ◌∙◌}
use Rattle.std.specs.List.{position_or_len}
use Rattle.std.proofs.Common.{◌++◌, ◌∷◌, [], ◌≤◌}
use Rattle.ebr_tx.specs.Data.{Transaction}
use Rattle.ebr_tx.specs.Limits.{max_record, record_length}
use Rattle.ebr_tx.specs.Calls.{with_change}
use Rattle.ebr_tx.specs.inside.Filed.{FiledTransaction, is_live, IsFiledBy}
use Rattle.ebr_tx.proofs.LiveLemmas.{own-at, push_filed, put, stays_filed}
use Rattle.ebr_tx.proofs.live.push.Goals as goal

pub push-requires : goal.push-requires
push-requires c =
    subst (λ (x : Transaction). record_length (x.changes ++ c.args.c ∷ []) ≤ max_record)
    (sym (own-at c.args.t c.args.live.now.items c.place_of-at.result c.index_mut.result.now c.requires.live (c.place_of-at.ensures.place ∙ ap (position_or_len (is_live c.args.t)) c.as_slice.ensures.value) c.index_mut.ensures.value)) c.requires.short

pub returns-clause-ok : goal.returns-clause-ok
returns-clause-ok c =
    put c.args.t (with_change c.args.c) c.args.live.now.items c.place_of-at.result c.index_mut.result.now c.push.new.self
    (c.place_of-at.ensures.place ∙ ap (position_or_len (is_live c.args.t)) c.as_slice.ensures.value) c.index_mut.ensures.value (ap (λ (x : FiledTransaction). x.transaction) c.in_ok-push.ensures.ok)

pub returns-clause-filed : goal.returns-clause-filed
returns-clause-filed c = λ tables is added all. stays_filed tables c.args.live.now.items c.as_slice.result.now c.place_of-at.result c.index_mut.result.now c.push.new.self
    c.place_of-at.ensures.within c.as_slice.ensures.value c.index_mut.ensures.value (λ f. subst (IsFiledBy tables) (sym c.in_ok-push.ensures.ok) (push_filed tables c.index_mut.result.now c.args.c c.args.print is added f)) all

pub returns-in_err-push-clause-filed : goal.returns-in_err-push-clause-filed
returns-in_err-push-clause-filed c = λ tables is added all. stays_filed tables c.args.live.now.items c.as_slice.result.now c.place_of-at.result c.index_mut.result.now c.push.new.self
    c.place_of-at.ensures.within c.as_slice.ensures.value c.index_mut.ensures.value (λ f. subst (IsFiledBy tables) (sym c.in_err-push.ensures.err) f) all
