use Rattle.std.proofs.Common.{sym, ap, subst, refl, ◌∙◌}
use Rattle.std.specs.List.{position_or_len}
use Rattle.ebr_tx.specs.Data.{Transaction}
use Rattle.ebr_tx.specs.Calls.{ended}
use Rattle.ebr_tx.specs.inside.Filed.{FiledTransaction, is_live, IsFiledBy}
use Rattle.ebr_tx.proofs.LiveLemmas.{own-at, empty_filed, put, stays_filed}
use Rattle.ebr_tx.proofs.live.end.Goals as goal

pub returns-clause-ended : goal.returns-clause-ended
returns-clause-ended c =
    put c.args.t (ended) c.args.live.now.items c.place_of-at.result c.index_mut.result.now c.end.new.self
    (c.place_of-at.ensures.place ∙ ap (position_or_len (is_live c.args.t)) c.as_slice.ensures.value) c.index_mut.ensures.value (ap (λ (x : FiledTransaction). x.transaction) c.end.ensures.ended)

pub returns-clause-changes : goal.returns-clause-changes
returns-clause-changes c =
    c.end.ensures.changes
    ∙ ap (λ (x : Transaction). x.changes) (own-at c.args.t c.args.live.now.items c.place_of-at.result c.index_mut.result.now c.requires (c.place_of-at.ensures.place ∙ ap (position_or_len (is_live c.args.t)) c.as_slice.ensures.value) c.index_mut.ensures.value)

pub returns-clause-filed : goal.returns-clause-filed
returns-clause-filed c = λ tables all. stays_filed tables c.args.live.now.items c.as_slice.result.now c.place_of-at.result c.index_mut.result.now c.end.new.self
    c.place_of-at.ensures.within c.as_slice.ensures.value c.index_mut.ensures.value (λ f. subst (IsFiledBy tables) (sym c.end.ensures.ended) (empty_filed tables (ended c.index_mut.result.now.transaction) refl)) all
