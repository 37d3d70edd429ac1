use Rattle.std.proofs.Common.{sym, ap, subst, refl, ◌∙◌}
use Rattle.std.specs.List.{position_or_len}
use Rattle.ebr_tx.specs.Calls.{kept_to}
use Rattle.ebr_tx.specs.inside.Filed.{FiledTransaction, is_live, IsFiledBy}
use Rattle.ebr_tx.proofs.LiveLemmas.{cut_filed, put, stays_filed}
use Rattle.ebr_tx.proofs.live.back_to.Goals as goal

pub returns-clause-changed : goal.returns-clause-changed
returns-clause-changed c =
    put c.args.t (kept_to c.args.name.now c.args.changes) c.args.live.now.items c.place_of-at.result c.index_mut.result.now c.back_to.new.self
    (c.place_of-at.ensures.place ∙ ap (position_or_len (is_live c.args.t)) c.as_slice.ensures.value) c.index_mut.ensures.value (ap (λ (x : FiledTransaction). x.transaction) c.back_to.ensures)

pub returns-clause-filed : goal.returns-clause-filed
returns-clause-filed c = λ tables all. stays_filed tables c.args.live.now.items c.as_slice.result.now c.place_of-at.result c.index_mut.result.now c.back_to.new.self
    c.place_of-at.ensures.within c.as_slice.ensures.value c.index_mut.ensures.value (λ f. subst (IsFiledBy tables) (sym c.back_to.ensures) (cut_filed tables c.index_mut.result.now (kept_to c.args.name.now c.args.changes c.index_mut.result.now.transaction) c.args.changes refl f)) all
