use Rattle.std.proofs.Common.{◌+◌, List, ◌++◌, ◌∷◌, [], ap, ◌∙◌}
use Rattle.ebr_base.specs.declared.row.TxId.{TxId}
use Rattle.ebr_tx.specs.Data.{Transaction, named_at, not_begun}
use Rattle.ebr_tx.specs.inside.Filed.{FiledTransaction}
use Rattle.ebr_tx.proofs.LiveLemmas.{opened, opened_filed}
use Rattle.ebr_tx.proofs.Stays.{first-more}
use Rattle.ebr_tx.proofs.live.first.Goals as goal

pub loop-i-preserved : goal.loop-i-preserved
loop-i-preserved c =
    let id : TxId = named_at (record { 0 = c.loop-i.i + 1 }) 0 in
    let is = c.in_ok-push.ensures.items ∙ ap (λ (x : FiledTransaction). c.loop-i.live.items ++ x ∷ []) c.new.ensures in
    record {
      transactions = opened c.loop-i.live.items c.push.new.self.items id is ∙ ap (λ (ts : List Transaction). ts ++ not_begun id ∷ []) c.loop-i.invariant.transactions ∙ first-more c.loop-i.i;
      filed = λ tables. opened_filed tables c.loop-i.live.items c.push.new.self.items id is (c.loop-i.invariant.filed tables);
    }
