use Rattle.std.proofs.Common.{not, ◌&&◌, sym, ◌∙◌}
use Rattle.ebr_tx.specs.Data.{Transaction, is_named}
use Rattle.ebr_tx.specs.Conflicts.{changes_row_by}
use Rattle.ebr_tx.specs.inside.Filed.{FiledTransaction}
use Rattle.ebr_tx.proofs.LiveLemmas.{any-map}
use Rattle.ebr_tx.proofs.live.others_change.Goals as goal

pub returns : goal.returns
returns c = c.some_changes.ensures ∙ sym (any-map (λ (x : FiledTransaction). x.transaction) (λ (x : Transaction). not (is_named c.args.t x) && changes_row_by c.args.row x) c.args.live.now)
