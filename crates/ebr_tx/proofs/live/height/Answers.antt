use Rattle.std.proofs.Common.{length, ap, sym, ◌∙◌}
use Rattle.std.specs.Prelude.{filter}
use Rattle.std.proofs.lemmas.List.{length-map}
use Rattle.ebr_tx.specs.Data.{is_of_session}
use Rattle.ebr_tx.specs.inside.Filed.{FiledTransaction}
use Rattle.ebr_tx.proofs.LiveLemmas.{stack-is}
use Rattle.ebr_tx.proofs.live.height.Goals as goal

pub returns : goal.returns
returns c =
    c.count_of.ensures
    ∙ sym (length-map (filter (λ (x : FiledTransaction). is_of_session c.args.s x.transaction.id) c.args.live.now) (λ (x : FiledTransaction). x.transaction.id))
    ∙ ap length (sym (stack-is c.args.s c.args.live.now))
