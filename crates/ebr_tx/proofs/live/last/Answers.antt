use Rattle.std.proofs.Common.{◌∙◌}
use Rattle.ebr_versions.proofs.DataLemmas.{find-reverse}
use Rattle.ebr_tx.specs.Data.{is_of_session}
use Rattle.ebr_tx.specs.inside.Filed.{FiledTransaction}
use Rattle.ebr_tx.proofs.live.last.Goals as goal

pub returns : goal.returns
returns c = c.last_found.ensures ∙ find-reverse (λ (x : FiledTransaction). is_of_session c.args.s x.transaction.id) c.args.live.now
