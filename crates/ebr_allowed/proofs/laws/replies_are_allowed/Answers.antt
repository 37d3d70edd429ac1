use Rattle.ebr_allowed.proofs.ReplyLemmas.{replies_allowed}
use Rattle.ebr_allowed.proofs.laws.replies_are_allowed.Goals as goal

pub returns : goal.returns
returns c = replies_allowed
