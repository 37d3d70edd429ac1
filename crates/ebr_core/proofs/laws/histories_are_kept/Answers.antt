use Rattle.ebr_core.proofs.KeptBehind.{keeps_first, keeps_on}
use Rattle.ebr_core.proofs.laws.histories_are_kept.Goals as goal

pub returns-clause-first : goal.returns-clause-first
returns-clause-first g c = keeps_first g.K.Keep.as_keeper

pub returns-clause-more : goal.returns-clause-more
returns-clause-more g c = keeps_on g.K.Keep.as_keeper
