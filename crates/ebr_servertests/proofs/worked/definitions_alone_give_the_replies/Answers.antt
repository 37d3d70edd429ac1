use Rattle.ebr_servertests.proofs.Replayed.{nothing_gives, calls_give, upgrade_gives}
use Rattle.ebr_servertests.proofs.worked.definitions_alone_give_the_replies.Goals as goal

pub returns-clause-nothing : goal.returns-clause-nothing
returns-clause-nothing c = nothing_gives

pub returns-clause-calls : goal.returns-clause-calls
returns-clause-calls c = calls_give

pub returns-clause-upgrade : goal.returns-clause-upgrade
returns-clause-upgrade c = upgrade_gives
