use Rattle.ebr_worker.proofs.OverEngine.{may_again, short_before}
use Rattle.ebr_worker.proofs.asked.EngineAsked.reply.Goals as goal

pub answer-requires-clause-short : goal.answer-requires-clause-short
answer-requires-clause-short g c = short_before _ _ _ _ c.requires.may c.requires.short

pub returns-clause-again : goal.returns-clause-again
returns-clause-again g c = may_again g.K.Keep.as_keeper _ _ _ _ _ _ _ c.requires.may c.answer.ensures
