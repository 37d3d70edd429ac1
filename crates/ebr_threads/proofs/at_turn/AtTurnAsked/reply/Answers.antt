use Rattle.std.proofs.Common.{◌∙◌}
use Rattle.ebr_threads.proofs.Living.{may_again}
use Rattle.ebr_threads.proofs.at_turn.AtTurnAsked.reply.Goals as goal

pub returns-clause-again : goal.returns-clause-again
returns-clause-again g c = λ going. (c.take_turn.ensures.turn ∙ c.requires.may.0, may_again g.N.Naming.sessions _ _ _ _ _ _ c.requires.few c.requires.may.1 c.take_turn.ensures.asked going)
