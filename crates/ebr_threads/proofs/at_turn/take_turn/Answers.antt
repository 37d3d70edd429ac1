use Rattle.std.proofs.Common.{ap}
use Rattle.ebr_asks.specs.declared.entry.Exchange.{Exchange}
use Rattle.ebr_turn.specs.declared.view.View.{View}
use Rattle.ebr_threads.proofs.Living.{has_asked, may_at, may_enter, may_leave, short_at}
use Rattle.ebr_threads.proofs.at_turn.take_turn.Goals as goal

pub enter-desk-requires-clause-idle : goal.enter-desk-requires-clause-idle
enter-desk-requires-clause-idle g c = ap (λ (v : View Exchange). v.stage) c.requires.may.chair

pub enter-desk-requires-clause-left : goal.enter-desk-requires-clause-left
enter-desk-requires-clause-left g c = may_enter _ _ _ _ c.requires.few c.requires.may

pub answer-answer-requires-clause-seat : goal.answer-answer-requires-clause-seat
answer-answer-requires-clause-seat g c = λ run. (may_at _ _ _ _ c.requires.may g.K.Keep.as_keeper _ _ _ c.enter-desk.ensures.met run).is_session

pub answer-answer-requires-clause-live : goal.answer-answer-requires-clause-live
answer-answer-requires-clause-live g c = λ run. (may_at _ _ _ _ c.requires.may g.K.Keep.as_keeper _ _ _ c.enter-desk.ensures.met run).live

pub answer-answer-requires-clause-short : goal.answer-answer-requires-clause-short
answer-answer-requires-clause-short g c = short_at {K = g.row.K.Denot} _ _ _ _ c.requires.may c.enter-desk.result _ c.enter-desk.ensures.met c.requires.short

pub leave-requires-clause-entry : goal.leave-requires-clause-entry
leave-requires-clause-entry g c = may_leave _ _ _ _ c.requires.may g.K.Keep.as_keeper _ _ _ _ _ c.enter-desk.ensures.chair c.answer-answer.ensures.adds

pub returns-clause-asked : goal.returns-clause-asked
returns-clause-asked g c = has_asked _ _ _ _ c.requires.may g.K.Keep.as_keeper _ _ _ _ _ _ c.enter-desk.ensures.chair c.answer-answer.ensures.adds c.leave.ensures.left
