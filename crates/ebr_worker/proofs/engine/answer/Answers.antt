use Rattle.ebr_worker.proofs.Replying.{fit_ask, replies}
use Rattle.ebr_worker.proofs.engine.answer.Goals as goal

pub answer-answer-requires-clause-fit : goal.answer-answer-requires-clause-fit
answer-answer-requires-clause-fit g c = fit_ask _ c.requires.fit

pub returns : goal.returns
returns g c = replies g.K.Keep.as_keeper _ _ _ _ _ c.requires.seat c.answer-answer.ensures.answers _ _ c.take_book-book.ensures.taken c.take_book-book.ensures.book
