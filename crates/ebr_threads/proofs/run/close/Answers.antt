use Rattle.std.proofs.Common.{sym, subst}
use Rattle.ebr_threads.specs.Booking.{IsTold}
use Rattle.ebr_threads.proofs.Living.{is_told}
use Rattle.ebr_threads.proofs.run.close.Goals as goal

pub returns-clause-told : goal.returns-clause-told
returns-clause-told g c = subst (λ e. IsTold e.history c.args.last.view) (sym c.into_engine.ensures.same) (is_told c.args.turn.base c.close.result c.args.last.view c.requires.first c.close.ensures)
