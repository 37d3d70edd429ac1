use Rattle.std.proofs.Common.{length, subst, sym}
use Rattle.ebr_core.specs.Engine.{EngineState, database_of}
use Rattle.ebr_core.specs.History.{IsLive}
use Rattle.ebr_worker.specs.Paced.{IsSession}
use Rattle.ebr_threads.specs.Booking.{IsOfRun}
use Rattle.ebr_threads.proofs.Living.{of_run_on}
use Rattle.ebr_threads.proofs.desk.Desk.answer.Goals as goal

pub answer-requires-clause-seat : goal.answer-requires-clause-seat
answer-requires-clause-seat g c =
    subst (λ (e : EngineState g.row.K.Denot). IsSession (length e.books) c.args.session) (sym c.self.view_is) (c.requires.seat (subst (IsOfRun g.K.Keep.as_keeper g.N.Naming.recovered g.N.Naming.sessions g.N.Naming.keeper) c.self.view_is c.self.invariant))

pub answer-requires-clause-live : goal.answer-requires-clause-live
answer-requires-clause-live g c =
    subst (λ (e : EngineState g.row.K.Denot). IsLive (database_of e) c.args.session) (sym c.self.view_is) (c.requires.live (subst (IsOfRun g.K.Keep.as_keeper g.N.Naming.recovered g.N.Naming.sessions g.N.Naming.keeper) c.self.view_is c.self.invariant))

pub invariant_of-self : goal.invariant_of-self
invariant_of-self g c = of_run_on g.K.Keep.as_keeper _ _ _ c.self.inside.engine c.answer.new.engine c.self.invariant _ _ _ _ c.answer.ensures
