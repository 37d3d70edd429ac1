use Rattle.std.proofs.Common.{◌≤◌, ◌↔◌, IsTrue, length, subst}
use Rattle.ebr_core.specs.Engine.{database_of}
use Rattle.ebr_core.specs.History.{IsLive}
use Rattle.ebr_core.proofs.Answering.{in_range, live_is}
use Rattle.ebr_core.proofs.engine.Engine.live.Goals as goal

pub returns-clause-live : goal.returns-clause-live
returns-clause-live g c = subst (λ v. IsTrue c.live.result ↔ IsLive (database_of v) c.args.s) c.self.view_is (live_is g.K.Keep.as_keeper c.self.inside.parts c.args.s c.live.result c.self.invariant.sound c.live.ensures)

pub returns-clause-range : goal.returns-clause-range
returns-clause-range g c =
    subst (λ v. IsTrue c.live.result → (1 ≤ c.args.s.0) × (c.args.s.0 ≤ length v.books)) c.self.view_is
    (in_range g.K.Keep.as_keeper c.self.inside.parts c.args.s c.live.result c.self.invariant.sound c.live.ensures)
