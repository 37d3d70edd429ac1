use Rattle.std.proofs.Common.{subst}
use Rattle.ebr_core.specs.Asked.{AreFit}
use Rattle.ebr_core.specs.Engine.{HasLegalHistory}
use Rattle.ebr_core.proofs.Answering.{legal_now}
use Rattle.ebr_core.proofs.engine.Engine.history.Goals as goal

pub returns-clause-legal : goal.returns-clause-legal
returns-clause-legal g c = subst HasLegalHistory c.self.view_is (legal_now g.K.Keep.as_keeper c.self.inside.parts c.self.invariant.sound)

pub returns-clause-fit : goal.returns-clause-fit
returns-clause-fit g c = subst (λ v. AreFit v.history) c.self.view_is c.self.invariant.fit
