use Rattle.std.proofs.Common.{[], refl, subst}
use Rattle.std.specs.Prelude.{Ok}
use Rattle.ebr_recovery.specs.Recovery.{IsRefused, RecoversAll}
use Rattle.ebr_recovery.proofs.begin.begin_with.Goals as goal

pub begin_over-requires-clause-recovers : goal.begin_over-requires-clause-recovers
begin_over-requires-clause-recovers g c = subst (λ rs. RecoversAll c.args.sessions rs (Ok c.in-Ok.recovery)) c.as_slice.ensures c.in-Ok.ensures

pub returns-in-Err : goal.returns-in-Err
returns-in-Err g c = (refl, subst (λ rs. IsRefused [] rs c.in-Err.why) c.as_slice.ensures c.in-Err.ensures)
