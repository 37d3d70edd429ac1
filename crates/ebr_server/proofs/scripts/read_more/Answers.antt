use Rattle.std.proofs.Common.{None, ap, refl}
use Rattle.ebr_server.specs.Program.{fault_at}
use Rattle.ebr_server.proofs.Calls.{all_called, fault_of}
use Rattle.ebr_server.proofs.scripts.read_more.Goals as goal

pub returns-in-Err-push-clause-called : goal.returns-in-Err-push-clause-called
returns-in-Err-push-clause-called g c =
    all_called _ _ _ _ _ _ c.in-Ok.ensures.opened (fault_of _ _ None c.without_source.ensures.source (ap fault_at c.without_source.ensures.code)) refl refl
