use Rattle.std.proofs.Common.{sym, ap, rules}
use Rattle.ebr_record.specs.Keeper.{used_by}
use Rattle.ebr_enginetests.proofs.recovered.begun.Goals as goal

pub begin_with-requires-clause-ready : goal.begin_with-requires-clause-ready
begin_with-requires-clause-ready c = record { used = ap used_by (sym c.requires.kept); stopped = search rules }
