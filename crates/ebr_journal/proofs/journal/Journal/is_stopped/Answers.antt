use Rattle.std.proofs.Common.{subst}
use Rattle.ebr_record.specs.Keeper.{IsAtRest}
use Rattle.ebr_journal.specs.Keeper.{as_keeper}
use Rattle.ebr_journal.proofs.Keeping.{at_rest}
use Rattle.ebr_journal.proofs.journal.Journal.is_stopped.Goals as goal

pub returns-clause-rest : goal.returns-clause-rest
returns-clause-rest g c =
    let i = c.self.inside in
    subst (λ j. IsAtRest (as_keeper g.D.Disk.as_medium j)) c.self.view_is
    (at_rest (g.D.Disk.as_medium i.disk) i.gate i.used i.form i.stopped (g.met.D.Disk.read_is_left i.disk) c.self.invariant)
