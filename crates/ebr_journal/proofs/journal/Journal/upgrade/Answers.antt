use Rattle.std.proofs.Common.{IsTrue, Ok, Err, subst}
use Rattle.ebr_record.specs.declared.keep.JournalFault.TheVariants as fault
use Rattle.ebr_outside.specs.Disk.{Passes}
use Rattle.ebr_journal.specs.Keeper.{as_keeper, HasThese, IsSound, Upgrades}
use Rattle.ebr_journal.proofs.Moments.{begins}
use Rattle.ebr_journal.proofs.Upgrading.{has_stopped, is_there}
use Rattle.ebr_journal.proofs.journal.Journal.upgrade.Goals as goal

pub returns-then-self-clause-upgrades : goal.returns-then-self-clause-upgrades
returns-then-self-clause-upgrades g c =
    let i = c.self.inside in
    subst (λ j. Upgrades (as_keeper g.D.Disk.as_medium j) (as_keeper g.D.Disk.as_medium j) (Err fault.Stopped)) c.self.view_is
    (has_stopped (g.D.Disk.as_medium i.disk) i.gate i.used i.form i.stopped c.self.invariant (g.met.D.Disk.read_is_left i.disk) c.if-self.true)

pub returns-in-Long-clause-upgrades : goal.returns-in-Long-clause-upgrades
returns-in-Long-clause-upgrades g c =
    let i = c.self.inside in
    let m = g.D.Disk.as_medium i.disk in
    subst (λ j. Upgrades (as_keeper g.D.Disk.as_medium j) (as_keeper g.D.Disk.as_medium j) (Ok tt)) c.self.view_is
    (is_there m i.gate i.used i.stopped (g.met.D.Disk.read_is_left i.disk) c.if-self.false (subst (λ f. IsSound m i.gate i.used f i.stopped) c.in-Long.is c.self.invariant))

pub returns-then-self-clause-images : goal.returns-then-self-clause-images
returns-then-self-clause-images g c =
    let i = c.self.inside in
    subst (λ j. IsTrue (g.D.Disk.as_medium j.disk).tells → Passes (g.D.Disk.as_medium j.disk) (g.D.Disk.as_medium j.disk) (HasThese (as_keeper g.D.Disk.as_medium j).records)) c.self.view_is
    (λ told. begins (g.D.Disk.as_medium i.disk) _)

pub returns-in-Long-clause-images : goal.returns-in-Long-clause-images
returns-in-Long-clause-images g c =
    let i = c.self.inside in
    subst (λ j. IsTrue (g.D.Disk.as_medium j.disk).tells → Passes (g.D.Disk.as_medium j.disk) (g.D.Disk.as_medium j.disk) (HasThese (as_keeper g.D.Disk.as_medium j).records)) c.self.view_is
    (λ told. begins (g.D.Disk.as_medium i.disk) _)
