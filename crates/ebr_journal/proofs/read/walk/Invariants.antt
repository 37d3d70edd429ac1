use Rattle.std.proofs.Common.{◌-◌}
use Rattle.ebr_outside.specs.Disk.{Stands}
use Rattle.ebr_journal.specs.Pieces.{Shows}
use Rattle.ebr_journal.specs.Found.{WalksTo}
use Rattle.ebr_journal.proofs.read.walk.Given as goal

abbrev pub invariant-loop-walked : goal.invariant-loop-walked
invariant-loop-walked g l = record {
  stands : Stands (g.D.Disk.as_medium l.fn.disk) (g.D.Disk.as_medium l.disk);
  shows : Shows (g.D.Disk.as_medium l.disk) l.piece;
  walks : WalksTo (g.D.Disk.as_medium l.fn.disk) l.len l.walked;
}

abbrev pub decreases-loop-walked : goal.decreases-loop-walked
decreases-loop-walked g l = 536870912 - l.walked.gate
