use Rattle.ebr_journal.proofs.Making.{run1, run2, run3, run4, run5, run6, run7, all_made, fails}
use Rattle.ebr_journal.proofs.start.make.Goals as goal

pub returns-in_err-cut-clause-makes : goal.returns-in_err-cut-clause-makes
returns-in_err-cut-clause-makes g c = λ told fresh. fails _ _ _ c.from_residual.ensures.0 (run1 (g.D.Disk.as_medium c.args.disk.now) told fresh (g.D.Disk.as_medium c.cut.new.self) (g.D.Disk.leaves_less c.cut.new.self) _ c.in_err-cut.ensures.shortens)

pub returns-in_err-sync-clause-makes : goal.returns-in_err-sync-clause-makes
returns-in_err-sync-clause-makes g c = λ told fresh. fails _ _ _ c.from_residual-in_err-sync.ensures.0 (run2 (g.D.Disk.as_medium c.args.disk.now) told fresh (g.D.Disk.as_medium c.cut.new.self) (g.D.Disk.leaves_less c.cut.new.self) _ c.in_ok-cut.ensures.shortens (g.D.Disk.as_medium c.sync.new.self) (g.D.Disk.leaves_less c.sync.new.self) _ c.in_err-sync.ensures.syncs)

pub returns-in_err-write_at-clause-makes : goal.returns-in_err-write_at-clause-makes
returns-in_err-write_at-clause-makes g c = λ told fresh. fails _ _ _ c.from_residual-in_err-write_at.ensures.0 (run3 (g.D.Disk.as_medium c.args.disk.now) told fresh (g.D.Disk.as_medium c.cut.new.self) (g.D.Disk.leaves_less c.cut.new.self) _ c.in_ok-cut.ensures.shortens (g.D.Disk.as_medium c.sync.new.self) (g.D.Disk.leaves_less c.sync.new.self) _ c.in_ok-sync.ensures.syncs (g.D.Disk.as_medium c.write_at.new.self) (g.D.Disk.leaves_less c.write_at.new.self) _ c.in_err-write_at.ensures.writes)

pub returns-in_err-sync-2-clause-makes : goal.returns-in_err-sync-2-clause-makes
returns-in_err-sync-2-clause-makes g c = λ told fresh. fails _ _ _ c.from_residual-in_err-sync-2.ensures.0 (run4 (g.D.Disk.as_medium c.args.disk.now) told fresh (g.D.Disk.as_medium c.cut.new.self) (g.D.Disk.leaves_less c.cut.new.self) _ c.in_ok-cut.ensures.shortens (g.D.Disk.as_medium c.sync.new.self) (g.D.Disk.leaves_less c.sync.new.self) _ c.in_ok-sync.ensures.syncs (g.D.Disk.as_medium c.write_at.new.self) (g.D.Disk.leaves_less c.write_at.new.self) _ c.in_ok-write_at.ensures.writes (g.D.Disk.as_medium c.sync-2.new.self) (g.D.Disk.leaves_less c.sync-2.new.self) _ c.in_err-sync-2.ensures.syncs)

pub returns-in_err-write_at-2-clause-makes : goal.returns-in_err-write_at-2-clause-makes
returns-in_err-write_at-2-clause-makes g c = λ told fresh. fails _ _ _ c.from_residual-in_err-write_at-2.ensures.0 (run5 (g.D.Disk.as_medium c.args.disk.now) told fresh (g.D.Disk.as_medium c.cut.new.self) (g.D.Disk.leaves_less c.cut.new.self) _ c.in_ok-cut.ensures.shortens (g.D.Disk.as_medium c.sync.new.self) (g.D.Disk.leaves_less c.sync.new.self) _ c.in_ok-sync.ensures.syncs (g.D.Disk.as_medium c.write_at.new.self) (g.D.Disk.leaves_less c.write_at.new.self) _ c.in_ok-write_at.ensures.writes (g.D.Disk.as_medium c.sync-2.new.self) (g.D.Disk.leaves_less c.sync-2.new.self) _ c.in_ok-sync-2.ensures.syncs (g.D.Disk.as_medium c.write_at-2.new.self) (g.D.Disk.leaves_less c.write_at-2.new.self) _ c.in_err-write_at-2.ensures.writes)

pub returns-in_err-sync-3-clause-makes : goal.returns-in_err-sync-3-clause-makes
returns-in_err-sync-3-clause-makes g c = λ told fresh. fails _ _ _ c.from_residual-in_err-sync-3.ensures.0 (run6 (g.D.Disk.as_medium c.args.disk.now) told fresh (g.D.Disk.as_medium c.cut.new.self) (g.D.Disk.leaves_less c.cut.new.self) _ c.in_ok-cut.ensures.shortens (g.D.Disk.as_medium c.sync.new.self) (g.D.Disk.leaves_less c.sync.new.self) _ c.in_ok-sync.ensures.syncs (g.D.Disk.as_medium c.write_at.new.self) (g.D.Disk.leaves_less c.write_at.new.self) _ c.in_ok-write_at.ensures.writes (g.D.Disk.as_medium c.sync-2.new.self) (g.D.Disk.leaves_less c.sync-2.new.self) _ c.in_ok-sync-2.ensures.syncs (g.D.Disk.as_medium c.write_at-2.new.self) (g.D.Disk.leaves_less c.write_at-2.new.self) _ c.in_ok-write_at-2.ensures.writes (g.D.Disk.as_medium c.sync-3.new.self) (g.D.Disk.leaves_less c.sync-3.new.self) _ c.in_err-sync-3.ensures.syncs)

pub returns-in_err-write_at-3-clause-makes : goal.returns-in_err-write_at-3-clause-makes
returns-in_err-write_at-3-clause-makes g c = λ told fresh. fails _ _ _ c.from_residual-in_err-write_at-3.ensures.0 (run7 (g.D.Disk.as_medium c.args.disk.now) told fresh (g.D.Disk.as_medium c.cut.new.self) (g.D.Disk.leaves_less c.cut.new.self) _ c.in_ok-cut.ensures.shortens (g.D.Disk.as_medium c.sync.new.self) (g.D.Disk.leaves_less c.sync.new.self) _ c.in_ok-sync.ensures.syncs (g.D.Disk.as_medium c.write_at.new.self) (g.D.Disk.leaves_less c.write_at.new.self) _ c.in_ok-write_at.ensures.writes (g.D.Disk.as_medium c.sync-2.new.self) (g.D.Disk.leaves_less c.sync-2.new.self) _ c.in_ok-sync-2.ensures.syncs (g.D.Disk.as_medium c.write_at-2.new.self) (g.D.Disk.leaves_less c.write_at-2.new.self) _ c.in_ok-write_at-2.ensures.writes (g.D.Disk.as_medium c.sync-3.new.self) (g.D.Disk.leaves_less c.sync-3.new.self) _ c.in_ok-sync-3.ensures.syncs (g.D.Disk.as_medium c.write_at-3.new.self) (g.D.Disk.leaves_less c.write_at-3.new.self) _ c.in_err-write_at-3.ensures.writes)

pub returns-clause-makes : goal.returns-clause-makes
returns-clause-makes g c = λ told fresh. all_made (g.D.Disk.as_medium c.args.disk.now) told fresh (g.D.Disk.as_medium c.cut.new.self) (g.D.Disk.leaves_less c.cut.new.self) _ c.in_ok-cut.ensures.shortens (g.D.Disk.as_medium c.sync.new.self) (g.D.Disk.leaves_less c.sync.new.self) _ c.in_ok-sync.ensures.syncs (g.D.Disk.as_medium c.write_at.new.self) (g.D.Disk.leaves_less c.write_at.new.self) _ c.in_ok-write_at.ensures.writes (g.D.Disk.as_medium c.sync-2.new.self) (g.D.Disk.leaves_less c.sync-2.new.self) _ c.in_ok-sync-2.ensures.syncs (g.D.Disk.as_medium c.write_at-2.new.self) (g.D.Disk.leaves_less c.write_at-2.new.self) _ c.in_ok-write_at-2.ensures.writes (g.D.Disk.as_medium c.sync-3.new.self) (g.D.Disk.leaves_less c.sync-3.new.self) _ c.in_ok-sync-3.ensures.syncs (g.D.Disk.as_medium c.write_at-3.new.self) (g.D.Disk.leaves_less c.write_at-3.new.self) _ c.in_ok-write_at-3.ensures.writes (g.D.Disk.as_medium c.sync-4.new.self) (g.D.Disk.leaves_less c.sync-4.new.self) _ c.sync-4.ensures.syncs
