use Rattle.std.proofs.Common.{◌≡◌}
use Rattle.ebr_run.specs.Cursors.{Closed}
use Rattle.ebr_run.specs.Packages.{put}
use Rattle.ebr_memory.specs.Levels.{with_top}
use Rattle.ebr_memory.proofs.memory.put_cursor.Given as goal

abbrev pub invariant-places : goal.invariant-places
invariant-places l = record {
  cursor_is : l.cursor ≡ l.initial.cursor;
  same : with_top (put Closed l.place l.initial.cursor l.cursors.top) l.cursors ≡ with_top (put Closed l.place l.initial.cursor l.initial.cursors.top) l.initial.cursors;
}
