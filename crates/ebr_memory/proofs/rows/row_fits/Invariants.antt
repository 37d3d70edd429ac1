use Rattle.std.proofs.Common.{◌≡◌, drop}
use Rattle.ebr_run.specs.Cursors.{row_fits}
use Rattle.ebr_memory.proofs.rows.row_fits.Given as goal

abbrev pub invariant-loop-value : goal.invariant-loop-value
invariant-loop-value l = row_fits l.left (drop l.value-index l.row) ≡ row_fits l.types l.row
