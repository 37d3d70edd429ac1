use Rattle.ebr_cross.specs.Records.{with_record}
use Rattle.ebr_units.specs.Living.{AreCurrent, ForBooksBefore}
use Rattle.ebr_core.proofs.views.Views.after.Given as goal

-- the views so far are of what their editions see now
abbrev pub invariant-loop-view : goal.invariant-loop-view
invariant-loop-view l = ForBooksBefore l.c l.view-items l.made (λ lists. AreCurrent (with_record lists l.made) l.next)
