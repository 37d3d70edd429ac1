use Rattle.std.proofs.Common.{◌≡◌}
use Rattle.ebr_run.specs.Packages.{put}
use Rattle.ebr_memory.specs.Levels.{with_top}
use Rattle.ebr_memory.proofs.memory.put_fault.Given as goal

abbrev pub invariant-places : goal.invariant-places
invariant-places l = with_top (put l.fault l.place l.fault l.faults.top) l.faults ≡ with_top (put l.fault l.place l.fault l.initial.faults.top) l.initial.faults
