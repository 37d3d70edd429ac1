use Rattle.std.proofs.Common.{◌≡◌, ◌++◌, drop, map}
use Rattle.ebr_code.specs.Runs.{formal}
use Rattle.ebr_memory.specs.Levels.{with_top}
use Rattle.ebr_machine.specs.inside.Callees.{handed}
use Rattle.ebr_machine.proofs.ends.hand_back.Given as goal

abbrev pub invariant-loop-place : goal.invariant-loop-place
invariant-loop-place l = with_top (l.to.top ++ handed l.place (map formal (drop l.place l.parameters)) l.variables.top) l.to ≡ with_top (l.initial.to.top ++ handed 0 (map formal l.parameters) l.variables.top) l.initial.to
