use Rattle.std.proofs.Common.{◌≡◌, ◌≤◌, ◌-◌, length, take}
use Rattle.ebr_cross.proofs.view.living_tables.Given as goal

abbrev pub invariant-loop-def : goal.invariant-loop-def
invariant-loop-def l = (l.copies ≡ take l.at l.tables.living) × (l.at ≤ length l.tables.living)

abbrev pub decreases-loop-def : goal.decreases-loop-def
decreases-loop-def l = length l.tables.living - l.at
