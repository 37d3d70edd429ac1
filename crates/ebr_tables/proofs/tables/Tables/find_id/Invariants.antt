use Rattle.std.proofs.Common.{◌-◌, ◌≤◌, length}
use Rattle.ebr_tables.specs.inside.Keyed.{IsBetween}
use Rattle.ebr_tables.proofs.tables.Tables.find_id.Given as goal

-- the table can only stand between
abbrev pub invariant-loop-low : goal.invariant-loop-low
invariant-loop-low l = IsBetween l.self.living l.id.0 l.low l.high

abbrev pub decreases-loop-low : goal.decreases-loop-low
decreases-loop-low l = l.high - l.low
