use Rattle.std.proofs.Common.{◌≡◌, ◌+◌, drop, false}
use Rattle.ebr_cut.specs.Reading.{unit_length}
use Rattle.ebr_cut.proofs.line.unit_length.Given as goal

abbrev pub invariant-loop-i : goal.invariant-loop-i
invariant-loop-i l = l.i + unit_length l.begins (drop l.i l.bytes) ≡ unit_length false l.bytes
