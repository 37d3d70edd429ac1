use Rattle.std.proofs.Common.{◌≡◌, drop}
use Rattle.ebr_cut.specs.Lines.{is_slash_line}
use Rattle.ebr_cut.proofs.line.is_slash_line.Given as goal

abbrev pub invariant-loop-i : goal.invariant-loop-i
invariant-loop-i l = is_slash_line (drop l.i l.bytes) ≡ is_slash_line l.bytes
