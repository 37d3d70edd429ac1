use denote.Shadow.{shadow}
use denote.Text.{Utf8}
use Rattle.ebr_units.specs.Living.{IsKept}
use Rattle.ebr_machinetests.proofs.editions.fault_among.Given as goal

abbrev pub invariant-loop-row : goal.invariant-loop-row
invariant-loop-row l = IsKept l.c × shadow (Utf8 l.rest)
