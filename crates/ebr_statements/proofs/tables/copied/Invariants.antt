use Rattle.std.proofs.Common.{◌≡◌, take}
use Rattle.ebr_statements.proofs.tables.copied.Given as goal

abbrev pub invariant-loop-under : goal.invariant-loop-under
invariant-loop-under l = l.copy ≡ take l.under-index l.changing
