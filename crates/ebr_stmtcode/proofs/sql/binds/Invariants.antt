use Rattle.std.proofs.Common.{◌≡◌, ◌++◌, drop}
use Rattle.ebr_code.specs.Codes.{binds_code}
use Rattle.ebr_stmtcode.proofs.sql.binds.Given as goal

abbrev pub invariant-loop-it : goal.invariant-loop-it
invariant-loop-it l = l.out ++ binds_code (drop l.it-index l.it-items) ≡ l.initial.out ++ binds_code l.it-items
