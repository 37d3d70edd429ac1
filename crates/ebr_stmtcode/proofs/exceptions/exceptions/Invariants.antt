use Rattle.std.proofs.Common.{◌≡◌, ◌++◌, drop}
use Rattle.std.specs.Prelude.{filter_map}
use Rattle.ebr_run.specs.Statements.{exception_named}
use Rattle.ebr_stmtcode.proofs.exceptions.exceptions.Given as goal

abbrev pub invariant-loop-path : goal.invariant-loop-path
invariant-loop-path l = l.faults ++ filter_map (exception_named l.around) (drop l.path-index l.path-items) ≡ filter_map (exception_named l.around) l.path-items
