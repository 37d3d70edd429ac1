use Rattle.std.proofs.Common.{◌≡◌, ◌++◌, map, drop}
use Rattle.ebr_run.specs.Statements.{outs}
use Rattle.ebr_exprcode.specs.Placed.{placed}
use Rattle.ebr_exprcode.proofs.calls.outs.Given as goal

abbrev pub invariant-loop-e : goal.invariant-loop-e
invariant-loop-e l = map placed l.places ++ outs l.around (drop l.e-index l.e-items) l.rest ≡ outs l.around l.e-items l.fn.parameters
