use Rattle.std.proofs.Common.{◌≡◌, map, take}
use Rattle.ebr_run.specs.Statements.{place_type}
use Rattle.ebr_exprcode.specs.Placed.{placed}
use Rattle.ebr_exprcode.proofs.targets.place_types.Given as goal

abbrev pub invariant-loop-place : goal.invariant-loop-place
invariant-loop-place l = l.types ≡ map place_type (map placed (take l.place-index l.place-items))
