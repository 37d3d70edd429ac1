use Rattle.std.proofs.Common.{◌≡◌, map, take}
use Rattle.ebr_run.specs.Statements.{target_place}
use Rattle.ebr_exprcode.specs.Placed.{placed}
use Rattle.ebr_exprcode.proofs.targets.target_places.Given as goal

abbrev pub invariant-loop-it : goal.invariant-loop-it
invariant-loop-it l = map placed l.places ≡ map (target_place l.around) (take l.it-index l.it-items)
