use Rattle.std.proofs.Common.{◌≡◌, ◌++◌, map, drop}
use Rattle.ebr_code.specs.Codes.{stores_code}
use Rattle.ebr_exprcode.specs.Placed.{placed}
use Rattle.ebr_exprcode.proofs.targets.stores.Given as goal

abbrev pub invariant-loop-place : goal.invariant-loop-place
invariant-loop-place l = l.out ++ stores_code (map placed (drop l.place-index l.place-items)) ≡ l.initial.out ++ stores_code (map placed l.place-items)
