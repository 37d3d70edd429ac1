use Rattle.std.proofs.Common.{map, drop}
use Rattle.ebr_check.proofs.Exceptions.{Exceptions}
use Rattle.ebr_check.proofs.scope.exceptions.Given as goal

abbrev pub invariant-loop-declaration : goal.invariant-loop-declaration
invariant-loop-declaration l = Exceptions l.names.keys (map (λ d. d.now) (drop l.declaration-index l.list)) (map (λ d. d.now) l.list)
