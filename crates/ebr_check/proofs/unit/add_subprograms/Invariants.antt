use Rattle.std.proofs.Common.{◌≡◌, map, drop}
use Rattle.ebr_scope.specs.Declarations.{with_heads}
use Rattle.ebr_validity.specs.Units.{head_of_subprogram}
use Rattle.ebr_check.proofs.unit.add_subprograms.Given as goal

abbrev pub invariant-loop-it : goal.invariant-loop-it
invariant-loop-it l =
    with_heads (map head_of_subprogram (drop l.it-index l.list)) l.known ≡ with_heads (map head_of_subprogram l.list) l.initial.known
