use Rattle.std.proofs.Common.{◌≡◌, drop}
use Rattle.std.specs.List.{filter_map}
use Rattle.ebr_names.specs.Headers.{head_in}
use Rattle.ebr_scope.specs.Declarations.{with_heads}
use Rattle.ebr_check.proofs.unit.add_heads.Given as goal

abbrev pub invariant-loop-item : goal.invariant-loop-item
invariant-loop-item l =
    with_heads (filter_map head_in (drop l.item-index l.items)) l.known ≡ with_heads (filter_map head_in l.items) l.initial.known
