use Rattle.std.proofs.Common.{◌≡◌, drop, filter_map}
use Rattle.ebr_names.specs.Headers.{head_in}
use Rattle.ebr_run.specs.Scope.{with_heads}
use Rattle.ebr_places.proofs.around.Around.add_heads.Given as goal

abbrev pub invariant-loop-item : goal.invariant-loop-item
invariant-loop-item l = with_heads l.owner (filter_map head_in (drop l.item-index l.items)) l.self ≡ with_heads l.owner (filter_map head_in l.items) l.initial.self
