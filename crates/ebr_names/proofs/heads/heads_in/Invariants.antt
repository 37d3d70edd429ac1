use Rattle.std.proofs.Common.{◌≡◌, ◌++◌, drop, map}
use Rattle.std.specs.List.{filter_map}
use Rattle.ebr_names.specs.Headers.{head_in}
use Rattle.ebr_names.proofs.heads.heads_in.Given as goal

abbrev pub invariant-loop-item : goal.invariant-loop-item
invariant-loop-item l = map (λ b. b.now) l.heads ++ filter_map head_in (drop l.item-index l.items) ≡ filter_map head_in l.items
