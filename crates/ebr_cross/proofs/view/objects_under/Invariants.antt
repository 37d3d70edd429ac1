use Rattle.std.proofs.Common.{◌≡◌, ◌++◌, map, length}
use Rattle.std.specs.List.{filter_map}
use Rattle.ebr_cross.specs.Catalogue.{ForLists, visible}
use Rattle.ebr_cross.proofs.view.objects_under.Given as goal

abbrev pub invariant-loop-key : goal.invariant-loop-key
invariant-loop-key l = ForLists l.c (λ lists. l.objects ++ filter_map (λ key. visible lists l.e key) (map (λ key. key.now) l.left.keys) ≡ filter_map (λ key. visible lists l.e key) (map (λ key. key.now) l.fn.keys.keys))

abbrev pub decreases-loop-key : goal.decreases-loop-key
decreases-loop-key l = length l.left.keys
