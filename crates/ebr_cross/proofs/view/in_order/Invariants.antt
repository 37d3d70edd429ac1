use Rattle.std.proofs.Common.{◌≡◌, [], map, fold, take}
use Rattle.std.specs.BTreeSet.{insert_key}
use Rattle.ebr_base.specs.Keys.{key_order}
use Rattle.ebr_cross.proofs.view.in_order.Given as goal

abbrev pub invariant-loop-key : goal.invariant-loop-key
invariant-loop-key l = map (λ key. key.now) l.set.keys ≡ fold (insert_key key_order) [] (take l.key-index l.keys)
