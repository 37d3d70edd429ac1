use Rattle.std.proofs.Common.{◌≡◌, drop}
use Rattle.ebr_query.specs.Order.{keys_order}
use Rattle.ebr_query.proofs.order.keys_order.Given as goal

abbrev pub invariant-loop-at : goal.invariant-loop-at
invariant-loop-at l = keys_order (drop l.at l.descending) (drop l.at l.a) (drop l.at l.b) ≡ keys_order l.descending l.a l.b
