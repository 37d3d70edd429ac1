use Rattle.std.proofs.Common.{◌≡◌, ◌++◌, length}
use Rattle.std.specs.Vec.Iter.{into_iter_items, into_iter_len}
use Rattle.ebr_stmtcode.proofs.choices.append.Given as goal

abbrev pub invariant-loop-item : goal.invariant-loop-item
invariant-loop-item g l = record {
  items : l.out ++ into_iter_items l.item-iterator ≡ l.initial.out ++ l.fn.more;
  left : into_iter_len l.item-iterator ≡ length (into_iter_items l.item-iterator);
}
