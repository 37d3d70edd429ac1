use Rattle.std.proofs.Common.{◌≡◌, ◌++◌, drop, map}
use Rattle.ebr_ast.specs.declared.unit.ViewItem.{ViewItem}
use Rattle.ebr_cross.proofs.create.item_columns.Given as goal

abbrev pub invariant-loop-item : goal.invariant-loop-item
invariant-loop-item l = l.names ++ map (λ (i : ViewItem). i.column) (drop l.item-index l.items) ≡ map (λ (i : ViewItem). i.column) l.items
