use Rattle.std.proofs.Common.{◌≡◌, map, drop}
use Rattle.ebr_ast.specs.declared.query.Item.{Item}
use Rattle.ebr_sqlcheck.specs.Checked.{each}
use Rattle.ebr_sqlcheck.specs.Statements.{kind_names}
use Rattle.ebr_sqlcheck.proofs.query.item_names.Given as goal

abbrev pub invariant-loop-item : goal.invariant-loop-item
invariant-loop-item g l = each (map (λ (i : Item). kind_names l.relations (g.V.Variables.others l.others) i.what) (drop l.item-index l.items)) ≡ each (map (λ (i : Item). kind_names l.relations (g.V.Variables.others l.others) i.what) l.items)
