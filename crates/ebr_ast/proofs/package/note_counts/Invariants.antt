use Rattle.std.proofs.Common.{◌≤◌, drop}
use Rattle.ebr_ast.proofs.Noted.{Counts}
use Rattle.ebr_ast.proofs.package.note_counts.Given as goal

abbrev pub invariant-loop-item : goal.invariant-loop-item
invariant-loop-item l = record {
  counted : Counts l.before.entries l.all (drop l.item-index l.items) l.items;
  few : l.all ≤ l.item-index;
}
