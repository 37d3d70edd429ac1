use Rattle.std.proofs.Common.{◌≡◌, ◌++◌, map, drop}
use Rattle.ebr_scope.specs.Lent.{env}
use Rattle.ebr_fields.specs.Columns.{item_field}
use Rattle.ebr_fields.proofs.columns.item_fields.Given as goal

abbrev pub invariant-loop-item : goal.invariant-loop-item
invariant-loop-item l =
    l.fields ++ map (item_field l.relations (env l.place l.known)) (drop l.item-index l.items) ≡ map (item_field l.relations (env l.place l.known)) l.items
