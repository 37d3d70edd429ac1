use Rattle.std.proofs.Common.{◌≡◌, ◌++◌, drop, flat_map}
use Rattle.ebr_fields.specs.Columns.{relation_fields}
use Rattle.ebr_fields.proofs.columns.all_fields.Given as goal

abbrev pub invariant-loop-relation : goal.invariant-loop-relation
invariant-loop-relation l =
    l.fields ++ flat_map relation_fields (drop l.relation-index l.relations) ≡ flat_map relation_fields l.relations
