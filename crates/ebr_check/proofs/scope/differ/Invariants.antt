use Rattle.std.proofs.Common.{◌≡◌, ◌++◌, map, drop}
use Rattle.std.specs.List.{filter_map}
use Rattle.ebr_validity.specs.Rules.{field_name}
use Rattle.ebr_check.proofs.scope.differ.Given as goal

abbrev pub invariant-loop-field : goal.invariant-loop-field
invariant-loop-field l =
    map (λ n. n.now) l.names ++ filter_map field_name (drop l.field-index l.fields) ≡ filter_map field_name l.fields
