use Rattle.std.proofs.Common.{◌≡◌, map, drop}
use Rattle.std.specs.List.{filter_map, list_all}
use Rattle.ebr_names.specs.Headers.{head_in}
use Rattle.ebr_validity.specs.Rules.{is_defined}
use Rattle.ebr_validity.specs.Units.{head_of_subprogram}
use Rattle.ebr_check.proofs.package.are_defined.Given as goal

abbrev pub invariant-loop-item : goal.invariant-loop-item
invariant-loop-item l =
    list_all (is_defined (map head_of_subprogram l.subprograms)) (filter_map head_in (drop l.item-index l.items)) ≡ list_all (is_defined (map head_of_subprogram l.subprograms)) (filter_map head_in l.items)
