use Rattle.std.proofs.Common.{◌≡◌, ◌++◌, map, drop}
use Rattle.std.specs.List.{filter_map}
use Rattle.ebr_scope.specs.Declarations.{decl_name}
use Rattle.ebr_validity.specs.Units.{head_name, head_of_subprogram}
use Rattle.ebr_check.proofs.scope.declares_body.Given as goal

abbrev pub invariant-loop-subprogram : goal.invariant-loop-subprogram
invariant-loop-subprogram l =
    map (λ n. n.now) l.names ++ map head_name (map head_of_subprogram (drop l.subprogram-index l.subprograms)) ≡ filter_map decl_name l.list ++ map head_name (map head_of_subprogram l.subprograms)
