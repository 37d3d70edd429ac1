use Rattle.std.proofs.Common.{◌≡◌, ◌++◌, map, drop}
use Rattle.std.specs.List.{filter_map}
use Rattle.ebr_scope.specs.Declarations.{decl_name}
use Rattle.ebr_check.proofs.scope.declared.Given as goal

abbrev pub invariant-loop-declaration : goal.invariant-loop-declaration
invariant-loop-declaration l =
    map (λ n. n.now) l.names ++ filter_map decl_name (drop l.declaration-index l.list) ≡ filter_map decl_name l.list
