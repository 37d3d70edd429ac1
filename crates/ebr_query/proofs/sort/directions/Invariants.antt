use Rattle.std.proofs.Common.{◌≡◌, ◌++◌, drop, map}
use Rattle.ebr_ast.specs.declared.query.SortKey.{SortKey}
use Rattle.ebr_query.proofs.sort.directions.Given as goal

abbrev pub invariant-loop-key : goal.invariant-loop-key
invariant-loop-key l = l.all ++ map (λ (k : SortKey). k.descending) (drop l.key-index l.keys) ≡ map (λ (k : SortKey). k.descending) l.keys
