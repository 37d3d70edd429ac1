use Rattle.std.proofs.Common.{◌≡◌, map, drop}
use Rattle.ebr_ast.specs.declared.query.SortKey.{SortKey}
use Rattle.ebr_sqlcheck.specs.Checked.{each}
use Rattle.ebr_sqlcheck.specs.Names.{names_in}
use Rattle.ebr_sqlcheck.proofs.query.key_names.Given as goal

abbrev pub invariant-loop-key : goal.invariant-loop-key
invariant-loop-key g l = each (map (λ (k : SortKey). names_in l.relations (g.V.Variables.others l.others) k.key) (drop l.key-index l.keys)) ≡ each (map (λ (k : SortKey). names_in l.relations (g.V.Variables.others l.others) k.key) l.keys)
