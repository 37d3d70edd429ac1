use Rattle.std.proofs.Common.{◌≡◌, map, drop}
use Rattle.ebr_ast.specs.declared.sql.Assignment.{Assignment}
use Rattle.ebr_sqlcheck.specs.Checked.{each}
use Rattle.ebr_sqlcheck.specs.Names.{names_in}
use Rattle.ebr_sqlcheck.proofs.change.set_names.Given as goal

abbrev pub invariant-loop-set : goal.invariant-loop-set
invariant-loop-set g l = each (map (λ (a : Assignment). names_in l.relations (g.V.Variables.others l.others) a.value) (drop l.set-index l.sets)) ≡ each (map (λ (a : Assignment). names_in l.relations (g.V.Variables.others l.others) a.value) l.sets)
