use Rattle.std.proofs.Common.{◌≡◌, map, drop}
use Rattle.ebr_sqlcheck.specs.Checked.{each}
use Rattle.ebr_sqlcheck.specs.Statements.{set_type}
use Rattle.ebr_sqlcheck.proofs.change.set_types.Given as goal

abbrev pub invariant-loop-set : goal.invariant-loop-set
invariant-loop-set g l = each (map (set_type l.columns l.relations (g.V.Variables.others l.others)) (drop l.set-index l.sets)) ≡ each (map (set_type l.columns l.relations (g.V.Variables.others l.others)) l.sets)
