use Rattle.std.proofs.Common.{◌≡◌, [], map, drop}
use Rattle.ebr_sqlcheck.specs.Checked.{each}
use Rattle.ebr_sqlcheck.specs.Names.{names_in}
use Rattle.ebr_sqlcheck.proofs.change.value_names.Given as goal

abbrev pub invariant-loop-e : goal.invariant-loop-e
invariant-loop-e g l = each (map (names_in [] (g.V.Variables.others l.others)) (drop l.e-index l.list)) ≡ each (map (names_in [] (g.V.Variables.others l.others)) l.list)
