use Rattle.std.proofs.Common.{◌≡◌, map, drop}
use Rattle.ebr_sqlcheck.specs.Checked.{each}
use Rattle.ebr_sqlcheck.specs.Names.{names_in}
use Rattle.ebr_sqlcheck.specs.inside.Terms.{names_in_term}
use Rattle.ebr_sqlcheck.proofs.mention.+names.Given as goal

abbrev pub invariant-all_names-loop-e : goal.invariant-all_names-loop-e
invariant-all_names-loop-e g l = each (map (names_in l.relations (g.V.Variables.others l.others)) (drop l.e-index l.e-items)) ≡ each (map (names_in l.relations (g.V.Variables.others l.others)) l.e-items)

abbrev pub invariant-term_names-loop-addend : goal.invariant-term_names-loop-addend
invariant-term_names-loop-addend g l = each (map (names_in_term l.relations (g.V.Variables.others l.others)) (drop l.addend-index l.addend-items)) ≡ each (map (names_in_term l.relations (g.V.Variables.others l.others)) l.addend-items)
