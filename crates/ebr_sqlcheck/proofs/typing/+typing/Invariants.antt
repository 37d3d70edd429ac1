use Rattle.std.proofs.Common.{◌≡◌, map, drop, None}
use Rattle.ebr_exprtree.specs.declared.expression.Comparison.TheVariants as comparison
use Rattle.ebr_sqlcheck.specs.Checked.{each}
use Rattle.ebr_sqlcheck.specs.Operands.{typed, all_want, compared, sum_from, one_type, operands_from}
use Rattle.ebr_sqlcheck.specs.inside.Terms.{typed_term}
use Rattle.ebr_sqlcheck.proofs.typing.+typing.Given as goal

abbrev pub invariant-all_want-loop-e : goal.invariant-all_want-loop-e
invariant-all_want-loop-e g l = all_want l.wanted (map (typed l.relations (g.V.Variables.others l.others)) (drop l.e-index l.e-items)) ≡ all_want l.wanted (map (typed l.relations (g.V.Variables.others l.others)) l.e-items)

abbrev pub invariant-equalities-loop-e : goal.invariant-equalities-loop-e
invariant-equalities-loop-e g l = each (map (compared comparison.Equal l.ty) (map (typed l.relations (g.V.Variables.others l.others)) (drop l.e-index l.e-items))) ≡ each (map (compared comparison.Equal l.ty) (map (typed l.relations (g.V.Variables.others l.others)) l.e-items))

abbrev pub invariant-sum_from-loop-addend : goal.invariant-sum_from-loop-addend
invariant-sum_from-loop-addend g l = sum_from l.ty (map (typed_term l.relations (g.V.Variables.others l.others)) (drop l.addend-index l.addend-items)) ≡ sum_from l.fn.first (map (typed_term l.relations (g.V.Variables.others l.others)) l.addend-items)

abbrev pub invariant-one_type-loop-e : goal.invariant-one_type-loop-e
invariant-one_type-loop-e g l = one_type l.ty (map (typed l.relations (g.V.Variables.others l.others)) (drop l.e-index l.e-items)) ≡ one_type None (map (typed l.relations (g.V.Variables.others l.others)) l.e-items)

abbrev pub invariant-operands_of-loop-at : goal.invariant-operands_of-loop-at
invariant-operands_of-loop-at g l = operands_from l.f l.at (map (typed l.relations (g.V.Variables.others l.others)) (drop l.at l.e-items)) ≡ operands_from l.f 0 (map (typed l.relations (g.V.Variables.others l.others)) l.e-items)
