use Rattle.std.proofs.Common.{suc, ◌+◌, drop, map}
use Rattle.ebr_run.specs.Binds.{bind_all, bound_expr, bound_term}
use Rattle.ebr_binds.proofs.Laws.{Keeps}
use Rattle.ebr_binds.proofs.expressions.+expression.Given as goal

abbrev pub invariant-expressions-loop-e : goal.invariant-expressions-loop-e
invariant-expressions-loop-e l = Keeps (bind_all (map (bound_expr l.relations l.around) l.e-items)) l.initial.binds (map (bound_expr l.relations l.around) (drop l.e-index l.e-items)) l.bound l.binds

abbrev pub invariant-terms-loop-addend : goal.invariant-terms-loop-addend
invariant-terms-loop-addend l = Keeps (bind_all (map (bound_term l.relations l.around) l.addend-items)) l.initial.binds (map (bound_term l.relations l.around) (drop l.addend-index l.addend-items)) l.bound l.binds

-- a list of operands is passed where their expression is, and each of them is smaller than it by one layer alone
abbrev pub decreases-expression : goal.decreases-expression
decreases-expression l = goal.size-expression l + goal.size-expression l

abbrev pub decreases-expressions : goal.decreases-expressions
decreases-expressions l = suc (goal.size-expressions l + goal.size-expressions l)

abbrev pub decreases-terms : goal.decreases-terms
decreases-terms l = goal.size-terms l + goal.size-terms l
