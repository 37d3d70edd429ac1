use Rattle.std.proofs.Common.{◌≡◌, drop, map, None}
use Rattle.ebr_exprtree.specs.declared.expression.Comparison.TheVariants as comparison
use Rattle.ebr_scope.specs.Lent.{env}
use Rattle.ebr_validity.specs.Expressions.{reading_of, term_of, all_wanted, all_compared, sum_from, one_type, operands_from, arguments}
use Rattle.ebr_rules.specs.Noted.{noted}
use Rattle.ebr_rules.proofs.expressions.+expression.Given as goal

abbrev pub invariant-all_wanted-loop-e : goal.invariant-all_wanted-loop-e
invariant-all_wanted-loop-e l =
    noted (all_wanted l.ty (map reading_of (drop l.e-index l.e-items)) (env l.place l.known)) l.least
    ≡ noted (all_wanted l.ty (map reading_of l.e-items) (env l.place l.known)) l.initial.least

abbrev pub invariant-all_compared-loop-e : goal.invariant-all_compared-loop-e
invariant-all_compared-loop-e l =
    noted (all_compared comparison.Equal l.ty (map reading_of (drop l.e-index l.e-items)) (env l.place l.known)) l.least
    ≡ noted (all_compared comparison.Equal l.ty (map reading_of l.e-items) (env l.place l.known)) l.initial.least

abbrev pub invariant-sum_from-loop-addend : goal.invariant-sum_from-loop-addend
invariant-sum_from-loop-addend l = record {
  typed : (sum_from l.ty (map term_of (drop l.addend-index l.addend-items)) (env l.place l.known)).typed ≡ (sum_from l.fn.first (map term_of l.addend-items) (env l.place l.known)).typed;
  least : noted (sum_from l.ty (map term_of (drop l.addend-index l.addend-items)) (env l.place l.known)).sites l.least ≡ noted (sum_from l.fn.first (map term_of l.addend-items) (env l.place l.known)).sites l.initial.least;
}

abbrev pub invariant-one_type-loop-e : goal.invariant-one_type-loop-e
invariant-one_type-loop-e l = record {
  typed : (one_type l.ty (map reading_of (drop l.e-index l.e-items)) (env l.place l.known)).typed ≡ (one_type None (map reading_of l.e-items) (env l.place l.known)).typed;
  least : noted (one_type l.ty (map reading_of (drop l.e-index l.e-items)) (env l.place l.known)).sites l.least ≡ noted (one_type None (map reading_of l.e-items) (env l.place l.known)).sites l.initial.least;
}

abbrev pub invariant-operands_of-loop-at : goal.invariant-operands_of-loop-at
invariant-operands_of-loop-at l =
    noted (operands_from l.f l.at (map reading_of (drop l.at l.e-items)) (env l.place l.known)) l.least
    ≡ noted (operands_from l.f 0 (map reading_of l.e-items) (env l.place l.known)) l.initial.least

abbrev pub invariant-arguments-loop-e : goal.invariant-arguments-loop-e
invariant-arguments-loop-e l =
    noted (arguments (map reading_of (drop l.e-index l.e-items)) l.rest (env l.place l.known)) l.least
    ≡ noted (arguments (map reading_of l.e-items) l.fn.parameters (env l.place l.known)) l.initial.least
