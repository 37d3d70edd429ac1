use Rattle.std.proofs.Common.{◌≡◌, [], map, drop, Ok, false}
use Rattle.std.specs.List.{fold}
use Rattle.ebr_base.specs.declared.value.Value.TheVariants as value
use Rattle.ebr_value.specs.declared.form.BinOp.TheVariants as op
use Rattle.ebr_expr.specs.Evaluation.{Eval, of_two, added, values}
use Rattle.ebr_expr.specs.inside.Terms.{term_of}
use Rattle.ebr_expr.proofs.evaluate.+expression.Given as goal

abbrev pub invariant-among-loop-e : goal.invariant-among-loop-e
invariant-among-loop-e l =
    fold (of_two op.Or) (Ok l.found) (map (of_two op.Equal (Ok l.x)) (map (λ e. Eval e l.row l.binds) (drop l.e-index l.e-items)))
    ≡ fold (of_two op.Or) (Ok (value.Bool false)) (map (of_two op.Equal (Ok l.x)) (map (λ e. Eval e l.row l.binds) l.e-items))

abbrev pub invariant-chain-loop-e : goal.invariant-chain-loop-e
invariant-chain-loop-e l =
    fold (of_two l.op) (Ok l.value) (map (λ e. Eval e l.row l.binds) (drop l.e-index l.e-items))
    ≡ fold (of_two l.op) (Ok l.first) (map (λ e. Eval e l.row l.binds) l.e-items)

abbrev pub invariant-sum-loop-addend : goal.invariant-sum-loop-addend
invariant-sum-loop-addend l =
    fold added (Ok l.value) (map (λ t. term_of t l.row l.binds) (drop l.addend-index l.addend-items))
    ≡ fold added (Ok l.first) (map (λ t. term_of t l.row l.binds) l.addend-items)

abbrev pub invariant-values-loop-e : goal.invariant-values-loop-e
invariant-values-loop-e l =
    values l.values (map (λ e. Eval e l.row l.binds) (drop l.e-index l.e-items)) ≡ values [] (map (λ e. Eval e l.row l.binds) l.e-items)
