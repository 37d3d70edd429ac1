use Rattle.std.proofs.Common.{◌≡◌, ◌∷◌, ◌+◌, map, drop, sym, ap, ◌∙◌, Ok, Err, false, rules, arith}
use Rattle.std.proofs.lemmas.Grind.{common_steps}
use Rattle.std.proofs.lemmas.Result.{err_from_is_err_and}
use Rattle.ebr_base.specs.Answers.{Answers}
use Rattle.ebr_base.specs.declared.value.Value.{Value}
use Rattle.std.specs.List.{fold}
use Rattle.ebr_base.specs.declared.value.Value.TheVariants as value
use Rattle.ebr_exprtree.specs.declared.expression.Expr.{out-Expr}
use Rattle.ebr_exprtree.specs.declared.expression.Expr.TheOpen as expr
use Rattle.ebr_exprtree.specs.declared.expression.Expr.TheViews.{the_lemmas}
use Rattle.ebr_value.specs.declared.form.BinOp.TheVariants as op
use Rattle.ebr_expr.specs.Evaluation.{Eval, on, of_two, added, not_if, among}
use Rattle.ebr_expr.specs.inside.Terms.{term_of}
use Rattle.ebr_expr.proofs.Laws.{Eval-out, Eval_at, term_of-out, of_two_raises, not_if_raises, chain_raises, sum_raises, stops, fold_more, fold_stops, found_among, among_stops}
use Rattle.ebr_expr.proofs.evaluate.+expression.Goals as goal

pub eval-returns-in_err-a-in-Quotient : goal.eval-returns-in_err-a-in-Quotient
eval-returns-in_err-a-in-Quotient t c = search (rules, the_lemmas, Eval-out, of_two_raises, not_if_raises)

pub eval-returns-in_err-a-in-Compare : goal.eval-returns-in_err-a-in-Compare
eval-returns-in_err-a-in-Compare t c = search (rules, the_lemmas, Eval-out, of_two_raises, not_if_raises)

pub eval-returns-in_err-x-in-Between : goal.eval-returns-in_err-x-in-Between
eval-returns-in_err-x-in-Between t c = search (rules, the_lemmas, Eval-out, of_two_raises, not_if_raises)

pub eval-returns-in_err-is_above-in-Between : goal.eval-returns-in_err-is_above-in-Between
eval-returns-in_err-is_above-in-Between t c = search (rules, the_lemmas, Eval-out, of_two_raises, not_if_raises)

pub eval-returns-in_err-a-in-Like : goal.eval-returns-in_err-a-in-Like
eval-returns-in_err-a-in-Like t c = search (rules, the_lemmas, Eval-out, of_two_raises, not_if_raises)

pub eval-returns-in-Number : goal.eval-returns-in-Number
eval-returns-in-Number t c = search (rules, the_lemmas, Eval-out, of_two_raises, not_if_raises)

pub eval-returns-in-Text : goal.eval-returns-in-Text
eval-returns-in-Text t c = search (rules, the_lemmas, Eval-out, of_two_raises, not_if_raises)

pub eval-returns-in-Null : goal.eval-returns-in-Null
eval-returns-in-Null t c = search (rules, the_lemmas, Eval-out, of_two_raises, not_if_raises)

pub eval-returns-in-Boolean : goal.eval-returns-in-Boolean
eval-returns-in-Boolean t c = search (rules, the_lemmas, Eval-out, of_two_raises, not_if_raises)

pub eval-returns-in-Place : goal.eval-returns-in-Place
eval-returns-in-Place t c = search (rules, the_lemmas, Eval-out, of_two_raises, not_if_raises)

pub eval-returns-in-Bind : goal.eval-returns-in-Bind
eval-returns-in-Bind t c = search (rules, the_lemmas, Eval-out, of_two_raises, not_if_raises)

pub eval-returns-in-Plus : goal.eval-returns-in-Plus
eval-returns-in-Plus t c = search (rules, the_lemmas, Eval-out, of_two_raises, not_if_raises)

pub eval-returns-in-Minus : goal.eval-returns-in-Minus
eval-returns-in-Minus t c = search (rules, the_lemmas, Eval-out, of_two_raises, not_if_raises)

pub eval-returns-in_ok-a-in-Quotient : goal.eval-returns-in_ok-a-in-Quotient
eval-returns-in_ok-a-in-Quotient t c = search (rules, the_lemmas, Eval-out, of_two_raises, not_if_raises)

pub eval-returns-in_ok-a-in-Compare : goal.eval-returns-in_ok-a-in-Compare
eval-returns-in_ok-a-in-Compare t c = search (rules, the_lemmas, Eval-out, of_two_raises, not_if_raises)

pub eval-returns-in-IsNull : goal.eval-returns-in-IsNull
eval-returns-in-IsNull t c = search (rules, the_lemmas, Eval-out, of_two_raises, not_if_raises)

pub eval-returns-in_ok-is_above-in-Between : goal.eval-returns-in_ok-is_above-in-Between
eval-returns-in_ok-is_above-in-Between t c = search (rules, the_lemmas, Eval-out, of_two_raises, not_if_raises)

pub eval-returns-in_ok-a-in-Like : goal.eval-returns-in_ok-a-in-Like
eval-returns-in_ok-a-in-Like t c = search (rules, the_lemmas, Eval-out, of_two_raises, not_if_raises)

pub eval-returns-in-Not : goal.eval-returns-in-Not
eval-returns-in-Not t c = search (rules, the_lemmas, Eval-out, of_two_raises, not_if_raises)

pub eval-returns-in-Call : goal.eval-returns-in-Call
eval-returns-in-Call t c = search (rules, the_lemmas, Eval-out, of_two_raises, not_if_raises)

pub eval-returns-in-Name : goal.eval-returns-in-Name
eval-returns-in-Name t c = search (rules, the_lemmas, Eval-out, of_two_raises, not_if_raises)

pub operand-returns-in-Place : goal.operand-returns-in-Place
operand-returns-in-Place t c = search (rules, the_lemmas, Eval-out, of_two_raises, not_if_raises)

pub operand-returns-in-Bind : goal.operand-returns-in-Bind
operand-returns-in-Bind t c = search (rules, the_lemmas, Eval-out, of_two_raises, not_if_raises)

pub eval-returns-in_err-a-in-Product : goal.eval-returns-in_err-a-in-Product
eval-returns-in_err-a-in-Product t c =
    let o : out-Expr c.args.e.now ≡ expr.Product c.in-Product.a c.in-Product.more = search (rules, the_lemmas) in
    let v : Eval c.args.e.now c.args.row.now c.args.binds.now ≡ fold (of_two op.Multiply) (Eval c.in-Product.a c.args.row.now c.args.binds.now) (map (λ x. Eval x c.args.row.now c.args.binds.now) c.in-Product.more) = Eval_at c.args.e.now (expr.Product c.in-Product.a c.in-Product.more) c.args.row.now c.args.binds.now o in
    search (rules, v, chain_raises)

pub eval-returns-in_ok-a-in-Product : goal.eval-returns-in_ok-a-in-Product
eval-returns-in_ok-a-in-Product t c =
    let o : out-Expr c.args.e.now ≡ expr.Product c.in-Product.a c.in-Product.more = search (rules, the_lemmas) in
    let a : Eval c.in-Product.a c.args.row.now c.args.binds.now ≡ Ok c.in_ok-a-in-Product.a = search rules in
    let w : Eval c.args.e.now c.args.row.now c.args.binds.now ≡ fold (of_two op.Multiply) (Ok c.in_ok-a-in-Product.a) (map (λ x. Eval x c.args.row.now c.args.binds.now) c.in-Product.more) =
    Eval_at c.args.e.now (expr.Product c.in-Product.a c.in-Product.more) c.args.row.now c.args.binds.now o ∙ ap (λ y. fold (of_two op.Multiply) y (map (λ x. Eval x c.args.row.now c.args.binds.now) c.in-Product.more)) a in
    search (rules, w)

pub eval-returns-in_err-a-in-And : goal.eval-returns-in_err-a-in-And
eval-returns-in_err-a-in-And t c =
    let o : out-Expr c.args.e.now ≡ expr.And c.in-And.a c.in-And.more = search (rules, the_lemmas) in
    let v : Eval c.args.e.now c.args.row.now c.args.binds.now ≡ fold (of_two op.And) (Eval c.in-And.a c.args.row.now c.args.binds.now) (map (λ x. Eval x c.args.row.now c.args.binds.now) c.in-And.more) = Eval_at c.args.e.now (expr.And c.in-And.a c.in-And.more) c.args.row.now c.args.binds.now o in
    search (rules, v, chain_raises)

pub eval-returns-in_ok-a-in-And : goal.eval-returns-in_ok-a-in-And
eval-returns-in_ok-a-in-And t c =
    let o : out-Expr c.args.e.now ≡ expr.And c.in-And.a c.in-And.more = search (rules, the_lemmas) in
    let a : Eval c.in-And.a c.args.row.now c.args.binds.now ≡ Ok c.in_ok-a-in-And.a = search rules in
    let w : Eval c.args.e.now c.args.row.now c.args.binds.now ≡ fold (of_two op.And) (Ok c.in_ok-a-in-And.a) (map (λ x. Eval x c.args.row.now c.args.binds.now) c.in-And.more) =
    Eval_at c.args.e.now (expr.And c.in-And.a c.in-And.more) c.args.row.now c.args.binds.now o ∙ ap (λ y. fold (of_two op.And) y (map (λ x. Eval x c.args.row.now c.args.binds.now) c.in-And.more)) a in
    search (rules, w)

pub eval-returns-in_err-a-in-Or : goal.eval-returns-in_err-a-in-Or
eval-returns-in_err-a-in-Or t c =
    let o : out-Expr c.args.e.now ≡ expr.Or c.in-Or.a c.in-Or.more = search (rules, the_lemmas) in
    let v : Eval c.args.e.now c.args.row.now c.args.binds.now ≡ fold (of_two op.Or) (Eval c.in-Or.a c.args.row.now c.args.binds.now) (map (λ x. Eval x c.args.row.now c.args.binds.now) c.in-Or.more) = Eval_at c.args.e.now (expr.Or c.in-Or.a c.in-Or.more) c.args.row.now c.args.binds.now o in
    search (rules, v, chain_raises)

pub eval-returns-in_ok-a-in-Or : goal.eval-returns-in_ok-a-in-Or
eval-returns-in_ok-a-in-Or t c =
    let o : out-Expr c.args.e.now ≡ expr.Or c.in-Or.a c.in-Or.more = search (rules, the_lemmas) in
    let a : Eval c.in-Or.a c.args.row.now c.args.binds.now ≡ Ok c.in_ok-a-in-Or.a = search rules in
    let w : Eval c.args.e.now c.args.row.now c.args.binds.now ≡ fold (of_two op.Or) (Ok c.in_ok-a-in-Or.a) (map (λ x. Eval x c.args.row.now c.args.binds.now) c.in-Or.more) =
    Eval_at c.args.e.now (expr.Or c.in-Or.a c.in-Or.more) c.args.row.now c.args.binds.now o ∙ ap (λ y. fold (of_two op.Or) y (map (λ x. Eval x c.args.row.now c.args.binds.now) c.in-Or.more)) a in
    search (rules, w)

pub eval-returns-in_err-a-in-Sum : goal.eval-returns-in_err-a-in-Sum
eval-returns-in_err-a-in-Sum t c =
    let o : out-Expr c.args.e.now ≡ expr.Sum c.in-Sum.a c.in-Sum.more = search (rules, the_lemmas) in
    let v : Eval c.args.e.now c.args.row.now c.args.binds.now ≡ fold added (Eval c.in-Sum.a c.args.row.now c.args.binds.now) (map (λ x. term_of x c.args.row.now c.args.binds.now) c.in-Sum.more) = Eval_at c.args.e.now (expr.Sum c.in-Sum.a c.in-Sum.more) c.args.row.now c.args.binds.now o in
    search (rules, v, sum_raises)

pub eval-returns-in_ok-a-in-Sum : goal.eval-returns-in_ok-a-in-Sum
eval-returns-in_ok-a-in-Sum t c =
    let o : out-Expr c.args.e.now ≡ expr.Sum c.in-Sum.a c.in-Sum.more = search (rules, the_lemmas) in
    let a : Eval c.in-Sum.a c.args.row.now c.args.binds.now ≡ Ok c.in_ok-a-in-Sum.a = search rules in
    let w : Eval c.args.e.now c.args.row.now c.args.binds.now ≡ fold added (Ok c.in_ok-a-in-Sum.a) (map (λ x. term_of x c.args.row.now c.args.binds.now) c.in-Sum.more) =
    Eval_at c.args.e.now (expr.Sum c.in-Sum.a c.in-Sum.more) c.args.row.now c.args.binds.now o ∙ ap (λ y. fold added y (map (λ x. term_of x c.args.row.now c.args.binds.now) c.in-Sum.more)) a in
    search (rules, w)

pub eval-returns-in_err-x-in-In : goal.eval-returns-in_err-x-in-In
eval-returns-in_err-x-in-In t c =
    let o : out-Expr c.args.e.now ≡ expr.In c.in-In.x c.in-In.list c.in-In.negated = search (rules, the_lemmas) in
    let v : Eval c.args.e.now c.args.row.now c.args.binds.now ≡ not_if c.in-In.negated (on (among (map (λ x. Eval x c.args.row.now c.args.binds.now) c.in-In.list)) (Eval c.in-In.x c.args.row.now c.args.binds.now)) = Eval_at c.args.e.now (expr.In c.in-In.x c.in-In.list c.in-In.negated) c.args.row.now c.args.binds.now o in
    search (rules, v, not_if_raises)

pub eval-returns-in_ok-x-in-In : goal.eval-returns-in_ok-x-in-In
eval-returns-in_ok-x-in-In t c =
    let o : out-Expr c.args.e.now ≡ expr.In c.in-In.x c.in-In.list c.in-In.negated = search (rules, the_lemmas) in
    let x : Eval c.in-In.x c.args.row.now c.args.binds.now ≡ Ok c.in_ok-x-in-In.x = search rules in
    let w : Eval c.args.e.now c.args.row.now c.args.binds.now ≡ not_if c.in-In.negated (on (among (map (λ x. Eval x c.args.row.now c.args.binds.now) c.in-In.list)) (Ok c.in_ok-x-in-In.x)) =
    Eval_at c.args.e.now (expr.In c.in-In.x c.in-In.list c.in-In.negated) c.args.row.now c.args.binds.now o ∙ ap (λ y. not_if c.in-In.negated (on (among (map (λ x. Eval x c.args.row.now c.args.binds.now) c.in-In.list)) y)) x in
    search (rules, w)

pub chain-loop-e-preserved : goal.chain-loop-e-preserved
chain-loop-e-preserved t c =
    let e : drop c.loop-e.e-index c.as_slice-e-items.result.now ≡ c.e-item.result ∷ drop (c.loop-e.e-index + 1) c.as_slice-e-items.result.now = grind (arith, common_steps) in
    let n : of_two c.args.op (Ok c.loop-e.value) (Eval c.e-item.result c.args.row.now c.args.binds.now) ≡ Ok c.in_ok-next.next = search rules in
    let k : of_two c.args.op (Ok c.loop-e.value) (Eval c.e-item.result c.args.row.now c.args.binds.now) ≡ Ok c.made-value.result = n ∙ ap (λ v. Ok v) (sym c.made-value.ensures) in
    fold_more (of_two c.args.op) (λ x. Eval x c.args.row.now c.args.binds.now) _ _ _ _ _ _ e c.loop-e.invariant k

pub chain-returns-in_err-next : goal.chain-returns-in_err-next
chain-returns-in_err-next t c =
    let e : drop c.loop-e.e-index c.as_slice-e-items.result.now ≡ c.e-item.result ∷ drop (c.loop-e.e-index + 1) c.as_slice-e-items.result.now = grind (arith, common_steps) in
    let h : Answers {T = Value} (Err c.in_err-next.field-0.0) (of_two c.args.op (Ok c.loop-e.value) (Eval c.e-item.result c.args.row.now c.args.binds.now)) = search rules in
    let all = ap (λ ys. fold (of_two c.args.op) (Ok c.args.first.now) (map (λ x. Eval x c.args.row.now c.args.binds.now) ys)) c.as_slice-e-items.ensures in
    let p = err_from_is_err_and c.from_residual.result c.from_residual.ensures.1 in
    rw (p.1, p.2) (stops _ _ _ h (λ code k. fold_stops (of_two c.args.op) (λ x. Eval x c.args.row.now c.args.binds.now) _ _ _ _ code _ e (c.loop-e.invariant ∙ all) k (chain_raises c.args.op)))

pub sum-loop-addend-preserved : goal.sum-loop-addend-preserved
sum-loop-addend-preserved t c =
    let e : drop c.loop-addend.addend-index c.as_slice-addend-items.result.now ≡ c.addend-item.result ∷ drop (c.loop-addend.addend-index + 1) c.as_slice-addend-items.result.now = grind (arith, common_steps) in
    let n : added (Ok c.loop-addend.value) (term_of c.addend-item.result c.args.row.now c.args.binds.now) ≡ Ok c.in_ok-next.next = search (rules, the_lemmas, term_of-out) in
    let k : added (Ok c.loop-addend.value) (term_of c.addend-item.result c.args.row.now c.args.binds.now) ≡ Ok c.made-value.result = n ∙ ap (λ v. Ok v) (sym c.made-value.ensures) in
    fold_more added (λ x. term_of x c.args.row.now c.args.binds.now) _ _ _ _ _ _ e c.loop-addend.invariant k

pub sum-returns-in_err-next : goal.sum-returns-in_err-next
sum-returns-in_err-next t c =
    let e : drop c.loop-addend.addend-index c.as_slice-addend-items.result.now ≡ c.addend-item.result ∷ drop (c.loop-addend.addend-index + 1) c.as_slice-addend-items.result.now = grind (arith, common_steps) in
    let h : Answers {T = Value} (Err c.in_err-next.field-0.0) (added (Ok c.loop-addend.value) (term_of c.addend-item.result c.args.row.now c.args.binds.now)) = search (rules, the_lemmas, term_of-out) in
    let all = ap (λ ys. fold added (Ok c.args.first.now) (map (λ x. term_of x c.args.row.now c.args.binds.now) ys)) c.as_slice-addend-items.ensures in
    let p = err_from_is_err_and c.from_residual.result c.from_residual.ensures.1 in
    rw (p.1, p.2) (stops _ _ _ h (λ code k. fold_stops added (λ x. term_of x c.args.row.now c.args.binds.now) _ _ _ _ code _ e (c.loop-addend.invariant ∙ all) k sum_raises))

pub among-returns-in_err-found : goal.among-returns-in_err-found
among-returns-in_err-found t c =
    let e : drop c.loop-e.e-index c.as_slice-e-items.result.now ≡ c.e-item.result ∷ drop (c.loop-e.e-index + 1) c.as_slice-e-items.result.now = grind (arith, common_steps) in
    let h : Answers {T = Value} (Err c.in_err-found.field-0.0) (of_two op.Or (Ok c.loop-e.found) (of_two op.Equal (Ok c.args.x.now) (Eval c.e-item.result c.args.row.now c.args.binds.now))) = search rules in
    let same : found_among c.loop-e.found c.args.x.now (map (λ x. Eval x c.args.row.now c.args.binds.now) (drop c.loop-e.e-index c.as_slice-e-items.result.now)) ≡ found_among (value.Bool false) c.args.x.now (map (λ x. Eval x c.args.row.now c.args.binds.now) c.args.list.now) =
    c.loop-e.invariant ∙ ap (λ xs. found_among (value.Bool false) c.args.x.now (map (λ x. Eval x c.args.row.now c.args.binds.now) xs)) c.as_slice-e-items.ensures in
    let p = err_from_is_err_and c.from_residual.result c.from_residual.ensures.1 in
    rw (p.1, p.2) (stops _ _ _ h (λ code k. among_stops c.args.x.now c.loop-e.found _ _ _ _ code (ap (map (λ x. Eval x c.args.row.now c.args.binds.now)) e) same k))
