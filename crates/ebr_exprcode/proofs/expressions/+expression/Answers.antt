use Rattle.std.proofs.Common.{◌≡◌, ◌+◌, [], ◌∷◌, drop, map, length, refl, sym, ◌∙◌, arith, rules, append_assoc}
use Rattle.std.proofs.lemmas.Grind.{common_steps}
use Rattle.std.proofs.lemmas.List.{length-map}
use Rattle.std.proofs.lemmas.Result.{on_ok_weaker}
use Rattle.ebr_exprtree.specs.declared.expression.Expr.TheViews.{the_lemmas}
use Rattle.ebr_value.specs.declared.form.BinOp.TheVariants as op
use Rattle.ebr_run.specs.Scope.{applied}
use Rattle.ebr_code.specs.Codes.{expr_code, term_code, right_code, further_code, summed_code, among_code, beside, listed}
use Rattle.ebr_exprcode.proofs.Laws.{expr_code-out, term_code-out, more, is_done, on_ok_both, applied_known, applied_unknown, among_ended}
use Rattle.ebr_exprcode.proofs.expressions.+expression.Goals as goal

pub expression-returns-in-Attribute : goal.expression-returns-in-Attribute
expression-returns-in-Attribute t c = search (rules, the_lemmas, expr_code-out, append_assoc)

pub expression-returns-in-Bind : goal.expression-returns-in-Bind
expression-returns-in-Bind t c = search (rules, the_lemmas, expr_code-out, append_assoc)

pub expression-returns-in-Boolean : goal.expression-returns-in-Boolean
expression-returns-in-Boolean t c = search (rules, the_lemmas, expr_code-out, append_assoc)

pub expression-returns-in-Call : goal.expression-returns-in-Call
expression-returns-in-Call t c = search (rules, the_lemmas, expr_code-out, append_assoc)

pub expression-returns-in-Firing : goal.expression-returns-in-Firing
expression-returns-in-Firing t c = search (rules, the_lemmas, expr_code-out, append_assoc)

pub expression-returns-in-Name : goal.expression-returns-in-Name
expression-returns-in-Name t c = search (rules, the_lemmas, expr_code-out, append_assoc)

pub expression-returns-in-Null : goal.expression-returns-in-Null
expression-returns-in-Null t c = search (rules, the_lemmas, expr_code-out, append_assoc)

pub expression-returns-in-Number : goal.expression-returns-in-Number
expression-returns-in-Number t c = search (rules, the_lemmas, expr_code-out, append_assoc)

pub expression-returns-in-Place : goal.expression-returns-in-Place
expression-returns-in-Place t c = search (rules, the_lemmas, expr_code-out, append_assoc)

pub expression-returns-in-Row : goal.expression-returns-in-Row
expression-returns-in-Row t c = search (rules, the_lemmas, expr_code-out, append_assoc)

pub expression-returns-in-SqlCode : goal.expression-returns-in-SqlCode
expression-returns-in-SqlCode t c = search (rules, the_lemmas, expr_code-out, append_assoc)

pub expression-returns-in-Text : goal.expression-returns-in-Text
expression-returns-in-Text t c = search (rules, the_lemmas, expr_code-out, append_assoc)

pub expression-returns-in_ok-act-in-IsNull : goal.expression-returns-in_ok-act-in-IsNull
expression-returns-in_ok-act-in-IsNull t c = search (rules, the_lemmas, expr_code-out, append_assoc)

pub expression-returns-in_ok-among-in-In : goal.expression-returns-in_ok-among-in-In
unfolding expr_code
expression-returns-in_ok-among-in-In t c = search (rules, the_lemmas, expr_code-out, append_assoc)

pub expression-returns-in_ok-below-in-Between : goal.expression-returns-in_ok-below-in-Between
expression-returns-in_ok-below-in-Between t c = search (rules, the_lemmas, expr_code-out, append_assoc)

pub expression-returns-in_ok-expression-in-And : goal.expression-returns-in_ok-expression-in-And
expression-returns-in_ok-expression-in-And t c = search (rules, the_lemmas, expr_code-out, append_assoc)

pub expression-returns-in_ok-expression-in-Compare : goal.expression-returns-in_ok-expression-in-Compare
expression-returns-in_ok-expression-in-Compare t c = search (rules, the_lemmas, expr_code-out, append_assoc)

pub expression-returns-in_ok-expression-in-Minus : goal.expression-returns-in_ok-expression-in-Minus
expression-returns-in_ok-expression-in-Minus t c = search (rules, the_lemmas, expr_code-out, append_assoc)

pub expression-returns-in_ok-expression-in-Not : goal.expression-returns-in_ok-expression-in-Not
expression-returns-in_ok-expression-in-Not t c = search (rules, the_lemmas, expr_code-out, append_assoc)

pub expression-returns-in_ok-expression-in-Or : goal.expression-returns-in_ok-expression-in-Or
expression-returns-in_ok-expression-in-Or t c = search (rules, the_lemmas, expr_code-out, append_assoc)

pub expression-returns-in_ok-expression-in-Plus : goal.expression-returns-in_ok-expression-in-Plus
expression-returns-in_ok-expression-in-Plus t c = search (rules, the_lemmas, expr_code-out, append_assoc)

pub expression-returns-in_ok-expression-in-Product : goal.expression-returns-in_ok-expression-in-Product
expression-returns-in_ok-expression-in-Product t c = search (rules, the_lemmas, expr_code-out, append_assoc)

pub expression-returns-in_ok-expression-in-Quotient : goal.expression-returns-in_ok-expression-in-Quotient
expression-returns-in_ok-expression-in-Quotient t c = search (rules, the_lemmas, expr_code-out, append_assoc)

pub expression-returns-in_ok-expression-in-Sum : goal.expression-returns-in_ok-expression-in-Sum
expression-returns-in_ok-expression-in-Sum t c = search (rules, the_lemmas, expr_code-out, append_assoc)

pub expression-returns-in_ok-right-in-Like : goal.expression-returns-in_ok-right-in-Like
expression-returns-in_ok-right-in-Like t c = search (rules, the_lemmas, expr_code-out, append_assoc)

pub right-returns-in_ok-expression : goal.right-returns-in_ok-expression
right-returns-in_ok-expression t c = search (rules, append_assoc, length-map)

pub above-returns : goal.above-returns
above-returns t c = search (rules, append_assoc, length-map)

pub below-returns : goal.below-returns
below-returns t c = search (rules, append_assoc, length-map)

pub decided-returns : goal.decided-returns
decided-returns t c = search (rules, append_assoc, length-map)

pub beside-returns : goal.beside-returns
beside-returns t c = search (rules, append_assoc, length-map)

pub compared-returns : goal.compared-returns
compared-returns t c = search (rules, append_assoc, length-map)

pub among-returns : goal.among-returns
among-returns t c =
    let r : drop c.loop-e.e-index c.as_slice-e-items.result.now ≡ [] = grind (arith, common_steps) in
    on_ok_weaker c.act-2.result
    (among_ended c.args.around.now c.args.list.now c.as_slice-e-items.result.now _ c.args.out.now c.act.new.out c.loop-e.out c.act-2.new.out c.as_slice-e-items.ensures r c.loop-e.invariant c.in_ok-act.ensures)
    c.act-2.ensures

pub calls-returns-in_ok-operands-in-Some : goal.calls-returns-in_ok-operands-in-Some
calls-returns-in_ok-operands-in-Some t c = search (rules, append_assoc, length-map)

pub calls-returns-in-None : goal.calls-returns-in-None
calls-returns-in-None t c = search (rules, append_assoc, length-map)

pub term-returns : goal.term-returns
term-returns t c = search (rules, term_code-out, append_assoc)

pub applies-returns-in-Some : goal.applies-returns-in-Some
applies-returns-in-Some t c =
    let n : c.len.result ≡ length (map expr_code c.args.list.now) = search (rules, length-map) in
    on_ok_weaker c.call_behind.result
    (λ e. applied_known (applied c.args.around.now c.args.path.now) (map expr_code c.args.list.now) c.args.around.now c.in-Some.callee c.len.result c.args.out.now c.operands-done.new.out c.call_behind.new.out
    (sym c.in-Some.is ∙ c.in_ok-callee.ensures) n (is_done c.operands-done.result e.1 c.operands-done.ensures) e.0)
    (on_ok_both _ _ c.call_behind.result c.call_behind.ensures.call c.call_behind.ensures.done)

pub applies-returns-in-None : goal.applies-returns-in-None
applies-returns-in-None t c =
    on_ok_weaker c.act.result
    (applied_unknown (applied c.args.around.now c.args.path.now) (map expr_code c.args.list.now) c.args.around.now c.len.result c.args.out.now c.act.new.out (sym c.in-None.is ∙ c.in_ok-callee.ensures))
    c.act.ensures

pub further-loop-e-preserved : goal.further-loop-e-preserved
further-loop-e-preserved t c =
    let e : drop c.loop-e.e-index c.as_slice-e-items.result.now ≡ c.e-item.result ∷ drop (c.loop-e.e-index + 1) c.as_slice-e-items.result.now = grind (arith, common_steps) in
    more (λ es. further_code c.args.op (map expr_code es) c.args.around.now) (λ x. right_code c.args.op (expr_code x c.args.around.now)) (λ x xs. refl) _ _ _ _ _ _ e c.loop-e.invariant (search rules)

pub summed-loop-addend-preserved : goal.summed-loop-addend-preserved
summed-loop-addend-preserved t c =
    let e : drop c.loop-addend.addend-index c.as_slice-addend-items.result.now ≡ c.addend-item.result ∷ drop (c.loop-addend.addend-index + 1) c.as_slice-addend-items.result.now = grind (arith, common_steps) in
    more (λ ts. summed_code (map term_code ts) c.args.around.now) (λ x. right_code (term_code x).operator ((term_code x).operand c.args.around.now)) (λ x xs. refl) _ _ _ _ _ _ e c.loop-addend.invariant (search rules)

pub among-loop-e-preserved : goal.among-loop-e-preserved
among-loop-e-preserved t c =
    let e : drop c.loop-e.e-index c.as_slice-e-items.result.now ≡ c.e-item.result ∷ drop (c.loop-e.e-index + 1) c.as_slice-e-items.result.now = grind (arith, common_steps) in
    more (λ es. among_code (map expr_code es) c.args.around.now) (λ x. right_code op.Or (beside op.Equal (expr_code x c.args.around.now))) (λ x xs. refl) _ _ _ _ _ _ e c.loop-e.invariant (search rules)

pub operands-loop-e-preserved : goal.operands-loop-e-preserved
operands-loop-e-preserved t c =
    let e : drop c.loop-e.e-index c.as_slice-e-items.result.now ≡ c.e-item.result ∷ drop (c.loop-e.e-index + 1) c.as_slice-e-items.result.now = grind (arith, common_steps) in
    more (λ es. listed (map expr_code es) c.args.around.now) (λ x. expr_code x c.args.around.now) (λ x xs. refl) _ _ _ _ _ _ e c.loop-e.invariant (search rules)
