use Rattle.std.proofs.Common.{◌≡◌, ◌+◌, [], ◌∷◌, drop, subst, map, arith, rules, append_assoc, append-nil, ⊎_elim}
use Rattle.std.proofs.lemmas.Grind.{common_steps}
use Rattle.std.proofs.lemmas.List.{length-append}
use Rattle.ebr_exprtree.specs.declared.expression.Expr.TheViews.{the_lemmas, roll-Addend}
use Rattle.ebr_exprtree.specs.declared.expression.Addend.{out-Addend}
use Rattle.ebr_run.specs.Binds.{bind_all, bound_expr, bound_term}
use Rattle.ebr_binds.proofs.Laws.{bound_expr-out, bound_term-out, name-origin, image-origin, bound-Product, bound-In, bound-And, bound-Or, bound-Sum, Keeps, one_more}
use Rattle.ebr_binds.proofs.expressions.+expression.Goals as goal

pub expression-returns-in_ok-origin-in-Name-clause-tree : goal.expression-returns-in_ok-origin-in-Name-clause-tree
expression-returns-in_ok-origin-in-Name-clause-tree t c = search (rules, the_lemmas, bound_expr-out, name-origin)

pub expression-returns-in_ok-origin-in-Name-clause-binds : goal.expression-returns-in_ok-origin-in-Name-clause-binds
expression-returns-in_ok-origin-in-Name-clause-binds t c = search (rules, the_lemmas, bound_expr-out, name-origin)

pub expression-returns-in-Row-clause-tree : goal.expression-returns-in-Row-clause-tree
expression-returns-in-Row-clause-tree t c = search (rules, the_lemmas, bound_expr-out, image-origin)

pub expression-returns-in-Row-clause-binds : goal.expression-returns-in-Row-clause-binds
expression-returns-in-Row-clause-binds t c = search (rules, the_lemmas, bound_expr-out, image-origin)

pub expression-returns-in_ok-operands-in-Call-clause-tree : goal.expression-returns-in_ok-operands-in-Call-clause-tree
expression-returns-in_ok-operands-in-Call-clause-tree t c = search (rules, the_lemmas, bound_expr-out)

pub expression-returns-in_ok-operands-in-Call-clause-binds : goal.expression-returns-in_ok-operands-in-Call-clause-binds
expression-returns-in_ok-operands-in-Call-clause-binds t c = search (rules, the_lemmas, bound_expr-out)

pub expression-returns-in_ok-a-in-Plus-clause-tree : goal.expression-returns-in_ok-a-in-Plus-clause-tree
expression-returns-in_ok-a-in-Plus-clause-tree t c =
    ⊎_elim (λ e. search (rules, the_lemmas, bound_expr-out))
    (⊎_elim (λ e. search (rules, the_lemmas, bound_expr-out))
    (⊎_elim (λ e. search (rules, the_lemmas, bound_expr-out))
    (λ e. let h = e.1 in search (rules, the_lemmas, bound_expr-out))))
    c.in-Plus.is

pub expression-returns-in_ok-a-in-Plus-clause-binds : goal.expression-returns-in_ok-a-in-Plus-clause-binds
expression-returns-in_ok-a-in-Plus-clause-binds t c =
    ⊎_elim (λ e. search (rules, the_lemmas, bound_expr-out))
    (⊎_elim (λ e. search (rules, the_lemmas, bound_expr-out))
    (⊎_elim (λ e. search (rules, the_lemmas, bound_expr-out))
    (λ e. let h = e.1 in search (rules, the_lemmas, bound_expr-out))))
    c.in-Plus.is

pub expression-returns-in_ok-b-in-Quotient-clause-tree : goal.expression-returns-in_ok-b-in-Quotient-clause-tree
expression-returns-in_ok-b-in-Quotient-clause-tree t c =
    ⊎_elim (λ e. search (rules, the_lemmas, bound_expr-out, length-append, append_assoc))
    (⊎_elim (λ e. let h = e.1 in search (rules, the_lemmas, bound_expr-out, length-append, append_assoc))
    (λ e. let h = e.1 in search (rules, the_lemmas, bound_expr-out, length-append, append_assoc)))
    c.in-Quotient.is

pub expression-returns-in_ok-b-in-Quotient-clause-binds : goal.expression-returns-in_ok-b-in-Quotient-clause-binds
expression-returns-in_ok-b-in-Quotient-clause-binds t c =
    ⊎_elim (λ e. search (rules, the_lemmas, bound_expr-out, length-append, append_assoc))
    (⊎_elim (λ e. let h = e.1 in search (rules, the_lemmas, bound_expr-out, length-append, append_assoc))
    (λ e. let h = e.1 in search (rules, the_lemmas, bound_expr-out, length-append, append_assoc)))
    c.in-Quotient.is

pub expression-returns-in_ok-b-in-Between-clause-tree : goal.expression-returns-in_ok-b-in-Between-clause-tree
expression-returns-in_ok-b-in-Between-clause-tree t c = search (rules, the_lemmas, bound_expr-out, length-append, append_assoc)

pub expression-returns-in_ok-b-in-Between-clause-binds : goal.expression-returns-in_ok-b-in-Between-clause-binds
expression-returns-in_ok-b-in-Between-clause-binds t c = search (rules, the_lemmas, bound_expr-out, length-append, append_assoc)

pub expression-returns-in_ok-more-in-Product-clause-tree : goal.expression-returns-in_ok-more-in-Product-clause-tree
expression-returns-in_ok-more-in-Product-clause-tree t c =
    ⊎_elim (λ e. search (rules, the_lemmas, bound-Product, length-append, append_assoc))
    (⊎_elim (λ e. let h = e.1 in search (rules, the_lemmas, bound-In, length-append, append_assoc))
    (⊎_elim (λ e. search (rules, the_lemmas, bound-And, length-append, append_assoc))
    (λ e. search (rules, the_lemmas, bound-Or, length-append, append_assoc))))
    c.in-Product.is

pub expression-returns-in_ok-more-in-Product-clause-binds : goal.expression-returns-in_ok-more-in-Product-clause-binds
expression-returns-in_ok-more-in-Product-clause-binds t c =
    ⊎_elim (λ e. search (rules, the_lemmas, bound-Product, length-append, append_assoc))
    (⊎_elim (λ e. let h = e.1 in search (rules, the_lemmas, bound-In, length-append, append_assoc))
    (⊎_elim (λ e. search (rules, the_lemmas, bound-And, length-append, append_assoc))
    (λ e. search (rules, the_lemmas, bound-Or, length-append, append_assoc))))
    c.in-Product.is

pub expression-returns-in_ok-more-in-Sum-clause-tree : goal.expression-returns-in_ok-more-in-Sum-clause-tree
expression-returns-in_ok-more-in-Sum-clause-tree t c = search (rules, the_lemmas, bound-Sum, length-append, append_assoc)

pub expression-returns-in_ok-more-in-Sum-clause-binds : goal.expression-returns-in_ok-more-in-Sum-clause-binds
expression-returns-in_ok-more-in-Sum-clause-binds t c = search (rules, the_lemmas, bound-Sum, length-append, append_assoc)

pub expression-returns-in-Number-clause-tree : goal.expression-returns-in-Number-clause-tree
expression-returns-in-Number-clause-tree t c =
    ⊎_elim (λ e. search (rules, the_lemmas, bound_expr-out, append-nil))
    (⊎_elim (λ e. search (rules, the_lemmas, bound_expr-out, append-nil))
    (⊎_elim (λ e. search (rules, the_lemmas, bound_expr-out, append-nil))
    (⊎_elim (λ e. search (rules, the_lemmas, bound_expr-out, append-nil))
    (⊎_elim (λ e. search (rules, the_lemmas, bound_expr-out, append-nil))
    (⊎_elim (λ e. search (rules, the_lemmas, bound_expr-out, append-nil))
    (⊎_elim (λ e. search (rules, the_lemmas, bound_expr-out, append-nil))
    (⊎_elim (λ e. search (rules, the_lemmas, bound_expr-out, append-nil))
    (λ e. search (rules, the_lemmas, bound_expr-out, append-nil)))))))))
    c.in-Number.is

pub expression-returns-in-Number-clause-binds : goal.expression-returns-in-Number-clause-binds
expression-returns-in-Number-clause-binds t c =
    ⊎_elim (λ e. search (rules, the_lemmas, bound_expr-out, append-nil))
    (⊎_elim (λ e. search (rules, the_lemmas, bound_expr-out, append-nil))
    (⊎_elim (λ e. search (rules, the_lemmas, bound_expr-out, append-nil))
    (⊎_elim (λ e. search (rules, the_lemmas, bound_expr-out, append-nil))
    (⊎_elim (λ e. search (rules, the_lemmas, bound_expr-out, append-nil))
    (⊎_elim (λ e. search (rules, the_lemmas, bound_expr-out, append-nil))
    (⊎_elim (λ e. search (rules, the_lemmas, bound_expr-out, append-nil))
    (⊎_elim (λ e. search (rules, the_lemmas, bound_expr-out, append-nil))
    (λ e. search (rules, the_lemmas, bound_expr-out, append-nil)))))))))
    c.in-Number.is

pub expressions-loop-e-preserved : goal.expressions-loop-e-preserved
expressions-loop-e-preserved t c =
    let e : drop c.loop-e.e-index c.as_slice-e-items.result.now ≡ c.e-item.result ∷ drop (c.loop-e.e-index + 1) c.as_slice-e-items.result.now = grind (arith, common_steps) in
    one_more (bind_all (map (bound_expr c.args.relations.now c.args.around.now) c.as_slice-e-items.result.now)) c.args.binds.now ((bound_expr c.args.relations.now c.args.around.now) c.e-item.result) (map (bound_expr c.args.relations.now c.args.around.now) (drop (c.loop-e.e-index + 1) c.as_slice-e-items.result.now)) c.loop-e.bound c.push.new.self c.loop-e.binds c.expression.new.binds c.in_ok-tree.tree (subst (λ xs. Keeps (bind_all (map (bound_expr c.args.relations.now c.args.around.now) c.as_slice-e-items.result.now)) c.args.binds.now (map (bound_expr c.args.relations.now c.args.around.now) xs) c.loop-e.bound c.loop-e.binds) e c.loop-e.invariant) (search rules) (search rules) (search rules)

pub expressions-returns-clause-trees : goal.expressions-returns-clause-trees
expressions-returns-clause-trees t c =
    let e : drop c.loop-e.e-index c.as_slice-e-items.result.now ≡ [] = grind (arith, common_steps) in
    let k : Keeps (bind_all (map (bound_expr c.args.relations.now c.args.around.now) c.as_slice-e-items.result.now)) c.args.binds.now [] c.loop-e.bound c.loop-e.binds = subst (λ xs. Keeps (bind_all (map (bound_expr c.args.relations.now c.args.around.now) c.as_slice-e-items.result.now)) c.args.binds.now (map (bound_expr c.args.relations.now c.args.around.now) xs) c.loop-e.bound c.loop-e.binds) e c.loop-e.invariant in
    let h = k.trees in search (rules, append-nil)

pub expressions-returns-clause-binds : goal.expressions-returns-clause-binds
expressions-returns-clause-binds t c =
    let e : drop c.loop-e.e-index c.as_slice-e-items.result.now ≡ [] = grind (arith, common_steps) in
    let k : Keeps (bind_all (map (bound_expr c.args.relations.now c.args.around.now) c.as_slice-e-items.result.now)) c.args.binds.now [] c.loop-e.bound c.loop-e.binds = subst (λ xs. Keeps (bind_all (map (bound_expr c.args.relations.now c.args.around.now) c.as_slice-e-items.result.now)) c.args.binds.now (map (bound_expr c.args.relations.now c.args.around.now) xs) c.loop-e.bound c.loop-e.binds) e c.loop-e.invariant in
    let h = k.all in search (rules, append-nil)

pub terms-loop-addend-preserved : goal.terms-loop-addend-preserved
terms-loop-addend-preserved t c =
    let e : drop c.loop-addend.addend-index c.as_slice-addend-items.result.now ≡ c.addend-item.result ∷ drop (c.loop-addend.addend-index + 1) c.as_slice-addend-items.result.now = grind (arith, common_steps) in
    one_more (bind_all (map (bound_term c.args.relations.now c.args.around.now) c.as_slice-addend-items.result.now)) c.args.binds.now ((bound_term c.args.relations.now c.args.around.now) c.addend-item.result) (map (bound_term c.args.relations.now c.args.around.now) (drop (c.loop-addend.addend-index + 1) c.as_slice-addend-items.result.now)) c.loop-addend.bound c.push.new.self c.loop-addend.binds c.expression.new.binds (roll-Addend (record { operator = (out-Addend c.addend-item.result).operator; term = c.in_ok-term.term })) (subst (λ xs. Keeps (bind_all (map (bound_term c.args.relations.now c.args.around.now) c.as_slice-addend-items.result.now)) c.args.binds.now (map (bound_term c.args.relations.now c.args.around.now) xs) c.loop-addend.bound c.loop-addend.binds) e c.loop-addend.invariant) (search (rules, bound_term-out)) (search (rules, bound_term-out)) (search rules)

pub terms-returns-clause-trees : goal.terms-returns-clause-trees
terms-returns-clause-trees t c =
    let e : drop c.loop-addend.addend-index c.as_slice-addend-items.result.now ≡ [] = grind (arith, common_steps) in
    let k : Keeps (bind_all (map (bound_term c.args.relations.now c.args.around.now) c.as_slice-addend-items.result.now)) c.args.binds.now [] c.loop-addend.bound c.loop-addend.binds = subst (λ xs. Keeps (bind_all (map (bound_term c.args.relations.now c.args.around.now) c.as_slice-addend-items.result.now)) c.args.binds.now (map (bound_term c.args.relations.now c.args.around.now) xs) c.loop-addend.bound c.loop-addend.binds) e c.loop-addend.invariant in
    let h = k.trees in search (rules, append-nil)

pub terms-returns-clause-binds : goal.terms-returns-clause-binds
terms-returns-clause-binds t c =
    let e : drop c.loop-addend.addend-index c.as_slice-addend-items.result.now ≡ [] = grind (arith, common_steps) in
    let k : Keeps (bind_all (map (bound_term c.args.relations.now c.args.around.now) c.as_slice-addend-items.result.now)) c.args.binds.now [] c.loop-addend.bound c.loop-addend.binds = subst (λ xs. Keeps (bind_all (map (bound_term c.args.relations.now c.args.around.now) c.as_slice-addend-items.result.now)) c.args.binds.now (map (bound_term c.args.relations.now c.args.around.now) xs) c.loop-addend.bound c.loop-addend.binds) e c.loop-addend.invariant in
    let h = k.all in search (rules, append-nil)
