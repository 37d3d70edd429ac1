use Rattle.std.proofs.Common.{◌≡◌, suc, ◌+◌, [], ◌∷◌, ◌++◌, Some, drop, map, refl, arith, rules}
use Rattle.std.proofs.lemmas.Grind.{common_steps}
use Rattle.std.proofs.lemmas.List.{length-map}
use Rattle.ebr_exprtree.specs.declared.expression.Expr.TheViews.{the_lemmas}
use Rattle.ebr_exprtree.specs.declared.expression.Comparison.TheVariants as comparison
use Rattle.ebr_sqlcheck.specs.Functions.{taken}
use Rattle.ebr_sqlcheck.specs.Operands.{sum_type}
use Rattle.ebr_sqlcheck.specs.Types.{first_known}
use Rattle.ebr_scope.specs.Lent.{env}
use Rattle.ebr_validity.specs.Sites.{Fits}
use Rattle.ebr_validity.specs.Expressions.{reading_of, term_of, sites_of, type_of, wanted, all_wanted, compared, all_compared, added_sites, sum_from, one_type, operands_from, passed, arguments}
use Rattle.ebr_rules.proofs.Laws.{reading_of-out, term_of-out, noted_append, more, more_with}
use Rattle.ebr_rules.proofs.expressions.+expression.Goals as goal

pub expression-returns-in-Number-clause-typed : goal.expression-returns-in-Number-clause-typed
expression-returns-in-Number-clause-typed t c = search (rules, the_lemmas, reading_of-out, noted_append)

pub expression-returns-in-Number-clause-least : goal.expression-returns-in-Number-clause-least
expression-returns-in-Number-clause-least t c = search (rules, the_lemmas, reading_of-out, noted_append)

pub expression-returns-in-Text-clause-typed : goal.expression-returns-in-Text-clause-typed
expression-returns-in-Text-clause-typed t c = search (rules, the_lemmas, reading_of-out, noted_append)

pub expression-returns-in-Text-clause-least : goal.expression-returns-in-Text-clause-least
expression-returns-in-Text-clause-least t c = search (rules, the_lemmas, reading_of-out, noted_append)

pub expression-returns-in-Null-clause-typed : goal.expression-returns-in-Null-clause-typed
expression-returns-in-Null-clause-typed t c = search (rules, the_lemmas, reading_of-out, noted_append)

pub expression-returns-in-Null-clause-least : goal.expression-returns-in-Null-clause-least
expression-returns-in-Null-clause-least t c = search (rules, the_lemmas, reading_of-out, noted_append)

pub expression-returns-in-Boolean-clause-typed : goal.expression-returns-in-Boolean-clause-typed
expression-returns-in-Boolean-clause-typed t c = search (rules, the_lemmas, reading_of-out, noted_append)

pub expression-returns-in-Boolean-clause-least : goal.expression-returns-in-Boolean-clause-least
expression-returns-in-Boolean-clause-least t c = search (rules, the_lemmas, reading_of-out, noted_append)

pub expression-returns-in-Name-clause-typed : goal.expression-returns-in-Name-clause-typed
expression-returns-in-Name-clause-typed t c = search (rules, the_lemmas, reading_of-out, noted_append)

pub expression-returns-in-Name-clause-least : goal.expression-returns-in-Name-clause-least
expression-returns-in-Name-clause-least t c = search (rules, the_lemmas, reading_of-out, noted_append)

pub expression-returns-in-Call-clause-typed : goal.expression-returns-in-Call-clause-typed
expression-returns-in-Call-clause-typed t c = search (rules, the_lemmas, reading_of-out, noted_append, length-map)

pub expression-returns-in-Call-clause-least : goal.expression-returns-in-Call-clause-least
expression-returns-in-Call-clause-least t c = search (rules, the_lemmas, reading_of-out, noted_append, length-map)

pub expression-returns-in-Quotient-clause-typed : goal.expression-returns-in-Quotient-clause-typed
expression-returns-in-Quotient-clause-typed t c = search (rules, the_lemmas, reading_of-out, noted_append)

pub expression-returns-in-Quotient-clause-least : goal.expression-returns-in-Quotient-clause-least
expression-returns-in-Quotient-clause-least t c = search (rules, the_lemmas, reading_of-out, noted_append)

pub expression-returns-in-Row-clause-typed : goal.expression-returns-in-Row-clause-typed
expression-returns-in-Row-clause-typed t c = search (rules, the_lemmas, reading_of-out, noted_append)

pub expression-returns-in-Row-clause-least : goal.expression-returns-in-Row-clause-least
expression-returns-in-Row-clause-least t c = search (rules, the_lemmas, reading_of-out, noted_append)

pub expression-returns-in-SqlCode-clause-typed : goal.expression-returns-in-SqlCode-clause-typed
expression-returns-in-SqlCode-clause-typed t c = search (rules, the_lemmas, reading_of-out, noted_append)

pub expression-returns-in-SqlCode-clause-least : goal.expression-returns-in-SqlCode-clause-least
expression-returns-in-SqlCode-clause-least t c = search (rules, the_lemmas, reading_of-out, noted_append)

pub expression-returns-in-Firing-clause-typed : goal.expression-returns-in-Firing-clause-typed
expression-returns-in-Firing-clause-typed t c = search (rules, the_lemmas, reading_of-out, noted_append)

pub expression-returns-in-Firing-clause-least : goal.expression-returns-in-Firing-clause-least
expression-returns-in-Firing-clause-least t c = search (rules, the_lemmas, reading_of-out, noted_append)

pub expression-returns-in-Attribute-clause-typed : goal.expression-returns-in-Attribute-clause-typed
expression-returns-in-Attribute-clause-typed t c = search (rules, the_lemmas, reading_of-out, noted_append)

pub expression-returns-in-Attribute-clause-least : goal.expression-returns-in-Attribute-clause-least
expression-returns-in-Attribute-clause-least t c = search (rules, the_lemmas, reading_of-out, noted_append)

pub expression-returns-in-Plus-clause-typed : goal.expression-returns-in-Plus-clause-typed
expression-returns-in-Plus-clause-typed t c = search (rules, the_lemmas, reading_of-out, noted_append)

pub expression-returns-in-Plus-clause-least : goal.expression-returns-in-Plus-clause-least
expression-returns-in-Plus-clause-least t c = search (rules, the_lemmas, reading_of-out, noted_append)

pub expression-returns-in-Minus-clause-typed : goal.expression-returns-in-Minus-clause-typed
expression-returns-in-Minus-clause-typed t c = search (rules, the_lemmas, reading_of-out, noted_append)

pub expression-returns-in-Minus-clause-least : goal.expression-returns-in-Minus-clause-least
expression-returns-in-Minus-clause-least t c = search (rules, the_lemmas, reading_of-out, noted_append)

pub expression-returns-in-Product-clause-typed : goal.expression-returns-in-Product-clause-typed
expression-returns-in-Product-clause-typed t c = search (rules, the_lemmas, reading_of-out, noted_append)

pub expression-returns-in-Product-clause-least : goal.expression-returns-in-Product-clause-least
expression-returns-in-Product-clause-least t c = search (rules, the_lemmas, reading_of-out, noted_append)

pub expression-returns-in-Sum-clause-typed : goal.expression-returns-in-Sum-clause-typed
expression-returns-in-Sum-clause-typed t c = search (rules, the_lemmas, reading_of-out, noted_append)

pub expression-returns-in-Sum-clause-least : goal.expression-returns-in-Sum-clause-least
expression-returns-in-Sum-clause-least t c = search (rules, the_lemmas, reading_of-out, noted_append)

pub expression-returns-in-Compare-clause-typed : goal.expression-returns-in-Compare-clause-typed
expression-returns-in-Compare-clause-typed t c = search (rules, the_lemmas, reading_of-out, noted_append)

pub expression-returns-in-Compare-clause-least : goal.expression-returns-in-Compare-clause-least
expression-returns-in-Compare-clause-least t c = search (rules, the_lemmas, reading_of-out, noted_append)

pub expression-returns-in-IsNull-clause-typed : goal.expression-returns-in-IsNull-clause-typed
expression-returns-in-IsNull-clause-typed t c = search (rules, the_lemmas, reading_of-out, noted_append)

pub expression-returns-in-IsNull-clause-least : goal.expression-returns-in-IsNull-clause-least
expression-returns-in-IsNull-clause-least t c = search (rules, the_lemmas, reading_of-out, noted_append)

pub expression-returns-in-Between-clause-typed : goal.expression-returns-in-Between-clause-typed
expression-returns-in-Between-clause-typed t c = search (rules, the_lemmas, reading_of-out, noted_append)

pub expression-returns-in-Between-clause-least : goal.expression-returns-in-Between-clause-least
expression-returns-in-Between-clause-least t c = search (rules, the_lemmas, reading_of-out, noted_append)

pub expression-returns-in-In-clause-typed : goal.expression-returns-in-In-clause-typed
expression-returns-in-In-clause-typed t c = search (rules, the_lemmas, reading_of-out, noted_append)

pub expression-returns-in-In-clause-least : goal.expression-returns-in-In-clause-least
expression-returns-in-In-clause-least t c = search (rules, the_lemmas, reading_of-out, noted_append)

pub expression-returns-in-Like-clause-typed : goal.expression-returns-in-Like-clause-typed
expression-returns-in-Like-clause-typed t c = search (rules, the_lemmas, reading_of-out, noted_append)

pub expression-returns-in-Like-clause-least : goal.expression-returns-in-Like-clause-least
expression-returns-in-Like-clause-least t c = search (rules, the_lemmas, reading_of-out, noted_append)

pub expression-returns-in-Not-clause-typed : goal.expression-returns-in-Not-clause-typed
expression-returns-in-Not-clause-typed t c = search (rules, the_lemmas, reading_of-out, noted_append)

pub expression-returns-in-Not-clause-least : goal.expression-returns-in-Not-clause-least
expression-returns-in-Not-clause-least t c = search (rules, the_lemmas, reading_of-out, noted_append)

pub expression-returns-in-And-clause-typed : goal.expression-returns-in-And-clause-typed
expression-returns-in-And-clause-typed t c = search (rules, the_lemmas, reading_of-out, noted_append)

pub expression-returns-in-And-clause-least : goal.expression-returns-in-And-clause-least
expression-returns-in-And-clause-least t c = search (rules, the_lemmas, reading_of-out, noted_append)

pub expression-returns-in-Or-clause-typed : goal.expression-returns-in-Or-clause-typed
expression-returns-in-Or-clause-typed t c = search (rules, the_lemmas, reading_of-out, noted_append)

pub expression-returns-in-Or-clause-least : goal.expression-returns-in-Or-clause-least
expression-returns-in-Or-clause-least t c = search (rules, the_lemmas, reading_of-out, noted_append)

pub expression-returns-in-Place-clause-typed : goal.expression-returns-in-Place-clause-typed
expression-returns-in-Place-clause-typed t c = search (rules, the_lemmas, reading_of-out, noted_append)

pub expression-returns-in-Place-clause-least : goal.expression-returns-in-Place-clause-least
expression-returns-in-Place-clause-least t c = search (rules, the_lemmas, reading_of-out, noted_append)

pub expression-returns-in-Bind-clause-typed : goal.expression-returns-in-Bind-clause-typed
expression-returns-in-Bind-clause-typed t c = search (rules, the_lemmas, reading_of-out, noted_append)

pub expression-returns-in-Bind-clause-least : goal.expression-returns-in-Bind-clause-least
expression-returns-in-Bind-clause-least t c = search (rules, the_lemmas, reading_of-out, noted_append)

pub wanted-returns : goal.wanted-returns
wanted-returns t c = search (rules, noted_append)

pub compared-returns : goal.compared-returns
compared-returns t c = search (rules, noted_append)

pub added_to-returns : goal.added_to-returns
added_to-returns t c = search (rules, noted_append, term_of-out)

pub all_wanted-loop-e-preserved : goal.all_wanted-loop-e-preserved
all_wanted-loop-e-preserved t c =
    let e : drop c.loop-e.e-index c.as_slice-e-items.result.now ≡ c.e-item.result ∷ drop (c.loop-e.e-index + 1) c.as_slice-e-items.result.now = grind (arith, common_steps) in
    more (λ es. all_wanted c.args.ty (map reading_of es) (env c.args.place.now c.args.known.now)) (λ x. wanted c.args.ty (reading_of x) (env c.args.place.now c.args.known.now)) (λ x xs. refl)
    _ _ _ _ _ _ e c.loop-e.invariant (search rules)

pub all_compared-loop-e-preserved : goal.all_compared-loop-e-preserved
all_compared-loop-e-preserved t c =
    let e : drop c.loop-e.e-index c.as_slice-e-items.result.now ≡ c.e-item.result ∷ drop (c.loop-e.e-index + 1) c.as_slice-e-items.result.now = grind (arith, common_steps) in
    more (λ es. all_compared comparison.Equal c.args.ty (map reading_of es) (env c.args.place.now c.args.known.now)) (λ x. compared comparison.Equal c.args.ty (reading_of x) (env c.args.place.now c.args.known.now)) (λ x xs. refl)
    _ _ _ _ _ _ e c.loop-e.invariant (search rules)

pub sum_from-loop-addend-preserved : goal.sum_from-loop-addend-preserved
sum_from-loop-addend-preserved t c =
    let e : drop c.loop-addend.addend-index c.as_slice-addend-items.result.now ≡ c.addend-item.result ∷ drop (c.loop-addend.addend-index + 1) c.as_slice-addend-items.result.now = grind (arith, common_steps) in
    record {
      typed = search (rules, term_of-out);
      least = more_with (λ ty ts. (sum_from ty (map term_of ts) (env c.args.place.now c.args.known.now)).sites) (λ ty x. added_sites ty (term_of x) (env c.args.place.now c.args.known.now)) (λ ty x. Some (sum_type (term_of x).operator)) (λ s x xs. refl)
          _ _ _ _ _ _ _ _ e c.loop-addend.invariant.least (search rules) (search (rules, term_of-out));
    }

pub one_type-loop-e-preserved : goal.one_type-loop-e-preserved
one_type-loop-e-preserved t c =
    let e : drop c.loop-e.e-index c.as_slice-e-items.result.now ≡ c.e-item.result ∷ drop (c.loop-e.e-index + 1) c.as_slice-e-items.result.now = grind (arith, common_steps) in
    record {
      typed = search rules;
      least = more_with (λ ty es. (one_type ty (map reading_of es) (env c.args.place.now c.args.known.now)).sites)
          (λ ty x. sites_of (reading_of x) (env c.args.place.now c.args.known.now) ++ Fits ty (type_of (reading_of x) (env c.args.place.now c.args.known.now)) ∷ [])
          (λ ty x. first_known ty (type_of (reading_of x) (env c.args.place.now c.args.known.now))) (λ s x xs. refl)
          _ _ _ _ _ _ _ _ e c.loop-e.invariant.least (search (rules, noted_append)) (search rules);
    }

pub operands_of-loop-at-preserved : goal.operands_of-loop-at-preserved
operands_of-loop-at-preserved t c =
    let e : drop c.loop-at.at c.as_slice-e-items.result.now ≡ c.e-item.result ∷ drop (c.loop-at.at + 1) c.as_slice-e-items.result.now = grind (arith, common_steps) in
    more_with (λ at es. operands_from c.args.f at (map reading_of es) (env c.args.place.now c.args.known.now)) (λ at x. wanted (taken c.args.f at) (reading_of x) (env c.args.place.now c.args.known.now)) (λ at x. suc at) (λ s x xs. refl)
    _ _ _ _ _ _ _ _ e c.loop-at.invariant (search rules) (search rules)

pub arguments-loop-e-preserved : goal.arguments-loop-e-preserved
arguments-loop-e-preserved t c =
    let e : drop c.loop-e.e-index c.as_slice-e-items.result.now ≡ c.e-item.result ∷ drop (c.loop-e.e-index + 1) c.as_slice-e-items.result.now = grind (arith, common_steps) in
    more_with (λ ps es. arguments (map reading_of es) ps (env c.args.place.now c.args.known.now)) (λ ps x. sites_of (reading_of x) (env c.args.place.now c.args.known.now) ++ passed (env c.args.place.now c.args.known.now) ps (reading_of x (env c.args.place.now c.args.known.now)).typed) (λ ps x. drop 1 ps) (λ s x xs. refl)
    _ _ _ _ _ _ _ _ e c.loop-e.invariant (search (rules, noted_append)) (search rules)
