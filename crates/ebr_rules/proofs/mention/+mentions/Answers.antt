use Rattle.std.proofs.Common.{◌≡◌, ◌+◌, ◌∷◌, drop, map, refl, arith, rules, ⊎_elim}
use Rattle.std.proofs.lemmas.Grind.{common_steps}
use Rattle.ebr_exprtree.specs.declared.expression.Expr.TheViews.{the_lemmas}
use Rattle.ebr_scope.specs.Lent.{env}
use Rattle.ebr_validity.specs.Embedded.{each, mentions}
use Rattle.ebr_rules.specs.inside.Terms.{mentions_in_term}
use Rattle.ebr_rules.proofs.Laws.{mentions-out, mentions_in_term-out, noted_append, more}
use Rattle.ebr_rules.proofs.mention.+mentions.Goals as goal

pub mentions-returns-in-Name : goal.mentions-returns-in-Name
mentions-returns-in-Name t c = search (rules, the_lemmas, mentions-out)

pub mentions-returns-in-Row : goal.mentions-returns-in-Row
mentions-returns-in-Row t c = search (rules, the_lemmas, mentions-out)

pub mentions-returns-in-Number : goal.mentions-returns-in-Number
mentions-returns-in-Number t c = search (rules, the_lemmas, mentions-out)

pub mentions-returns-in-Text : goal.mentions-returns-in-Text
mentions-returns-in-Text t c = search (rules, the_lemmas, mentions-out)

pub mentions-returns-in-Null : goal.mentions-returns-in-Null
mentions-returns-in-Null t c = search (rules, the_lemmas, mentions-out)

pub mentions-returns-in-Boolean : goal.mentions-returns-in-Boolean
mentions-returns-in-Boolean t c = search (rules, the_lemmas, mentions-out)

pub mentions-returns-in-Firing : goal.mentions-returns-in-Firing
mentions-returns-in-Firing t c = search (rules, the_lemmas, mentions-out, noted_append)

pub mentions-returns-in-Between : goal.mentions-returns-in-Between
mentions-returns-in-Between t c = search (rules, the_lemmas, mentions-out, noted_append)

pub mentions-returns-in-Sum : goal.mentions-returns-in-Sum
mentions-returns-in-Sum t c = search (rules, the_lemmas, mentions-out, noted_append)

pub mentions-returns-in-Call : goal.mentions-returns-in-Call
mentions-returns-in-Call t c = search (rules, the_lemmas, mentions-out, noted_append)

-- one arm for several variants: the equation of each

pub mentions-returns-in-Plus : goal.mentions-returns-in-Plus
mentions-returns-in-Plus t c =
    ⊎_elim (λ e. search (rules, the_lemmas, mentions-out))
    (⊎_elim (λ e. search (rules, the_lemmas, mentions-out))
    (⊎_elim (λ e. search (rules, the_lemmas, mentions-out))
    (λ e. let h = e.1 in search (rules, the_lemmas, mentions-out))))
    c.in-Plus.is

pub mentions-returns-in-Product : goal.mentions-returns-in-Product
mentions-returns-in-Product t c =
    ⊎_elim (λ e. search (rules, the_lemmas, mentions-out, noted_append))
    (⊎_elim (λ e. let h = e.1 in search (rules, the_lemmas, mentions-out, noted_append))
    (⊎_elim (λ e. search (rules, the_lemmas, mentions-out, noted_append))
    (λ e. search (rules, the_lemmas, mentions-out, noted_append))))
    c.in-Product.is

pub mentions-returns-in-Quotient : goal.mentions-returns-in-Quotient
mentions-returns-in-Quotient t c =
    ⊎_elim (λ e. search (rules, the_lemmas, mentions-out, noted_append))
    (⊎_elim (λ e. let h = e.1 in search (rules, the_lemmas, mentions-out, noted_append))
    (λ e. let h = e.1 in search (rules, the_lemmas, mentions-out, noted_append)))
    c.in-Quotient.is

pub mentions-returns-in-SqlCode : goal.mentions-returns-in-SqlCode
mentions-returns-in-SqlCode t c =
    ⊎_elim (λ e. search (rules, the_lemmas, mentions-out))
    (λ e. let h = e.2 in search (rules, the_lemmas, mentions-out))
    c.in-SqlCode.is

pub mentions-returns-in-Place : goal.mentions-returns-in-Place
mentions-returns-in-Place t c =
    ⊎_elim (λ e. let h = e.1 in search (rules, the_lemmas, mentions-out))
    (λ e. let h = e.1 in search (rules, the_lemmas, mentions-out))
    c.in-Place.is

pub all_mentions-loop-e-preserved : goal.all_mentions-loop-e-preserved
all_mentions-loop-e-preserved t c =
    let e : drop c.loop-e.e-index c.as_slice-e-items.result.now ≡ c.e-item.result ∷ drop (c.loop-e.e-index + 1) c.as_slice-e-items.result.now = grind (arith, common_steps) in
    more (λ es. each (map mentions es) c.args.relations.now (env c.args.place.now c.args.known.now)) (λ x. mentions x c.args.relations.now (env c.args.place.now c.args.known.now)) (λ x xs. refl)
    _ _ _ _ _ _ e c.loop-e.invariant (search rules)

pub term_mentions-loop-addend-preserved : goal.term_mentions-loop-addend-preserved
term_mentions-loop-addend-preserved t c =
    let e : drop c.loop-addend.addend-index c.as_slice-addend-items.result.now ≡ c.addend-item.result ∷ drop (c.loop-addend.addend-index + 1) c.as_slice-addend-items.result.now = grind (arith, common_steps) in
    more (λ es. each (map mentions_in_term es) c.args.relations.now (env c.args.place.now c.args.known.now)) (λ x. mentions_in_term x c.args.relations.now (env c.args.place.now c.args.known.now)) (λ x xs. refl)
    _ _ _ _ _ _ e c.loop-addend.invariant (search (rules, mentions_in_term-out))
