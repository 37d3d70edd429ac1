use Rattle.std.proofs.Common.{◌≡◌, ◌+◌, ◌∷◌, drop, refl, arith, rules}
use Rattle.std.proofs.lemmas.Grind.{common_steps}
use Rattle.ebr_scope.specs.Lent.{env}
use Rattle.ebr_rules.proofs.Laws.{more_with}
use Rattle.ebr_validity.specs.Units.{items_sites, item_sites, with_item}
use Rattle.ebr_check.proofs.unit.items.Goals as goal

pub loop-it-preserved : goal.loop-it-preserved
loop-it-preserved c =
    let e : drop c.loop-it.it-index c.args.list.now ≡ c.it-item.result ∷ drop (c.loop-it.it-index + 1) c.args.list.now = grind (arith, common_steps) in
    record {
      least = more_with (λ s xs. items_sites xs (env c.args.place.now s)) (λ s x. item_sites x (env c.args.place.now s)) (λ s x. with_item x (env c.args.place.now s)) (λ s x xs. refl)
          _ _ _ _ _ _ _ _ e c.loop-it.invariant.least (search rules) (search rules);
      known = search rules;
    }
