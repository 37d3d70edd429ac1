use Rattle.std.proofs.Common.{◌≡◌, ◌+◌, ◌∷◌, drop, refl, arith, rules}
use Rattle.std.proofs.lemmas.Grind.{common_steps}
use Rattle.ebr_scope.specs.Lent.{env}
use Rattle.ebr_rules.proofs.Laws.{more}
use Rattle.ebr_validity.specs.Units.{subprograms_sites, subprogram_sites}
use Rattle.ebr_check.proofs.unit.subprograms.Goals as goal

pub loop-it-preserved : goal.loop-it-preserved
loop-it-preserved c =
    let e : drop c.loop-it.it-index c.args.list.now ≡ c.it-item.result ∷ drop (c.loop-it.it-index + 1) c.args.list.now = grind (arith, common_steps) in
    record {
      least = more (λ xs. subprograms_sites xs (env c.args.place.now c.args.known.now)) (λ x. subprogram_sites x (env c.args.place.now c.args.known.now)) (λ x xs. refl) _ _ _ _ _ _ e c.loop-it.invariant.least (search rules);
      known = search rules;
    }
