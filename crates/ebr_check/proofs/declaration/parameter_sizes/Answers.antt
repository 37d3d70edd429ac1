use Rattle.std.proofs.Common.{◌≡◌, ◌+◌, ◌∷◌, [], drop, refl, arith, rules}
use Rattle.std.proofs.lemmas.Grind.{common_steps}
use Rattle.ebr_scope.specs.Lent.{env}
use Rattle.ebr_rules.proofs.Laws.{more}
use Rattle.ebr_validity.specs.Units.{parameter_sites, type_sites}
use Rattle.ebr_check.proofs.declaration.parameter_sizes.Goals as goal

pub loop-parameter-preserved : goal.loop-parameter-preserved
loop-parameter-preserved c =
    let e : drop c.loop-parameter.parameter-index c.args.parameters.now ≡ c.parameter-item.result ∷ drop (c.loop-parameter.parameter-index + 1) c.args.parameters.now = grind (arith, common_steps) in
    more (λ ps. parameter_sites ps (env c.args.place.now [])) (λ p. type_sites p.ty (env c.args.place.now [])) (λ x xs. refl)
    _ _ _ _ _ _ e c.loop-parameter.invariant (search rules)
