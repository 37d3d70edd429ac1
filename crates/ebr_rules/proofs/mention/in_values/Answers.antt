use Rattle.std.proofs.Common.{◌≡◌, ◌+◌, ◌∷◌, drop, [], arith, rules}
use Rattle.std.proofs.lemmas.Grind.{common_steps}
use Rattle.ebr_scope.specs.Lent.{env}
use Rattle.ebr_validity.specs.Embedded.{mentions}
use Rattle.ebr_rules.proofs.EachSite.{each_more}
use Rattle.ebr_rules.proofs.mention.in_values.Goals as goal

pub loop-e-preserved : goal.loop-e-preserved
loop-e-preserved c =
    let e : drop c.loop-e.e-index c.args.values.now ≡ c.e-item.result ∷ drop (c.loop-e.e-index + 1) c.args.values.now = grind (arith, common_steps) in
    each_more mentions [] (env c.args.place.now c.args.known.now) _ _ _ _ _ _ e c.loop-e.invariant (search rules)
