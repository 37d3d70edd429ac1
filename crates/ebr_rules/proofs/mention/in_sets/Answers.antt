use Rattle.std.proofs.Common.{◌≡◌, ◌+◌, ◌∷◌, drop, arith, rules}
use Rattle.std.proofs.lemmas.Grind.{common_steps}
use Rattle.ebr_scope.specs.Lent.{env}
use Rattle.ebr_validity.specs.Embedded.{in_assignment}
use Rattle.ebr_rules.proofs.EachSite.{each_more}
use Rattle.ebr_rules.proofs.mention.in_sets.Goals as goal

pub loop-set-preserved : goal.loop-set-preserved
loop-set-preserved c =
    let e : drop c.loop-set.set-index c.args.sets.now ≡ c.set-item.result ∷ drop (c.loop-set.set-index + 1) c.args.sets.now = grind (arith, common_steps) in
    each_more in_assignment c.args.relations.now (env c.args.place.now c.args.known.now) _ _ _ _ _ _ e c.loop-set.invariant (search rules)
