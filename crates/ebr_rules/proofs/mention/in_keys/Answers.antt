use Rattle.std.proofs.Common.{◌≡◌, ◌+◌, ◌∷◌, drop, arith, rules}
use Rattle.std.proofs.lemmas.Grind.{common_steps}
use Rattle.ebr_scope.specs.Lent.{env}
use Rattle.ebr_validity.specs.Embedded.{in_key}
use Rattle.ebr_rules.proofs.EachSite.{each_more}
use Rattle.ebr_rules.proofs.mention.in_keys.Goals as goal

pub loop-key-preserved : goal.loop-key-preserved
loop-key-preserved c =
    let e : drop c.loop-key.key-index c.args.keys.now ≡ c.key-item.result ∷ drop (c.loop-key.key-index + 1) c.args.keys.now = grind (arith, common_steps) in
    each_more in_key c.args.relations.now (env c.args.place.now c.args.known.now) _ _ _ _ _ _ e c.loop-key.invariant (search rules)
