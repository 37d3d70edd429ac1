use Rattle.std.proofs.Common.{◌≡◌, ◌+◌, ◌∷◌, drop, arith}
use Rattle.std.proofs.lemmas.Grind.{common_steps}
use Rattle.ebr_scope.specs.Lent.{env}
use Rattle.ebr_validity.specs.Embedded.{in_item}
use Rattle.ebr_rules.proofs.EachSite.{each_more}
use Rattle.ebr_rules.proofs.mention.in_items.Goals as goal

pub loop-item-preserved : goal.loop-item-preserved
loop-item-preserved c =
    let e : drop c.loop-item.item-index c.args.items.now ≡ c.item-item.result ∷ drop (c.loop-item.item-index + 1) c.args.items.now = grind (arith, common_steps) in
    each_more in_item c.args.relations.now (env c.args.place.now c.args.known.now) _ _ _ _ _ _ e c.loop-item.invariant c.in_item.ensures
