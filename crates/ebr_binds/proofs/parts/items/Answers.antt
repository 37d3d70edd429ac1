use Rattle.std.proofs.Common.{◌≡◌, ◌+◌, [], ◌∷◌, drop, map, subst, arith, rules, append-nil}
use Rattle.std.proofs.lemmas.Grind.{common_steps}
use Rattle.ebr_run.specs.Binds.{bind_all, bound_item}
use Rattle.ebr_binds.proofs.Laws.{Keeps, one_more}
use Rattle.ebr_binds.proofs.parts.items.Goals as goal

pub loop-next-preserved : goal.loop-next-preserved
loop-next-preserved c =
    let e : drop c.loop-next.next-index c.as_slice-next-items.result.now ≡ c.next-item.result ∷ drop (c.loop-next.next-index + 1) c.as_slice-next-items.result.now = grind (arith, common_steps) in
    one_more (bind_all (map (bound_item c.args.relations.now c.args.around.now) c.as_slice-next-items.result.now)) c.args.binds.now ((bound_item c.args.relations.now c.args.around.now) c.next-item.result) (map (bound_item c.args.relations.now c.args.around.now) (drop (c.loop-next.next-index + 1) c.as_slice-next-items.result.now)) c.loop-next.bound c.push.new.self c.loop-next.binds c.item.new.binds c.in_ok-item.item (subst (λ xs. Keeps (bind_all (map (bound_item c.args.relations.now c.args.around.now) c.as_slice-next-items.result.now)) c.args.binds.now (map (bound_item c.args.relations.now c.args.around.now) xs) c.loop-next.bound c.loop-next.binds) e c.loop-next.invariant) (search rules) (search rules) (search rules)

pub returns-clause-trees : goal.returns-clause-trees
returns-clause-trees c =
    let e : drop c.loop-next.next-index c.as_slice-next-items.result.now ≡ [] = grind (arith, common_steps) in
    let k : Keeps (bind_all (map (bound_item c.args.relations.now c.args.around.now) c.as_slice-next-items.result.now)) c.args.binds.now [] c.loop-next.bound c.loop-next.binds = subst (λ xs. Keeps (bind_all (map (bound_item c.args.relations.now c.args.around.now) c.as_slice-next-items.result.now)) c.args.binds.now (map (bound_item c.args.relations.now c.args.around.now) xs) c.loop-next.bound c.loop-next.binds) e c.loop-next.invariant in
    let h = k.trees in search (rules, append-nil)

pub returns-clause-binds : goal.returns-clause-binds
returns-clause-binds c =
    let e : drop c.loop-next.next-index c.as_slice-next-items.result.now ≡ [] = grind (arith, common_steps) in
    let k : Keeps (bind_all (map (bound_item c.args.relations.now c.args.around.now) c.as_slice-next-items.result.now)) c.args.binds.now [] c.loop-next.bound c.loop-next.binds = subst (λ xs. Keeps (bind_all (map (bound_item c.args.relations.now c.args.around.now) c.as_slice-next-items.result.now)) c.args.binds.now (map (bound_item c.args.relations.now c.args.around.now) xs) c.loop-next.bound c.loop-next.binds) e c.loop-next.invariant in
    let h = k.all in search (rules, append-nil)
