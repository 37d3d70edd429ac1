use Rattle.std.proofs.Common.{◌≡◌, ◌+◌, false, List, [], ◌∷◌, drop, get_or, refl, sym, ap, ◌∙◌, rules, ℕ}
use Rattle.std.specs.Ordering.{ordering_then}
use Rattle.std.specs.declared.cmp.Ordering.TheVariants.{Equal}
use Rattle.std.proofs.lemmas.List.{drop_more, drop-drop}
use Rattle.ebr_base.specs.declared.value.Value.{Value}
use Rattle.ebr_query.specs.Order.{key_order, first_key, other_keys, keys_order}
use Rattle.ebr_query.proofs.order.keys_order.Goals as goal

others : (keys : List Value) → other_keys keys ≡ drop 1 keys
others [] = refl
others (k ∷ ks) = refl

others-drop : (at : ℕ) (keys : List Value) → other_keys (drop at keys) ≡ drop (at + 1) keys
others-drop at keys = others (drop at keys) ∙ drop-drop 1 at keys

pub loop-at-preserved : goal.loop-at-preserved
loop-at-preserved c =
    let at = c.loop-at.at in
    let flags = c.args.descending.now in
    let a = c.args.a.now in
    let b = c.args.b.now in
    let d = get_or flags at false in
    let rest = drop (at + 1) flags in
    let k : key_order d (first_key (drop at a)) (first_key (drop at b)) ≡ Equal = search rules in
    ap (λ xs. keys_order rest xs (drop (at + 1) b)) (sym (others-drop at a))
    ∙ ap (λ xs. keys_order rest (other_keys (drop at a)) xs) (sym (others-drop at b))
    ∙ ap (λ o. ordering_then o (keys_order rest (other_keys (drop at a)) (other_keys (drop at b)))) (sym k)
    ∙ ap (λ xs. keys_order xs (drop at a) (drop at b)) (sym (drop_more flags at false c.loop-at-test.true))
    ∙ c.loop-at.invariant
