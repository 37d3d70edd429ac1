use Rattle.std.proofs.Common.{◌<◌, suc, None, ap, subst, refl, arith}
use Rattle.ebr_base.specs.declared.numbers.Stamp.{Stamp}
use Rattle.ebr_base.specs.declared.numbers.TheConstants.{MAX_COUNT}
use Rattle.ebr_base.specs.declared.object.ObjectKey.{ObjectKey}
use Rattle.ebr_editions.specs.Held.{HasEntries, defined_in, hold, with_definition}
use Rattle.ebr_editions.proofs.Count.{has-after-two}
use Rattle.ebr_editions.proofs.Entries.{if_ok}
use Rattle.ebr_editions.proofs.Keys.{held-more}
use Rattle.ebr_editions.proofs.actuals.Actuals.hide_two.Goals as goal

pub returns-clause-held : goal.returns-clause-held
returns-clause-held g c =
    let pair = c.in_ok-copies.ensures in
    let one = held-more c.args.self.now _ _ _ _ (with_definition _ c.args.e c.args.first None) c.args.e _ c.args.first None c.self.view_is c.in_ok-reserve.ensures.keys (ap (λ (p : ObjectKey × ObjectKey). p.0) pair)
    (if_ok c.insert.result c.unwrap.result _ c.unwrap.ensures c.insert.ensures.keys) refl in
    held-more (hold c.args.self.now c.args.e c.args.first None) _ _ _ _ _ c.args.e _ c.args.second None one refl (ap (λ (p : ObjectKey × ObjectKey). p.1) pair)
    (if_ok c.insert-2.result c.unwrap-2.result _ c.unwrap-2.ensures c.insert-2.ensures.keys) c.in_ok-hide_two.ensures.ok

pub invariant_of-self-2 : goal.invariant_of-self-2
invariant_of-self-2 g c =
    let has : HasEntries c.args.self.now = subst HasEntries c.self.view_is c.self.invariant in
    let room : suc (suc (defined_in c.args.self.now.editions c.args.e).count) < MAX_COUNT = omega (arith, ap (λ (s : Stamp). s.count) c.stamp-stamp.ensures.stamp) in
    let pair = c.in_ok-copies.ensures in
    let one = held-more c.args.self.now _ _ _ _ (with_definition _ c.args.e c.args.first None) c.args.e _ c.args.first None c.self.view_is c.in_ok-reserve.ensures.keys (ap (λ (p : ObjectKey × ObjectKey). p.0) pair)
    (if_ok c.insert.result c.unwrap.result _ c.unwrap.ensures c.insert.ensures.keys) refl in
    has-after-two c.args.self.now _ c.args.e c.args.first c.args.second has room
    (held-more (hold c.args.self.now c.args.e c.args.first None) _ _ _ _ _ c.args.e _ c.args.second None one refl (ap (λ (p : ObjectKey × ObjectKey). p.1) pair)
    (if_ok c.insert-2.result c.unwrap-2.result _ c.unwrap-2.ensures c.insert-2.ensures.keys) c.in_ok-hide_two.ensures.ok)
