use Rattle.std.proofs.Common.{◌<◌, suc, ap, subst, arith}
use Rattle.ebr_base.specs.declared.numbers.Stamp.{Stamp}
use Rattle.ebr_base.specs.declared.numbers.TheConstants.{MAX_COUNT}
use Rattle.ebr_editions.specs.Held.{HasEntries, defined_in}
use Rattle.ebr_editions.proofs.Count.{has-after}
use Rattle.ebr_editions.proofs.Entries.{if_ok}
use Rattle.ebr_editions.proofs.Keys.{held-more}
use Rattle.ebr_editions.proofs.actuals.Actuals.add.Goals as goal

pub returns-clause-held : goal.returns-clause-held
returns-clause-held g c =
    held-more c.args.self.now _ _ _ _ _ c.args.e _ c.args.key c.args.object c.self.view_is c.in_ok-reserve.ensures.keys c.in_ok-copy.ensures
    (if_ok c.insert.result c.unwrap.result _ c.unwrap.ensures c.insert.ensures.keys) c.in_ok-define.ensures.ok

pub invariant_of-self-2 : goal.invariant_of-self-2
invariant_of-self-2 g c =
    let has : HasEntries c.args.self.now = subst HasEntries c.self.view_is c.self.invariant in
    let room : suc (defined_in c.args.self.now.editions c.args.e).count < MAX_COUNT = omega (arith, c.if-stamp-ge-MAX_COUNT.false, ap (λ (s : Stamp). s.count) c.stamp-stamp.ensures.stamp) in
    has-after c.args.self.now _ c.args.e c.args.key c.args.object has room
    (held-more c.args.self.now _ _ _ _ _ c.args.e _ c.args.key c.args.object c.self.view_is c.in_ok-reserve.ensures.keys c.in_ok-copy.ensures
    (if_ok c.insert.result c.unwrap.result _ c.unwrap.ensures c.insert.ensures.keys) c.in_ok-define.ensures.ok)
