use Rattle.std.proofs.Common.{List, subst}
use Rattle.ebr_spots.specs.declared.spot.Spot.{Spot}
use Rattle.ebr_spots.specs.Spots.{IsLastBefore, IsNoneBefore}
use Rattle.ebr_changes.specs.Filed.{Filed, IsLastFiled, IsNoneFiledBefore}
use Rattle.ebr_changes.proofs.FiledLemmas.{last_by_keys, none_before_by_keys}
use Rattle.ebr_changes.proofs.changes.Changes.last_filed.Goals as goal

pub returns-in-Some-clause-some : goal.returns-in-Some-clause-some
returns-in-Some-clause-some c =
    subst (λ (s : Filed). IsLastFiled s.entries c.args.t c.args.print c.args.end c.in-Some.last.place) c.self.view_is
    (last_by_keys c.self.inside.changes.items c.self.inside.index c.self.invariant c.args.t c.args.print c.args.end c.in-Some.last c.spot.result c.spot.ensures
    (subst (λ (s : List Spot). IsLastBefore s c.spot.result c.in-Some.last) c.keys.ensures c.in-Some.ensures.some))

pub returns-in-None-clause-none : goal.returns-in-None-clause-none
returns-in-None-clause-none c =
    subst (λ (s : Filed). IsNoneFiledBefore s.entries c.args.t c.args.print c.args.end) c.self.view_is
    (none_before_by_keys c.self.inside.changes.items c.self.inside.index c.self.invariant c.args.t c.args.print c.args.end c.spot.result c.spot.ensures
    (subst (λ (s : List Spot). IsNoneBefore s c.spot.result) c.keys.ensures c.in-None.ensures.none))
