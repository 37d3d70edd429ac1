use Rattle.std.proofs.Common.{rules, ◌≡◌, subst, arith}
use Rattle.ebr_editions.specs.Held.{HasEntries, defined_in}
use Rattle.ebr_editions.proofs.Count.{few-held}
use Rattle.ebr_editions.proofs.actuals.Actuals.count.Goals as goal

pub returns-in-Some-clause-few : goal.returns-in-Some-clause-few
returns-in-Some-clause-few g c =
    let has : HasEntries c.args.self.now = subst HasEntries c.self.view_is c.self.invariant in
    let count : c.count.result ≡ (defined_in c.args.self.now.editions c.args.e).count = search rules in
    omega (arith, count, few-held c.args.self.now c.args.e has)
