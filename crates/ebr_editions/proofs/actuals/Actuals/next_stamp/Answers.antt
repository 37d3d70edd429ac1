use Rattle.std.proofs.Common.{◌∙◌}
use Rattle.ebr_editions.proofs.Count.{stamp-held}
use Rattle.ebr_editions.proofs.actuals.Actuals.next_stamp.Goals as goal

pub returns-clause-stamp : goal.returns-clause-stamp
returns-clause-stamp g c = λ entries h. c.stamp.ensures.stamp ∙ stamp-held c.args.self.now entries c.args.e h
