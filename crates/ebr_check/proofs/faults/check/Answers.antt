use Rattle.std.proofs.Common.{rules}
use Rattle.ebr_rules.proofs.Least.{noted_first}
use Rattle.ebr_validity.specs.Verdict.{verdict}
use Rattle.ebr_check.proofs.Validity.{valid}
use Rattle.ebr_check.proofs.faults.check.Goals as goal

pub returns-clause-least : goal.returns-clause-least
unfolding verdict
returns-clause-least c = search (rules, noted_first)

pub returns-clause-valid : goal.returns-clause-valid
unfolding verdict
returns-clause-valid c = valid c.args.v.now c.args.u.now _ _ c.fault.ensures (search (rules, noted_first))
