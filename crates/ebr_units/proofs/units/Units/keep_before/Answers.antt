use Rattle.ebr_units.proofs.Kept.{kept-before, kept-current}
use Rattle.ebr_units.proofs.units.Units.keep_before.Goals as goal

pub returns-in-Some-clause-before : goal.returns-in-Some-clause-before
returns-in-Some-clause-before c = kept-before _ c.args.e _ _ c.keep_up_to.ensures c.in-Some.ensures.smaller

pub returns-in-Some-clause-current : goal.returns-in-Some-clause-current
returns-in-Some-clause-current c = λ lists all. kept-current lists _ _ _ c.keep_up_to.ensures all
