use Rattle.ebr_script.proofs.Cuts.{each_is_cut, one_cut}
use Rattle.ebr_script.proofs.script.one_cut.Goals as goal

pub returns-clause-some : goal.returns-clause-some
returns-clause-some c = each_is_cut

pub returns-clause-one : goal.returns-clause-one
returns-clause-one c = one_cut
