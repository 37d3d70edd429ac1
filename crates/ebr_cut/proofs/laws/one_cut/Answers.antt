use Rattle.ebr_cut.proofs.Agreement.{each_is_cut, one_cut}
use Rattle.ebr_cut.proofs.Roles.{each_byte_has_a_role}
use Rattle.ebr_cut.proofs.laws.one_cut.Goals as goal

pub returns-clause-some : goal.returns-clause-some
returns-clause-some c = each_is_cut

pub returns-clause-one : goal.returns-clause-one
returns-clause-one c = one_cut

pub returns-clause-bytes : goal.returns-clause-bytes
returns-clause-bytes c = each_byte_has_a_role
