use Rattle.std.proofs.Common.{rules, refl}
use Rattle.ebr_machine.proofs.Begins.{begun}
use Rattle.ebr_machine.proofs.machine.Machine.new.Goals as goal

pub returns-clause-has : goal.returns-clause-has
returns-clause-has c codes packages left = begun codes _ packages left c.args.main c.args.arguments c.args.frame refl refl (search rules) (search rules) (search rules) (search rules) (search rules) refl refl (search rules) (search rules) refl refl refl refl
