use Rattle.std.proofs.Common.{rules}
use Rattle.ebr_machine.proofs.Still.{shows, shows_over, prints}
use Rattle.ebr_machine.proofs.machine.Machine.advance.Goals as goal

pub returns-clause-shows : goal.returns-clause-shows
returns-clause-shows g c codes run asks answers e has = shows codes _ _ c.args.left run asks answers _ (search rules) (search rules) (search rules) (search rules)

pub returns-clause-over : goal.returns-clause-over
returns-clause-over g c d codes run asks answers more e has = shows_over codes _ _ c.args.left run asks answers more _ (search rules) (search rules) (search rules) d (search rules)

pub returns-clause-prints : goal.returns-clause-prints
returns-clause-prints g c codes run asks answers e has = prints codes _ _ _ c.go-ran.new.run.packages c.args.left run asks answers has (search rules) (search rules) (search rules)
