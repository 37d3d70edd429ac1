use Rattle.ebr_cut.specs.Reading.{cut}
use Rattle.ebr_cut.proofs.Agreement.{cut_is}
use Rattle.ebr_script.proofs.script.spans.Goals as goal

pub returns-clause-value : goal.returns-clause-value
returns-clause-value c = c.cut.ensures.only (cut c.args.script.now) (cut_is c.args.script.now)
