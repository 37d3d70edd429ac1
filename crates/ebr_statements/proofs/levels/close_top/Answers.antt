use Rattle.ebr_levels.proofs.AskLemmas.{popped_data}
use Rattle.std.proofs.Common.{true}
use Rattle.ebr_statements.proofs.levels.close_top.Goals as goal

pub returns-clause-contents : goal.returns-clause-contents
returns-clause-contents c = popped_data c.args.tx.now.contents c.pop_autonomous.new.tx.contents c.args.s true c.pop_autonomous.result c.pop_autonomous.ensures.exact
