use Rattle.std.proofs.Common.{rules, ◌∙◌}
use Rattle.ebr_running.proofs.running.Running.absorb.Goals as goal

pub returns-in-Count : goal.returns-in-Count
returns-in-Count c calls asks given = c.take_count.ensures c.in-Count.steps c.in-Count.lines calls asks given ∙ search rules
