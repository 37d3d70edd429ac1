use Rattle.std.proofs.Common.{rules, ◌∙◌}
use Rattle.ebr_running.proofs.running.Running.function.Goals as goal

pub returns : goal.returns
returns c calls asks given = c.in_ok-give.ensures _ c.function-value.ensures.value calls asks given ∙ search rules
