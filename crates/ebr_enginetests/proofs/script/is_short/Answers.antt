use Rattle.std.proofs.Common.{◌∙◌}
use Rattle.ebr_enginetests.proofs.Shortness.{short_by}
use Rattle.ebr_enginetests.proofs.script.is_short.Goals as goal

pub returns : goal.returns
returns c = c.any_want.ensures ∙ short_by c.args.history.now c.args.s
