use Rattle.std.proofs.Common.{arith}
use Rattle.ebr_lexer.proofs.Runs.{content_fits}
use Rattle.ebr_lexer.proofs.text.content_front.Goals as goal

pub returns-clause-value : goal.returns-clause-value
returns-clause-value c = content_fits _ _ _ c.content_length.result c.content_length.ensures (grind arith) c.in_ok-content.ensures
