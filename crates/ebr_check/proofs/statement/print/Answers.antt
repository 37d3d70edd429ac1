use Rattle.std.proofs.Common.{rules}
use Rattle.ebr_rules.proofs.Laws.{noted_append}
use Rattle.ebr_check.proofs.statement.print.Goals as goal

pub returns : goal.returns
returns c = search (rules, noted_append)
