use Rattle.std.proofs.Common.{rules}
use Rattle.ebr_rules.proofs.Laws.{noted_append}
use Rattle.ebr_check.proofs.statement.add_record.Goals as goal

pub returns-clause-least : goal.returns-clause-least
returns-clause-least c = search (rules, noted_append)
