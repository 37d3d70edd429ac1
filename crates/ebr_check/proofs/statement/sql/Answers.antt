use Rattle.std.proofs.Common.{rules}
use Rattle.ebr_rules.proofs.Laws.{noted_append}
use Rattle.ebr_check.proofs.statement.sql.Goals as goal

pub returns-in_ok-fields-in-SelectInto : goal.returns-in_ok-fields-in-SelectInto
returns-in_ok-fields-in-SelectInto c = search (rules, noted_append)
