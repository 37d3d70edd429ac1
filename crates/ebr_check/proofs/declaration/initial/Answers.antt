use Rattle.std.proofs.Common.{rules}
use Rattle.ebr_rules.proofs.Laws.{noted_append}
use Rattle.ebr_check.proofs.declaration.initial.Goals as goal

pub returns-in-Some : goal.returns-in-Some
returns-in-Some c = search (rules, noted_append)
