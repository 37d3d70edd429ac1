use Rattle.std.proofs.Common.{rules}
use Rattle.ebr_core.proofs.Payloads.{table_payload}
use Rattle.ebr_core.proofs.kept.table_kept.Goals as goal

pub returns-clause-payload : goal.returns-clause-payload
returns-clause-payload c = table_payload _ _ _ (search rules) (search rules) (search rules) c.in_ok-columns.ensures.short
