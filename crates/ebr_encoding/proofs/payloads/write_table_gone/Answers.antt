use Rattle.std.proofs.Common.{rules, append_assoc}
use Rattle.ebr_encoding.proofs.Spellings.{table_gone_same}
use Rattle.ebr_encoding.proofs.payloads.write_table_gone.Goals as goal

pub returns : goal.returns
returns c = record { bytes = search (rules, append_assoc); same = table_gone_same c.args.table (search rules) }
