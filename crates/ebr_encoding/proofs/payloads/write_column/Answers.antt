use Rattle.std.proofs.Common.{rules, append_assoc}
use Rattle.ebr_encoding.proofs.Spellings.{column_same}
use Rattle.ebr_encoding.proofs.payloads.write_column.Goals as goal

pub returns : goal.returns
returns c = record { bytes = search (rules, append_assoc); same = column_same c.args.table c.args.column.now (search rules) c.in_ok-write.ensures.again }
