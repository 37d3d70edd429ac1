use Rattle.std.proofs.Common.{rules, append_assoc}
use Rattle.ebr_encoding.proofs.Again.{column_again}
use Rattle.ebr_encoding.proofs.writable.ColumnWritable.write.Goals as goal

pub returns : goal.returns
returns c = record { bytes = search (rules, append_assoc); again = column_again c.args.self.now c.in_ok-write_name.ensures.again c.in_ok-write_type.ensures.again }
