use Rattle.std.proofs.Common.{rules, append_assoc}
use Rattle.ebr_encoding.proofs.Again.{size_again}
use Rattle.ebr_encoding.proofs.writer.write_size.Goals as goal

pub returns : goal.returns
returns c = record { bytes = search (rules, append_assoc); again = size_again c.args.size (search rules) }
