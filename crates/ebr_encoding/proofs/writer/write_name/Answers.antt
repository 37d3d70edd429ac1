use Rattle.std.proofs.Common.{rules, append_assoc}
use Rattle.ebr_encoding.proofs.Again.{name_again}
use Rattle.ebr_encoding.proofs.writer.write_name.Goals as goal

pub returns : goal.returns
returns c = record { bytes = search (rules, append_assoc); again = name_again c.args.name.now c.as_slice-word.ensures.name }
