use Rattle.std.proofs.Common.{rules, append_assoc}
use Rattle.ebr_encoding.proofs.Again.{num_again}
use Rattle.ebr_encoding.proofs.writable.write_num.Goals as goal

pub returns : goal.returns
returns c = record { bytes = search (rules, append_assoc); again = num_again c.args.n (search rules) (search rules) }
