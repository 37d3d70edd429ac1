use Rattle.std.proofs.Common.{rules, append_assoc}
use Rattle.ebr_encoding.proofs.Again.{digits_again}
use Rattle.ebr_encoding.proofs.writer.write_digits.Goals as goal

pub returns : goal.returns
returns c = record { bytes = search (rules, append_assoc); again = digits_again c.args.digits }
