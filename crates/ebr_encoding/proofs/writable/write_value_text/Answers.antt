use Rattle.std.proofs.Common.{rules, append_assoc}
use Rattle.ebr_encoding.proofs.Again.{value_text_again}
use Rattle.ebr_encoding.proofs.writable.write_value_text.Goals as goal

pub returns : goal.returns
returns c = record { bytes = search (rules, append_assoc); again = value_text_again c.args.text.now c.as_slice.ensures.some (search rules) }
