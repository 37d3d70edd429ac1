use Rattle.std.proofs.Common.{rules, arith, append_assoc}
use Rattle.ebr_encoding.proofs.Again.{text_again}
use Rattle.ebr_encoding.proofs.writer.write_text.Goals as goal

pub returns : goal.returns
returns c = record { bytes = search (rules, append_assoc); again = text_again c.args.text.now (omega (arith, c.requires)) }
