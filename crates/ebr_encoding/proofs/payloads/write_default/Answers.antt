use Rattle.std.proofs.Common.{rules, append_assoc}
use Rattle.ebr_encoding.proofs.Spellings.{default_same}
use Rattle.ebr_encoding.proofs.payloads.write_default.Goals as goal

pub returns : goal.returns
returns c = record { bytes = search (rules, append_assoc); same = default_same c.args.edition (search rules) }
