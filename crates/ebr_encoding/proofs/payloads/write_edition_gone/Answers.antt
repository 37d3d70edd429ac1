use Rattle.std.proofs.Common.{rules, append_assoc}
use Rattle.ebr_encoding.proofs.Spellings.{edition_gone_same}
use Rattle.ebr_encoding.proofs.payloads.write_edition_gone.Goals as goal

pub returns : goal.returns
returns c = record { bytes = search (rules, append_assoc); same = edition_gone_same c.args.edition (search rules) }
