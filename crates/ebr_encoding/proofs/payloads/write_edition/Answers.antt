use Rattle.std.proofs.Common.{rules, append_assoc}
use Rattle.ebr_encoding.proofs.Spellings.{edition_same}
use Rattle.ebr_encoding.proofs.payloads.write_edition.Goals as goal

pub returns : goal.returns
returns c = record { bytes = search (rules, append_assoc); same = edition_same c.args.name.now c.args.parent c.in_ok-write_name.ensures.again (search rules) }
