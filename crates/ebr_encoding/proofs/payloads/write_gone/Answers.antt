use Rattle.std.proofs.Common.{rules, append_assoc}
use Rattle.ebr_encoding.proofs.Spellings.{gone_same}
use Rattle.ebr_encoding.proofs.payloads.write_gone.Goals as goal

pub returns : goal.returns
returns c = record { bytes = search (rules, append_assoc); same = gone_same c.args.edition c.args.class c.args.name.now (search rules) c.in_ok-write_name.ensures.again }
