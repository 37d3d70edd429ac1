use Rattle.std.proofs.Common.{rules, append_assoc, subst}
use Rattle.ebr_record.specs.Payload.{text_bytes}
use Rattle.ebr_encoding.specs.Reading.{text_at}
use Rattle.ebr_encoding.specs.inside.Written.{IsReadAgain}
use Rattle.ebr_encoding.proofs.Spellings.{object_same}
use Rattle.ebr_encoding.proofs.payloads.write_object.Goals as goal

pub returns : goal.returns
returns c = record {
  bytes = search (rules, append_assoc);
  same = object_same c.args.edition c.args.enabled c.args.text.now (search rules) (subst (λ t. IsReadAgain text_at (text_bytes t) t) c.as_slice.ensures c.in_ok-write_text.ensures.again);
}
