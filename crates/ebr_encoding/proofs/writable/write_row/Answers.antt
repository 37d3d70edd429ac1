use Rattle.std.proofs.Common.{rules, append_assoc, subst}
use Rattle.std.specs.List.{AllByRecursion}
use Rattle.ebr_record.specs.Payload.{value_bytes}
use Rattle.ebr_encoding.specs.Reading.{value_at}
use Rattle.ebr_encoding.specs.inside.Written.{IsReadAgain}
use Rattle.ebr_encoding.proofs.Again.{values_again}
use Rattle.ebr_encoding.proofs.writable.write_row.Goals as goal

pub returns : goal.returns
returns c = record {
  bytes = search (rules, append_assoc);
  again = values_again c.args.values.now c.requires.0 (subst (AllByRecursion (λ v. IsReadAgain value_at (value_bytes v) v)) c.as_slice.ensures c.in_ok-write_all.ensures.each);
}
