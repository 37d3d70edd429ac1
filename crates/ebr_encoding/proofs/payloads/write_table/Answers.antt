use Rattle.std.proofs.Common.{rules, append_assoc, subst}
use Rattle.std.specs.Int.{w16, to_be_bytes}
use Rattle.std.specs.List.{AllByRecursion}
use Rattle.ebr_record.specs.Payload.{column_bytes}
use Rattle.ebr_encoding.specs.Reading.{column_at, number}
use Rattle.ebr_encoding.specs.inside.Written.{IsReadAgain}
use Rattle.ebr_encoding.proofs.Spellings.{table_same}
use Rattle.ebr_encoding.proofs.payloads.write_table.Goals as goal

pub returns : goal.returns
returns c = record {
  bytes = search (rules, append_assoc);
  same = table_same c.args.name.now c.args.columns.now c.args.key.now c.in_ok-write_name.ensures.again c.requires.columns
      (subst (AllByRecursion (λ x. IsReadAgain column_at (column_bytes x) x)) c.as_slice.ensures c.in_ok-write_all.ensures.each)
      (subst (AllByRecursion (λ k. IsReadAgain (number w16) (to_be_bytes w16 k) k)) c.as_slice-2.ensures c.in_ok-write_all-2.ensures.each);
}
