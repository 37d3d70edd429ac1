use Rattle.std.proofs.Common.{rules, append_assoc, subst}
use Rattle.std.specs.List.{AllByRecursion}
use Rattle.ebr_record.specs.Payload.{change_bytes}
use Rattle.ebr_encoding.specs.Reading.{change_at}
use Rattle.ebr_encoding.specs.inside.Written.{IsReadAgain}
use Rattle.ebr_encoding.proofs.Spellings.{commit_same}
use Rattle.ebr_encoding.proofs.payloads.write_commit.Goals as goal

pub returns : goal.returns
returns c = record {
  bytes = search (rules, append_assoc);
  same = commit_same c.args.changes.now c.requires.0 (subst (AllByRecursion (λ x. IsReadAgain change_at (change_bytes x) x)) c.as_slice.ensures c.in_ok-write_all.ensures.each);
}
