use Rattle.std.proofs.Common.{rules}
use Rattle.ebr_encoding.proofs.Again.{removed_again}
use Rattle.ebr_encoding.proofs.writable.write_removed.Goals as goal

pub returns : goal.returns
returns c = record { bytes = search rules; again = removed_again }
