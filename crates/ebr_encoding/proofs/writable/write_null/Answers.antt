use Rattle.std.proofs.Common.{rules}
use Rattle.ebr_encoding.proofs.Again.{null_again}
use Rattle.ebr_encoding.proofs.writable.write_null.Goals as goal

pub returns : goal.returns
returns c = record { bytes = search rules; again = null_again }
