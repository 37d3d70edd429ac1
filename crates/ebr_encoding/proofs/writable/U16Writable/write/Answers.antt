use Rattle.std.proofs.Common.{rules}
use Rattle.ebr_encoding.proofs.Again.{again16}
use Rattle.ebr_encoding.proofs.writable.U16Writable.write.Goals as goal

pub returns : goal.returns
returns c = record { bytes = search rules; again = again16 c.args.self.now (search rules) }
