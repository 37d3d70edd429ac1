use Rattle.std.proofs.Common.{arith}
use Rattle.ebr_cut.proofs.Lengths.{blanks_within, knows_at}
use Rattle.ebr_cut.proofs.blank.blanks_length.Goals as goal

pub returns-clause-within : goal.returns-clause-within
returns-clause-within c = omega (arith, knows_at c.args.lengths.now c.args.bytes.now c.requires, blanks_within c.args.bytes.now)
