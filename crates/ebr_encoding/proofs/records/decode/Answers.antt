use Rattle.std.proofs.Common.{arith, rules}
use Rattle.ebr_encoding.proofs.Decoding.{reads, too_many}
use Rattle.ebr_encoding.proofs.records.decode.Goals as goal

pub returns-then-changes_said-most_changes : goal.returns-then-changes_said-most_changes
returns-then-changes_said-most_changes c = too_many c.args.form c.args.bytes.now (λ i. omega (arith, c.type_inv.bytes i)) (search rules)

pub returns : goal.returns
returns c = reads c.args.form c.args.bytes.now c.record.result (λ i. omega (arith, c.type_inv.bytes i)) (search rules) (search rules) c.record.ensures
