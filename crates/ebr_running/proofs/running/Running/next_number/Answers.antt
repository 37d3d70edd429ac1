use Rattle.std.proofs.Common.{rules}
use Rattle.ebr_running.proofs.Ranges.{numbers_turn}
use Rattle.ebr_running.proofs.running.Running.next_number.Goals as goal

pub returns : goal.returns
returns c book asks given = rw (numbers_turn c.args.place c.args.reversed c.args.low c.args.high _ _ (search rules)) (search rules)
