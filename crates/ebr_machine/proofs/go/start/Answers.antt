use Rattle.ebr_running.specs.Rest.{absorbed}
use Rattle.ebr_running.proofs.Moving.{moves_does}
use Rattle.ebr_machine.proofs.go.start.Goals as goal

pub returns-in_ok-absorb-in-Some : goal.returns-in_ok-absorb-in-Some
returns-in_ok-absorb-in-Some c book asks given = rw c.in-Some.is (moves_does c.args.run.now c.absorb.new.self (absorbed c.in-Some.answer c.args.run.now) c.in_ok-absorb-in-Some.ensures book asks given)
