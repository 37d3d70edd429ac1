use Rattle.std.proofs.Common.{ap}
use Rattle.ebr_calls.specs.declared.levels.Levels.{Levels}
use Rattle.ebr_calls.specs.Steps.{most_steps}
use Rattle.ebr_calls.proofs.Runs.{run_begins}
use Rattle.ebr_calls.proofs.call.Call.new.Goals as goal

pub returns-clause-begins : goal.returns-clause-begins
returns-clause-begins g c codes f rest p e h r was =
    run_begins codes c.args.view.now c.args.block f rest p _ _ _ c.args.room _ h c.in_ok-main.ensures r (c.in_ok-machine.ensures.has codes p.packages most_steps) c.new-2.ensures
    (ap (λ (l : Levels). l.now) c.of.ensures) c.in_ok-machine.ensures.lines was
