use Rattle.ebr_calls.specs.Steps.{most_steps}
use Rattle.ebr_calls.proofs.Runs.{run_takes}
use Rattle.ebr_calls.proofs.call.Call.take.Goals as goal

pub returns-clause-takes : goal.returns-clause-takes
returns-clause-takes g c codes f rest made printed packages room was opens goes =
    run_takes codes f _ _ _ rest _ was _ _ _ c.args.a goes (c.take.ensures.takes codes packages most_steps was.run was.asks was.answers was.has) c.take.ensures.lines (c.behind-self.ensures _ opens)
