use Rattle.std.proofs.Common.{ap, refl, ◌∙◌}
use Rattle.std.specs.Prelude.{map}
use Rattle.ebr_worker.specs.Ends.{Job}
use Rattle.ebr_worker.proofs.Running.{begun_left}
use Rattle.ebr_worker.proofs.run.Sessions.into_sinks.Goals as goal

pub sinks_of-requires-clause-begun : goal.sinks_of-requires-clause-begun
sinks_of-requires-clause-begun g c = begun_left c.args.self _ _ c.into_workers-workers.ensures.begun refl

pub sinks_of-requires-clause-empty : goal.sinks_of-requires-clause-empty
sinks_of-requires-clause-empty g c = c.into_workers-workers.ensures.empty.1

pub returns-clause-words : goal.returns-clause-words
returns-clause-words g c = c.sinks_of.ensures.words ∙ ap (map (λ (j : Job). j.word)) c.into_workers-workers.ensures.begun.jobs_are
