use Rattle.std.proofs.Common.{ap, arith, length, refl, subst, sym, ◌∙◌}
use Rattle.std.specs.Prelude.{map}
use Rattle.ebr_core.specs.Asked.{AreFit}
use Rattle.ebr_worker.specs.Ends.{Job}
use Rattle.ebr_worker.specs.Rehearsal.{jobs_of}
use Rattle.ebr_worker.specs.Runs.{AreEnds}
use Rattle.ebr_worker.proofs.Running.{begun_count, begun_left, kept_since, legal_since, stand_first}
use Rattle.ebr_threads.proofs.run.run_threads.Goals as goal

pub run_core-requires-clause-stand : goal.run_core-requires-clause-stand
run_core-requires-clause-stand g c = λ κs within. stand_first c.args.engine c.args.sessions _ _ c.requires.first c.requires.seats refl c.into_workers-workers.ensures.begun

pub run_core-requires-clause-few : goal.run_core-requires-clause-few
run_core-requires-clause-few g c = λ κs within. (let count = begun_count c.args.sessions _ c.into_workers-workers.ensures.begun in let few = c.requires.few in omega (arith, count, few))

pub results_of-requires-clause-ended : goal.results_of-requires-clause-ended
results_of-requires-clause-ended g c = c.in-Ok.ensures.ran.ended

pub results_of-requires-clause-empty : goal.results_of-requires-clause-empty
results_of-requires-clause-empty g c = c.into_workers-workers.ensures.empty.0

pub results_of-requires-clause-room : goal.results_of-requires-clause-room
results_of-requires-clause-room g c =
    let count = begun_count c.args.sessions _ c.into_workers-workers.ensures.begun in
    let all = c.in-Ok.ensures.ran.ended.count in
    let books = c.in-Ok.ensures.ran.sessions in
    let seats = c.requires.seats in
    let room = c.into_workers-workers.ensures.room in
    omega (arith, count, all, books, seats, room)

pub returns-in-Ok-clause-legal : goal.returns-in-Ok-clause-legal
returns-in-Ok-clause-legal g c = legal_since c.args.engine c.in-Ok.engine _ _ c.in-Ok.ensures.ran.recovered c.in-Ok.ensures.ran.sessions c.requires.seats c.results_of.ensures.history c.results_of.ensures.legal

pub returns-in-Ok-clause-fit : goal.returns-in-Ok-clause-fit
returns-in-Ok-clause-fit g c = subst AreFit (sym c.results_of.ensures.history) c.results_of.ensures.fit

pub returns-in-Ok-clause-ends : goal.returns-in-Ok-clause-ends
returns-in-Ok-clause-ends g c =
    subst (λ jobs. AreEnds g.S.Sink.held g.S.Sink.faults g.S.Sink.word jobs c.results_of.result.history c.results_of.result.ends) (c.in-Ok.ensures.ran.jobs ∙ c.into_workers-workers.ensures.begun.jobs_are) c.results_of.ensures.ends

pub sinks_of-requires-clause-begun : goal.sinks_of-requires-clause-begun
sinks_of-requires-clause-begun g c = begun_left c.args.sessions _ _ c.into_workers-workers.ensures.begun c.in-Err.ensures.unmade.1

pub sinks_of-requires-clause-empty : goal.sinks_of-requires-clause-empty
sinks_of-requires-clause-empty g c = c.into_workers-workers.ensures.empty.1

pub sinks_of-requires-clause-room : goal.sinks_of-requires-clause-room
sinks_of-requires-clause-room g c =
    let same = ap length c.in-Err.ensures.unmade.1 in
    let room = c.into_workers-workers.ensures.room_for_sinks in
    omega (arith, same, room)

pub returns-in-Err-clause-words : goal.returns-in-Err-clause-words
returns-in-Err-clause-words g c = c.sinks_of.ensures.words ∙ ap (map (λ (j : Job). j.word)) (ap jobs_of c.in-Err.ensures.unmade.1 ∙ c.into_workers-workers.ensures.begun.jobs_are)

pub returns-in-Ok-clause-recovered : goal.returns-in-Ok-clause-recovered
returns-in-Ok-clause-recovered g c = c.results_of.ensures.recovered ∙ c.in-Ok.ensures.ran.recovered

pub returns-in-Ok-clause-kept : goal.returns-in-Ok-clause-kept
returns-in-Ok-clause-kept g c = kept_since g.K.Keep.as_keeper c.args.engine c.in-Ok.engine _ _ _ c.in-Ok.ensures.ran.recovered c.in-Ok.ensures.ran.sessions c.requires.seats c.results_of.ensures.keeper c.results_of.ensures.history c.in-Ok.ensures.ran.kept

pub returns-in-Err-clause-unmade : goal.returns-in-Err-clause-unmade
returns-in-Err-clause-unmade g c = c.in-Err.ensures.unmade.0
