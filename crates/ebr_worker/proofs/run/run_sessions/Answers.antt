use Rattle.std.proofs.Common.{◌≡◌, length, ap, arith, subst, sym, ◌∙◌}
use Rattle.std.proofs.lemmas.List.{with_items_is}
use Rattle.ebr_core.specs.Asked.{AreFit}
use Rattle.ebr_worker.specs.Paced.{Paced}
use Rattle.ebr_worker.specs.Rehearsal.{AllEnded, jobs_of}
use Rattle.ebr_worker.specs.Runs.{AreEnds}
use Rattle.ebr_worker.proofs.Running.{begun_count, ended_jobs, kept_since, legal_since, order_first, stand_first}
use Rattle.ebr_worker.proofs.run.run_sessions.Goals as goal

pub rehearse_core-requires-clause-stand : goal.rehearse_core-requires-clause-stand
rehearse_core-requires-clause-stand g c =
    stand_first _ c.args.sessions _ _ c.requires.first c.requires.seats c.as_mut_slice.ensures.value c.into_workers-workers.ensures.begun

pub rehearse_core-requires-clause-order : goal.rehearse_core-requires-clause-order
rehearse_core-requires-clause-order g c = order_first c.args.sessions _ _ c.args.order.now c.as_mut_slice.ensures.value c.into_workers-workers.ensures.begun c.requires.order

pub results_of-requires-clause-ended : goal.results_of-requires-clause-ended
results_of-requires-clause-ended g c =
    let ws = c.into_workers-workers.result.0 in
    let begun_yet = c.into_workers-workers.ensures.begun in
    let same = ended_jobs c.args.sessions _ _ c.rehearse_core.new.workers c.as_mut_slice.ensures.value begun_yet c.rehearse_core.ensures.jobs in
    let made : length ws.items ≡ length c.args.sessions = begun_count c.args.sessions _ begun_yet in
    subst (λ vs. AllEnded vs c.rehearse_core.new.engine) (sym (with_items_is ws c.rehearse_core.new.workers (omega (arith, same.1, made, ws.ok.0)))) c.rehearse_core.ensures.ended

pub results_of-requires-clause-empty : goal.results_of-requires-clause-empty
results_of-requires-clause-empty g c = c.into_workers-workers.ensures.empty.0

pub results_of-requires-clause-room : goal.results_of-requires-clause-room
results_of-requires-clause-room g c =
    let ws = c.into_workers-workers.result.0 in
    let begun_yet = c.into_workers-workers.ensures.begun in
    let same = ended_jobs c.args.sessions _ _ c.rehearse_core.new.workers c.as_mut_slice.ensures.value begun_yet c.rehearse_core.ensures.jobs in
    let made : length ws.items ≡ length c.args.sessions = begun_count c.args.sessions _ begun_yet in
    let items = ap length (with_items_is ws c.rehearse_core.new.workers (omega (arith, same.1, made, ws.ok.0))) in
    omega (arith, items, same.1, made, c.into_workers-workers.ensures.room)

pub returns-clause-legal : goal.returns-clause-legal
returns-clause-legal g c = legal_since c.args.engine c.rehearse_core.new.engine _ _ c.rehearse_core.ensures.recovered c.rehearse_core.ensures.sessions c.requires.seats c.results_of.ensures.history c.results_of.ensures.legal

pub returns-clause-fit : goal.returns-clause-fit
returns-clause-fit g c = subst AreFit (sym c.results_of.ensures.history) c.results_of.ensures.fit

pub returns-clause-ends : goal.returns-clause-ends
returns-clause-ends g c =
    let ws = c.into_workers-workers.result.0 in
    let begun_yet = c.into_workers-workers.ensures.begun in
    let same = ended_jobs c.args.sessions _ _ c.rehearse_core.new.workers c.as_mut_slice.ensures.value begun_yet c.rehearse_core.ensures.jobs in
    let made : length ws.items ≡ length c.args.sessions = begun_count c.args.sessions _ begun_yet in
    subst (λ jobs. AreEnds g.S.Sink.held g.S.Sink.faults g.S.Sink.word jobs c.results_of.result.history c.results_of.result.ends)
    (ap jobs_of (with_items_is ws c.rehearse_core.new.workers (omega (arith, same.1, made, ws.ok.0))) ∙ same.0) c.results_of.ensures.ends

pub returns-clause-paced : goal.returns-clause-paced
returns-clause-paced g c =
    subst (λ n. Paced n c.args.order.now c.results_of.result.history) (ap length c.as_mut_slice.ensures.value ∙ begun_count c.args.sessions _ c.into_workers-workers.ensures.begun)
    (subst (Paced _ c.args.order.now) (sym c.results_of.ensures.history) c.rehearse_core.ensures.paced)

pub returns-clause-recovered : goal.returns-clause-recovered
returns-clause-recovered g c = c.results_of.ensures.recovered ∙ c.rehearse_core.ensures.recovered

pub returns-clause-kept : goal.returns-clause-kept
returns-clause-kept g c = kept_since g.K.Keep.as_keeper c.args.engine c.rehearse_core.new.engine _ _ _ c.rehearse_core.ensures.recovered c.rehearse_core.ensures.sessions c.requires.seats c.results_of.ensures.keeper c.results_of.ensures.history c.rehearse_core.ensures.kept
