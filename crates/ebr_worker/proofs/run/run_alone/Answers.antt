use Rattle.std.proofs.Common.{ap, refl, ◌∙◌}
use Rattle.ebr_session.specs.Has.{Progress}
use Rattle.ebr_worker.specs.Work.{Work}
use Rattle.ebr_worker.specs.inside.Memory.{as_keeper}
use Rattle.ebr_worker.proofs.RunAlone.{alone_few, history_alone, ran_alone, works_alone}
use Rattle.ebr_worker.proofs.Turns.{job_so}
use Rattle.ebr_worker.proofs.run.run_alone.Goals as goal

pub run_out-requires-clause-works : goal.run_out-requires-clause-works
run_out-requires-clause-works g c =
    works_alone _ _ _ _ c.args.script.now c.in-Ok-empty_engine.ensures c.in-Ok.ensures.begins c.in-Ok.ensures.follows (ap (λ (w : Work). w.session) c.new-worker.ensures) (ap (λ (w : Work). w.written) c.new-worker.ensures)
    (ap (λ (w : Work). w.faults) c.new-worker.ensures ∙ c.requires.unwritten.1) (ap (λ (w : Work). w.why) c.new-worker.ensures) (ap (λ (w : Work). w.end) c.new-worker.ensures)

pub into_end-requires-clause-few : goal.into_end-requires-clause-few
into_end-requires-clause-few g c = alone_few as_keeper _ _ _ _ c.run_out.ensures.alone c.run_out.ensures.ended

pub returns-clause-ran : goal.returns-clause-ran
returns-clause-ran g c =
    ran_alone g.S.Sink.held g.S.Sink.faults g.S.Sink.word as_keeper c.new-worker.result _ _ _ _ c.run_out.ensures.alone
    (ap (λ (w : Work). w.session.session) c.new-worker.ensures ∙ ap (λ (s : Progress). s.session) c.in-Ok.ensures.begins)
    (job_so c.new-worker.result c.args.script.now (g.S.Sink.word c.args.sink) (ap (λ (w : Work). w.session.script) c.new-worker.ensures ∙ ap (λ (s : Progress). s.script) c.in-Ok.ensures.begins) (ap (λ (w : Work). w.word) c.new-worker.ensures))
    _ _ c.run_out.ensures.ended c.into_parts-history.ensures.history
    (history_alone as_keeper _ _ _ _ _ (λ k. refl) c.run_out.ensures.alone _ c.in-Ok-empty_engine.ensures c.into_parts-history.ensures.history c.into_parts-history.ensures.legal)
    c.into_end.ensures.end c.into_end.ensures.sink
