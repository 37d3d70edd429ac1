use Rattle.std.specs.Prelude.{Some, is_some}
use Rattle.std.proofs.Common.{[], ◌<◌, inl, inr, refl, ap, subst, sym, ◌∙◌}
use Rattle.ebr_faults.specs.Faults.{Rises}
use Rattle.ebr_words.specs.declared.words.Command.TheVariants.{Rehearse}
use Rattle.ebr_server.specs.Handed.{handed}
use Rattle.ebr_server.specs.Program.{Handed, IsReadFault, Ran, before_rehearsal, journal_place, outside, sinks_back}
use Rattle.ebr_server.proofs.Back.{ends_back, stopped_called, stopped_source}
use Rattle.ebr_server.proofs.Calls.{all_called, both_make, both_open, disk_makes, disk_opens}
use Rattle.ebr_server.proofs.Causes.{ends_faultless}
use Rattle.ebr_server.proofs.Serving.{stopped_so}
use Rattle.ebr_server.proofs.command.rehearse.Goals as goal

pub returns-in-Ok-clause-served : goal.returns-in-Ok-clause-served
returns-in-Ok-clause-served g c =
    let h = c.args.host.now in
    inr (subst (Ran (Some Rehearse) (outside (g.H.Host.bytes h) (g.H.Host.disk_bytes h) g.H.Sink.Sink.word g.H.Sink.Sink.held g.H.Sink.Sink.faults g.H.Disk.Disk.as_medium) c.args.words.now) (sym c.outcome_of.ensures.is)
    (record { now = c.in-Ok.ended.disk; disk_is = refl; ran = c.in-Ok.ensures.ran; summed = c.outcome_of.ensures.told }))

pub returns-in-Ok-clause-called : goal.returns-in-Ok-clause-called
returns-in-Ok-clause-called g c =
    rw c.outcome_of.ensures.source (all_called _ _ _ _ _ _ c.in-Ok.ensures.opened (ends_faultless _ _ _ _ _ _ c.outcome_of.ensures.told)
    (ap (λ (x : Handed g.row.H-Sink.Denot g.row.H-Disk.Denot). sinks_back g.H.Sink.Sink.word x.ends x.sinks) c.outcome_of.ensures.is
    ∙ ends_back g.H.Sink.Sink.word g.H.Sink.Sink.held g.H.Sink.Sink.faults _ _ 3 _ _ _ [] refl c.in-Ok.ensures.ran.ran.are_jobs c.in-Ok.ensures.ran.ran.are_ends ∙ sym (disk_makes (before_rehearsal c.args.words.now) c.args.words.now journal_place ∙ both_make c.args.words.now 3))
    (ap (λ (x : Handed g.row.H-Sink.Denot g.row.H-Disk.Denot). is_some x.disk) c.outcome_of.ensures.is ∙ sym (disk_opens (before_rehearsal c.args.words.now) c.args.words.now journal_place (both_open c.args.words.now 3))))

pub returns-in-Err-clause-called : goal.returns-in-Err-clause-called
returns-in-Err-clause-called g c =
    stopped_called g.H.Sink.Sink.word _ _ _ c.in-Err.stop _ _ _ _ _ c.stopped.ensures.code c.stopped.ensures.source c.stopped.ensures.ends c.stopped.ensures.sinks c.stopped.ensures.disk c.in-Err.ensures.called

pub returns-in-Err-clause-source : goal.returns-in-Err-clause-source
returns-in-Err-clause-source g c =
    stopped_source (λ s code. IsReadFault code c.args.words.now (g.H.Source.Source.word s) × (0 < g.H.Source.Source.faults s)) c.in-Err.stop _ _ c.stopped.ensures.code c.stopped.ensures.source c.in-Err.ensures.source

pub returns-in-Err-clause-served : goal.returns-in-Err-clause-served
returns-in-Err-clause-served g c =
    let h = c.args.host.now in
    inl (stopped_so (outside (g.H.Host.bytes h) (g.H.Host.disk_bytes h) g.H.Sink.Sink.word g.H.Sink.Sink.held g.H.Sink.Sink.faults g.H.Disk.Disk.as_medium) c.args.words.now Rehearse g.H.Source.Source.faults (Rises (g.H.Host.faults h) (g.H.Host.faults c.rehearsed.new.host)) c.in-Err.stop
    c.stopped.result.source (handed g.H.Report.Sink.faults g.H.Report.Sink.held c.stopped.result) c.in-Err.ensures.stops c.in-Err.ensures.disk c.stopped.ensures.code c.stopped.ensures.source c.stopped.ensures.recovered c.stopped.ensures.history c.stopped.ensures.ends c.in-Err.ensures.unwritten c.stopped.ensures.sinks c.stopped.ensures.disk
    c.stopped.ensures.failed c.stopped.ensures.report)
