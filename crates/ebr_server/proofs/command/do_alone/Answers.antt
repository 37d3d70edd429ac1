use Rattle.std.proofs.Common.{◌<◌, ◌⊎◌, [], false, Option, Some, None, IsSomeAnd, refl, sym, ap, subst, ◌∙◌}
use Rattle.std.specs.Prelude.{is_some}
use Rattle.ebr_faults.specs.Faults.{Rises}
use Rattle.ebr_words.specs.declared.words.Command.{Command}
use Rattle.ebr_server.specs.Handed.{handed}
use Rattle.ebr_server.specs.Program.{Served, fault_at, outside, sinks_back}
use Rattle.ebr_server.proofs.Calls.{called_same, fault_of, none_called}
use Rattle.ebr_server.proofs.command.do_alone.Goals as goal

pub returns-in-Some-Try-clause-served : goal.returns-in-Some-Try-clause-served
returns-in-Some-Try-clause-served g c =
    let h = c.args.host.now in
    subst (λ (k : Option Command). Served k (outside (g.H.Host.bytes h) (g.H.Host.disk_bytes h) g.H.Sink.Sink.word g.H.Sink.Sink.held g.H.Sink.Sink.faults g.H.Disk.Disk.as_medium)
    (Rises (g.H.Host.faults h) (g.H.Host.faults c.try_script.new.host) ⊎ IsSomeAnd c.try_script.result.source (λ s. 0 < g.H.Source.Source.faults s)) c.args.words.now (handed g.H.Report.Sink.faults g.H.Report.Sink.held c.try_script.result))
    (sym (ap Some c.in-Some-Try.field-0-is) ∙ c.in-Some-Try.ensures) c.try_script.ensures.served

pub returns-in-Some-Dump-clause-served : goal.returns-in-Some-Dump-clause-served
returns-in-Some-Dump-clause-served g c =
    let h = c.args.host.now in
    subst (λ (k : Option Command). Served k (outside (g.H.Host.bytes h) (g.H.Host.disk_bytes h) g.H.Sink.Sink.word g.H.Sink.Sink.held g.H.Sink.Sink.faults g.H.Disk.Disk.as_medium)
    (Rises (g.H.Host.faults h) (g.H.Host.faults c.dump_journal.new.host) ⊎ IsSomeAnd c.dump_journal.result.source (λ s. 0 < g.H.Source.Source.faults s)) c.args.words.now (handed g.H.Report.Sink.faults g.H.Report.Sink.held c.dump_journal.result))
    (sym (ap Some c.in-Some-Dump.field-0-is) ∙ c.in-Some-Dump.ensures) c.dump_journal.ensures.served

pub returns-in-Some-Rehearse-clause-served : goal.returns-in-Some-Rehearse-clause-served
returns-in-Some-Rehearse-clause-served g c =
    let h = c.args.host.now in
    subst (λ (k : Option Command). Served k (outside (g.H.Host.bytes h) (g.H.Host.disk_bytes h) g.H.Sink.Sink.word g.H.Sink.Sink.held g.H.Sink.Sink.faults g.H.Disk.Disk.as_medium)
    (Rises (g.H.Host.faults h) (g.H.Host.faults c.rehearse.new.host) ⊎ IsSomeAnd c.rehearse.result.source (λ s. 0 < g.H.Source.Source.faults s)) c.args.words.now (handed g.H.Report.Sink.faults g.H.Report.Sink.held c.rehearse.result))
    (sym (ap Some c.in-Some-Rehearse.field-0-is) ∙ c.in-Some-Rehearse.ensures) c.rehearse.ensures.served

pub returns-in-None-clause-called : goal.returns-in-None-clause-called
returns-in-None-clause-called g c =
    called_same _ _ _ _ [] _ false _ (λ i. sinks_back g.H.Sink.Sink.word (sym c.stopped_by.ensures.ends i) (sym c.stopped_by.ensures.sinks i)) (ap (λ (d : Option g.row.H-Disk.Denot). is_some d) (sym c.stopped_by.ensures.disk))
    (none_called _ _ _ _ refl (fault_of _ _ None c.stopped_by.ensures.source (ap fault_at c.stopped_by.ensures.code)))
