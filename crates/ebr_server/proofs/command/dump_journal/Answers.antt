use Rattle.std.proofs.Common.{[], false, Option, None, Some, inl, inr, refl, ap, subst, sym, ◌∙◌}
use Rattle.std.specs.Prelude.{IfSome, is_some}
use Rattle.ebr_server.specs.Handed.{handed}
use Rattle.ebr_server.specs.Program.{LineFailed, Reported, journal_place, last_line, outside, sinks_back, word_at}
use Rattle.ebr_server.specs.inside.Opened.{LinesTold}
use Rattle.ebr_server.proofs.Calls.{all_called, called_same, fault_of, open_faultless, without_own}
use Rattle.ebr_server.proofs.Causes.{lines_faultless}
use Rattle.ebr_server.proofs.Dumping.{dump_ran, unopened_ran, unread_ran}
use Rattle.ebr_server.proofs.command.dump_journal.Goals as goal

pub returns-in-Err-clause-served : goal.returns-in-Err-clause-served
returns-in-Err-clause-served g c =
    let h = c.args.host.now in
    inl (unopened_ran (outside (g.H.Host.bytes h) (g.H.Host.disk_bytes h) g.H.Sink.Sink.word g.H.Sink.Sink.held g.H.Sink.Sink.faults g.H.Disk.Disk.as_medium) c.args.words.now _ _ _ c.in-Err.code (handed g.H.Report.Sink.faults g.H.Report.Sink.held c.stopped_by.result) c.in-Err.ensures.fails
    c.stopped_by.ensures.code c.stopped_by.ensures.recovered c.stopped_by.ensures.history c.stopped_by.ensures.ends c.stopped_by.ensures.sinks c.stopped_by.ensures.disk c.stopped_by.ensures.failed c.stopped_by.ensures.report)

pub returns-in-Err-clause-called : goal.returns-in-Err-clause-called
returns-in-Err-clause-called g c =
    called_same _ _ _ _ [] _ false _ (λ i. sinks_back g.H.Sink.Sink.word (sym c.stopped_by.ensures.ends i) (sym c.stopped_by.ensures.sinks i)) (ap (λ (d : Option g.row.H-Disk.Denot). is_some d) (sym c.stopped_by.ensures.disk))
    (without_own _ _ _ _ _ _ [] false c.stopped_by.ensures.source c.stopped_by.ensures.code c.in-Err.ensures.called)

pub returns-in-Ok-lines-clause-served : goal.returns-in-Ok-lines-clause-served
returns-in-Ok-lines-clause-served g c =
    let h = c.args.host.now in
    let o = outside (g.H.Host.bytes h) (g.H.Host.disk_bytes h) g.H.Sink.Sink.word g.H.Sink.Sink.held g.H.Sink.Sink.faults g.H.Disk.Disk.as_medium in
    inr (dump_ran o c.args.words.now _ _ _ _ _ _ _ _ c.in-Ok.disk c.in-Ok-lines.disk c.in-Ok-lines.lines c.in-Ok.ensures.entry c.in-Ok-lines.ensures.lines c.new-in-Ok-lines-2.ensures c.new-in-Ok-lines-3.ensures c.new.ensures refl
    (subst (λ l. LinesTold c.args.words.now l c.tell_lines-code.result (g.H.Report.Sink.faults c.tell_lines-code.new.report) (g.H.Report.Sink.held c.tell_lines-code.new.report)) c.as_slice.ensures c.tell_lines-code.ensures))

pub returns-in-Ok-lines-clause-called : goal.returns-in-Ok-lines-clause-called
returns-in-Ok-lines-clause-called g c = all_called _ _ _ _ _ _ c.in-Ok.ensures.opened (lines_faultless _ _ _ _ _ c.tell_lines-code.ensures) (λ i. sinks_back g.H.Sink.Sink.word (c.new.ensures i) (c.new-in-Ok-lines.ensures i)) refl

pub returns-in-Err-lines-clause-served : goal.returns-in-Err-lines-clause-served
returns-in-Err-lines-clause-served g c =
    let h = c.args.host.now in
    let o = outside (g.H.Host.bytes h) (g.H.Host.disk_bytes h) g.H.Sink.Sink.word g.H.Sink.Sink.held g.H.Sink.Sink.faults g.H.Disk.Disk.as_medium in
    inl (unread_ran o c.args.words.now _ c.in-Err-lines.fruitless.code (Some c.in-Err-lines.fruitless.disk) (handed g.H.Report.Sink.faults g.H.Report.Sink.held c.stopped.result) (c.in-Err-lines.ensures.stops (g.H.Host.disk_bytes h (word_at c.args.words.now journal_place)) c.in-Ok.ensures.entry)
    (c.stopped.ensures.code ∙ c.with_disk.ensures.code) c.stopped.ensures.recovered c.stopped.ensures.history c.stopped.ensures.ends (c.stopped.ensures.sinks ∙ c.with_disk.ensures.sinks ∙ c.new-in-Err-lines.ensures.items) (c.stopped.ensures.disk ∙ c.with_disk.ensures.disk)
    (subst (λ d. LineFailed d (g.H.Report.Sink.faults c.stopped.result.report)) c.with_disk.ensures.code c.stopped.ensures.failed)
    (subst (λ d. IfSome (g.H.Report.Sink.held c.stopped.result.report) (λ b. Reported (g.H.Report.Sink.faults c.stopped.result.report) b [] (last_line d c.args.words.now))) c.with_disk.ensures.code c.stopped.ensures.report))

pub returns-in-Err-lines-clause-called : goal.returns-in-Err-lines-clause-called
returns-in-Err-lines-clause-called g c =
    let over = c.in-Err-lines.ensures.stops (g.H.Host.disk_bytes c.args.host.now (word_at c.args.words.now journal_place)) c.in-Ok.ensures.entry in
    all_called _ _ _ _ _ _ c.in-Ok.ensures.opened (fault_of _ _ None (c.stopped.ensures.source ∙ c.with_disk.ensures.source) (open_faultless over.cause _ (c.stopped.ensures.code ∙ c.with_disk.ensures.code ∙ over.is_code)))
    (λ i. sinks_back g.H.Sink.Sink.word (c.stopped.ensures.ends i) ((c.stopped.ensures.sinks ∙ c.with_disk.ensures.sinks ∙ c.new-in-Err-lines.ensures.items) i)) (ap (λ (d : Option g.row.H-Disk.Denot). is_some d) (c.stopped.ensures.disk ∙ c.with_disk.ensures.disk))
