use Rattle.std.proofs.Common.{◌<◌, ◌⊎◌, inl, [], false, Option, None, Some, ap, sym, subst}
use Rattle.std.specs.Prelude.{All, IsSomeAnd, is_some, map}
use Rattle.std.proofs.lemmas.List.Elements.{All-nil}
use Rattle.ebr_faults.specs.Faults.{Rises}
use Rattle.ebr_worker.specs.Runs.{IsUnwritten}
use Rattle.ebr_startup.specs.Opened.{Unopened}
use Rattle.ebr_server.specs.Disks.{NeedsNone}
use Rattle.ebr_server.specs.Handed.{handed}
use Rattle.ebr_words.specs.declared.words.Command.TheVariants.{Try}
use Rattle.ebr_server.specs.Program.{CallsInOrder, Stops, order_of_work, outside, own_fault}
use Rattle.ebr_server.specs.inside.Opened.{WasRead}
use Rattle.ebr_server.proofs.Back.{stopped_called}
use Rattle.ebr_server.proofs.Calls.{all_called, called_same, fault_of}
use Rattle.ebr_server.proofs.Causes.{script_faultless}
use Rattle.ebr_server.proofs.OverDisk.{late_none}
use Rattle.ebr_server.proofs.Serving.{stopped_so, tried, try_stops}
use Rattle.ebr_server.proofs.Staying.{fails_none}
use Rattle.ebr_server.proofs.command.try_script.Goals as goal

pub returns-in-Ok-clause-served : goal.returns-in-Ok-clause-served
returns-in-Ok-clause-served g c =
    let h = c.args.host.now in
    tried (outside (g.H.Host.bytes h) (g.H.Host.disk_bytes h) g.H.Sink.Sink.word g.H.Sink.Sink.held g.H.Sink.Sink.faults g.H.Disk.Disk.as_medium)
    (Rises (g.H.Host.faults h) (g.H.Host.faults c.read_word.new.host) ⊎ IsSomeAnd c.run_script.result.source (λ s. 0 < g.H.Source.Source.faults s)) c.as_slice.result.now c.args.words.now (handed g.H.Report.Sink.faults g.H.Report.Sink.held c.run_script.result)
    (subst (WasRead (g.H.Host.bytes h) c.args.words.now 1) (sym c.as_slice.ensures) c.in-Ok.ensures.read) (c.run_script.ensures.served (g.H.Host.bytes h) (g.H.Host.disk_bytes h) g.H.Sink.Sink.word g.H.Sink.Sink.held g.H.Sink.Sink.faults)

pub returns-in-Ok-clause-called : goal.returns-in-Ok-clause-called
returns-in-Ok-clause-called g c =
    all_called _ _ _ _ _ _ c.in-Ok.ensures.opened
    (fault_of _ _ None c.run_script.ensures.source (script_faultless _ _ c.args.words.now _ (c.run_script.ensures.served (g.H.Host.bytes c.args.host.now) (g.H.Host.disk_bytes c.args.host.now) g.H.Sink.Sink.word g.H.Sink.Sink.held g.H.Sink.Sink.faults)))
    (c.run_script.ensures.back g.H.Sink.Sink.word) (ap (λ (d : Option g.row.H-Disk.Denot). is_some d) c.run_script.ensures.no_disk)

pub returns-in-Err-clause-called : goal.returns-in-Err-clause-called
returns-in-Err-clause-called g c =
    stopped_called g.H.Sink.Sink.word _ _ _ c.without_sinks.result _ _ _ _ _ c.stopped.ensures.code c.stopped.ensures.source c.stopped.ensures.ends c.stopped.ensures.sinks c.stopped.ensures.disk
    (called_same _ _ _ _ [] _ false _ (ap (map g.H.Sink.Sink.word) (sym c.without_sinks.ensures.sinks)) (ap (λ (d : Option g.row.H-Disk.Denot). is_some d) (sym c.without_sinks.ensures.disk))
    (subst (λ h. CallsInOrder (g.H.Host.calls c.args.host.now) (g.H.Host.calls c.read_word.new.host) (order_of_work (Some Try) c.args.words.now) (own_fault h.code h.source) [] false) (sym c.without_sinks.ensures.halt) c.in-Err.ensures.called))

pub returns-in-Err-clause-served : goal.returns-in-Err-clause-served
returns-in-Err-clause-served g c =
    let h = c.args.host.now in
    let o = outside (g.H.Host.bytes h) (g.H.Host.disk_bytes h) g.H.Sink.Sink.word g.H.Sink.Sink.held g.H.Sink.Sink.faults g.H.Disk.Disk.as_medium in
    inl (stopped_so o c.args.words.now Try g.H.Source.Source.faults (Rises (g.H.Host.faults h) (g.H.Host.faults c.read_word.new.host)) c.without_sinks.result
    c.stopped.result.source (handed g.H.Report.Sink.faults g.H.Report.Sink.held c.stopped.result)
    (subst (λ x. Stops (Some Try) (g.H.Host.bytes h) c.args.words.now (Rises (g.H.Host.faults h) (g.H.Host.faults c.read_word.new.host) ⊎ IsSomeAnd x.source (λ s. 0 < g.H.Source.Source.faults s)) x.code) (sym c.without_sinks.ensures.halt) (try_stops (g.H.Host.bytes h) c.args.words.now _ c.in-Err.halt.code c.in-Err.ensures.fails))
    (late_none c.without_sinks.result c.without_sinks.ensures.disk Unopened g.H.Disk.Disk.as_medium _ (subst (λ x. NeedsNone x.code) (sym c.without_sinks.ensures.halt) (fails_none (g.H.Host.bytes h) c.args.words.now 1 _ c.in-Err.halt.code c.in-Err.ensures.fails)))
    c.stopped.ensures.code c.stopped.ensures.source c.stopped.ensures.recovered c.stopped.ensures.history c.stopped.ensures.ends
    (subst (All (IsUnwritten g.H.Sink.Sink.held g.H.Sink.Sink.faults)) (sym c.without_sinks.ensures.sinks) (All-nil _))
    c.stopped.ensures.sinks c.stopped.ensures.disk c.stopped.ensures.failed c.stopped.ensures.report)
