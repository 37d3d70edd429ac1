use Rattle.std.proofs.Common.{◌<◌, ◌⊎◌, Option, Some, sym, ap, subst, ◌∙◌}
use Rattle.std.specs.Prelude.{IsSomeAnd}
use Rattle.ebr_faults.specs.Faults.{Rises}
use Rattle.ebr_words.specs.Words.{command_of}
use Rattle.ebr_words.specs.declared.words.Command.{Command}
use Rattle.ebr_server.specs.Handed.{handed}
use Rattle.ebr_server.specs.Program.{Served, outside}
use Rattle.ebr_server.proofs.Causes.{bad_order, complete, complete_by, damaged, disk_fault, done, host_fault, legal, sink_fault, sink_stops, stops_bad, stops_damaged, stops_long, too_long, usage}
use Rattle.ebr_server.proofs.InWords.{rehearse_long}
use Rattle.ebr_server.proofs.command.serve.Goals as goal

pub returns-in-Some-Run-clause-served : goal.returns-in-Some-Run-clause-served
returns-in-Some-Run-clause-served g c =
    let h0 = c.args.host.now in
    subst (λ (k : Option Command). Served k (outside (g.H.Host.bytes h0) (g.H.Host.disk_bytes h0) g.H.Sink.Sink.word g.H.Sink.Sink.held g.H.Sink.Sink.faults g.H.Disk.Disk.as_medium) (Rises (g.H.Host.faults h0) (g.H.Host.faults c.serve_run.new.host) ⊎ IsSomeAnd c.serve_run.result.source (λ s. 0 < g.H.Source.Source.faults s)) c.args.words.now (handed g.H.Report.Sink.faults g.H.Report.Sink.held c.serve_run.result))
    (sym (ap Some c.in-Some-Run.field-0-is) ∙ c.in-Some-Run.ensures) c.serve_run.ensures.served

pub returns-in-Some-Run-clause-legal : goal.returns-in-Some-Run-clause-legal
returns-in-Some-Run-clause-legal g c =
    let h0 = c.args.host.now in
    legal (outside (g.H.Host.bytes h0) (g.H.Host.disk_bytes h0) g.H.Sink.Sink.word g.H.Sink.Sink.held g.H.Sink.Sink.faults g.H.Disk.Disk.as_medium) (Rises (g.H.Host.faults h0) (g.H.Host.faults c.serve_run.new.host) ⊎ IsSomeAnd c.serve_run.result.source (λ s. 0 < g.H.Source.Source.faults s)) c.args.words.now
    (handed g.H.Report.Sink.faults g.H.Report.Sink.held c.serve_run.result) (command_of c.args.words.now) (returns-in-Some-Run-clause-served g c)

pub returns-in-Some-Run-clause-usage : goal.returns-in-Some-Run-clause-usage
returns-in-Some-Run-clause-usage g c =
    let h0 = c.args.host.now in
    usage (outside (g.H.Host.bytes h0) (g.H.Host.disk_bytes h0) g.H.Sink.Sink.word g.H.Sink.Sink.held g.H.Sink.Sink.faults g.H.Disk.Disk.as_medium) (Rises (g.H.Host.faults h0) (g.H.Host.faults c.serve_run.new.host) ⊎ IsSomeAnd c.serve_run.result.source (λ s. 0 < g.H.Source.Source.faults s)) c.args.words.now
    (handed g.H.Report.Sink.faults g.H.Report.Sink.held c.serve_run.result) (command_of c.args.words.now) (returns-in-Some-Run-clause-served g c)

pub returns-in-Some-Run-clause-host_fault : goal.returns-in-Some-Run-clause-host_fault
returns-in-Some-Run-clause-host_fault g c =
    let h0 = c.args.host.now in
    host_fault (outside (g.H.Host.bytes h0) (g.H.Host.disk_bytes h0) g.H.Sink.Sink.word g.H.Sink.Sink.held g.H.Sink.Sink.faults g.H.Disk.Disk.as_medium) (Rises (g.H.Host.faults h0) (g.H.Host.faults c.serve_run.new.host) ⊎ IsSomeAnd c.serve_run.result.source (λ s. 0 < g.H.Source.Source.faults s)) c.args.words.now
    (handed g.H.Report.Sink.faults g.H.Report.Sink.held c.serve_run.result) (command_of c.args.words.now) (returns-in-Some-Run-clause-served g c)

pub returns-in-Some-Run-clause-disk_fault : goal.returns-in-Some-Run-clause-disk_fault
returns-in-Some-Run-clause-disk_fault g c =
    let h0 = c.args.host.now in
    disk_fault (outside (g.H.Host.bytes h0) (g.H.Host.disk_bytes h0) g.H.Sink.Sink.word g.H.Sink.Sink.held g.H.Sink.Sink.faults g.H.Disk.Disk.as_medium) (Rises (g.H.Host.faults h0) (g.H.Host.faults c.serve_run.new.host) ⊎ IsSomeAnd c.serve_run.result.source (λ s. 0 < g.H.Source.Source.faults s)) c.args.words.now
    (handed g.H.Report.Sink.faults g.H.Report.Sink.held c.serve_run.result) (command_of c.args.words.now) (returns-in-Some-Run-clause-served g c)

pub returns-in-Some-Run-clause-damaged : goal.returns-in-Some-Run-clause-damaged
returns-in-Some-Run-clause-damaged g c =
    let h0 = c.args.host.now in
    damaged (outside (g.H.Host.bytes h0) (g.H.Host.disk_bytes h0) g.H.Sink.Sink.word g.H.Sink.Sink.held g.H.Sink.Sink.faults g.H.Disk.Disk.as_medium) (Rises (g.H.Host.faults h0) (g.H.Host.faults c.serve_run.new.host) ⊎ IsSomeAnd c.serve_run.result.source (λ s. 0 < g.H.Source.Source.faults s)) c.args.words.now
    (handed g.H.Report.Sink.faults g.H.Report.Sink.held c.serve_run.result) (command_of c.args.words.now) (returns-in-Some-Run-clause-served g c)

pub returns-in-Some-Run-clause-sink_fault : goal.returns-in-Some-Run-clause-sink_fault
returns-in-Some-Run-clause-sink_fault g c =
    let h0 = c.args.host.now in
    sink_fault (outside (g.H.Host.bytes h0) (g.H.Host.disk_bytes h0) g.H.Sink.Sink.word g.H.Sink.Sink.held g.H.Sink.Sink.faults g.H.Disk.Disk.as_medium) (Rises (g.H.Host.faults h0) (g.H.Host.faults c.serve_run.new.host) ⊎ IsSomeAnd c.serve_run.result.source (λ s. 0 < g.H.Source.Source.faults s)) c.args.words.now
    (handed g.H.Report.Sink.faults g.H.Report.Sink.held c.serve_run.result) (command_of c.args.words.now) (returns-in-Some-Run-clause-served g c)

pub returns-in-Some-Run-clause-sink_stops : goal.returns-in-Some-Run-clause-sink_stops
returns-in-Some-Run-clause-sink_stops g c =
    let h0 = c.args.host.now in
    sink_stops (outside (g.H.Host.bytes h0) (g.H.Host.disk_bytes h0) g.H.Sink.Sink.word g.H.Sink.Sink.held g.H.Sink.Sink.faults g.H.Disk.Disk.as_medium) (Rises (g.H.Host.faults h0) (g.H.Host.faults c.serve_run.new.host) ⊎ IsSomeAnd c.serve_run.result.source (λ s. 0 < g.H.Source.Source.faults s)) c.args.words.now
    (handed g.H.Report.Sink.faults g.H.Report.Sink.held c.serve_run.result) (command_of c.args.words.now) (returns-in-Some-Run-clause-served g c)

pub returns-in-Some-Run-clause-done : goal.returns-in-Some-Run-clause-done
returns-in-Some-Run-clause-done g c =
    let h0 = c.args.host.now in
    done (outside (g.H.Host.bytes h0) (g.H.Host.disk_bytes h0) g.H.Sink.Sink.word g.H.Sink.Sink.held g.H.Sink.Sink.faults g.H.Disk.Disk.as_medium) (Rises (g.H.Host.faults h0) (g.H.Host.faults c.serve_run.new.host) ⊎ IsSomeAnd c.serve_run.result.source (λ s. 0 < g.H.Source.Source.faults s)) c.args.words.now
    (handed g.H.Report.Sink.faults g.H.Report.Sink.held c.serve_run.result) (command_of c.args.words.now) (returns-in-Some-Run-clause-served g c)

pub returns-in-Some-Run-clause-too_long : goal.returns-in-Some-Run-clause-too_long
returns-in-Some-Run-clause-too_long g c =
    let h0 = c.args.host.now in
    too_long (outside (g.H.Host.bytes h0) (g.H.Host.disk_bytes h0) g.H.Sink.Sink.word g.H.Sink.Sink.held g.H.Sink.Sink.faults g.H.Disk.Disk.as_medium) (Rises (g.H.Host.faults h0) (g.H.Host.faults c.serve_run.new.host) ⊎ IsSomeAnd c.serve_run.result.source (λ s. 0 < g.H.Source.Source.faults s)) c.args.words.now
    (handed g.H.Report.Sink.faults g.H.Report.Sink.held c.serve_run.result) (command_of c.args.words.now) (returns-in-Some-Run-clause-served g c)

pub returns-in-Some-Run-clause-bad_order : goal.returns-in-Some-Run-clause-bad_order
returns-in-Some-Run-clause-bad_order g c =
    let h0 = c.args.host.now in
    bad_order (outside (g.H.Host.bytes h0) (g.H.Host.disk_bytes h0) g.H.Sink.Sink.word g.H.Sink.Sink.held g.H.Sink.Sink.faults g.H.Disk.Disk.as_medium) (Rises (g.H.Host.faults h0) (g.H.Host.faults c.serve_run.new.host) ⊎ IsSomeAnd c.serve_run.result.source (λ s. 0 < g.H.Source.Source.faults s)) c.args.words.now
    (handed g.H.Report.Sink.faults g.H.Report.Sink.held c.serve_run.result) (command_of c.args.words.now) (returns-in-Some-Run-clause-served g c)

pub returns-in-Some-Run-clause-stops_long : goal.returns-in-Some-Run-clause-stops_long
returns-in-Some-Run-clause-stops_long g c =
    let h0 = c.args.host.now in
    stops_long (outside (g.H.Host.bytes h0) (g.H.Host.disk_bytes h0) g.H.Sink.Sink.word g.H.Sink.Sink.held g.H.Sink.Sink.faults g.H.Disk.Disk.as_medium) (Rises (g.H.Host.faults h0) (g.H.Host.faults c.serve_run.new.host) ⊎ IsSomeAnd c.serve_run.result.source (λ s. 0 < g.H.Source.Source.faults s)) c.args.words.now
    (handed g.H.Report.Sink.faults g.H.Report.Sink.held c.serve_run.result) (command_of c.args.words.now) (returns-in-Some-Run-clause-served g c)

pub returns-in-Some-Run-clause-stops_bad : goal.returns-in-Some-Run-clause-stops_bad
returns-in-Some-Run-clause-stops_bad g c =
    let h0 = c.args.host.now in
    stops_bad (outside (g.H.Host.bytes h0) (g.H.Host.disk_bytes h0) g.H.Sink.Sink.word g.H.Sink.Sink.held g.H.Sink.Sink.faults g.H.Disk.Disk.as_medium) (Rises (g.H.Host.faults h0) (g.H.Host.faults c.serve_run.new.host) ⊎ IsSomeAnd c.serve_run.result.source (λ s. 0 < g.H.Source.Source.faults s)) c.args.words.now
    (handed g.H.Report.Sink.faults g.H.Report.Sink.held c.serve_run.result) (command_of c.args.words.now) (rehearse_long c.args.words.now) (returns-in-Some-Run-clause-served g c)

pub returns-in-Some-Run-clause-stops_damaged : goal.returns-in-Some-Run-clause-stops_damaged
returns-in-Some-Run-clause-stops_damaged g c =
    let h0 = c.args.host.now in
    stops_damaged (outside (g.H.Host.bytes h0) (g.H.Host.disk_bytes h0) g.H.Sink.Sink.word g.H.Sink.Sink.held g.H.Sink.Sink.faults g.H.Disk.Disk.as_medium) (Rises (g.H.Host.faults h0) (g.H.Host.faults c.serve_run.new.host) ⊎ IsSomeAnd c.serve_run.result.source (λ s. 0 < g.H.Source.Source.faults s)) c.args.words.now
    (handed g.H.Report.Sink.faults g.H.Report.Sink.held c.serve_run.result) c.a_database_is_not_damaged.ensures (command_of c.args.words.now) (returns-in-Some-Run-clause-served g c)

pub returns-in-Some-Run-clause-complete : goal.returns-in-Some-Run-clause-complete
returns-in-Some-Run-clause-complete g c =
    let h0 = c.args.host.now in
    let o = outside (g.H.Host.bytes h0) (g.H.Host.disk_bytes h0) g.H.Sink.Sink.word g.H.Sink.Sink.held g.H.Sink.Sink.faults g.H.Disk.Disk.as_medium in
    let run = handed g.H.Report.Sink.faults g.H.Report.Sink.held c.serve_run.result in
    complete_by g.H.Source.Source.faults c.serve_run.result.source (g.H.Host.faults h0) (g.H.Host.faults c.serve_run.new.host) o c.args.words.now run (command_of c.args.words.now)
    (complete o (Rises (g.H.Host.faults h0) (g.H.Host.faults c.serve_run.new.host) ⊎ IsSomeAnd c.serve_run.result.source (λ s. 0 < g.H.Source.Source.faults s)) c.args.words.now run (command_of c.args.words.now) (returns-in-Some-Run-clause-served g c))
