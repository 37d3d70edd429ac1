use Rattle.std.proofs.Common.{◌<◌, ◌⊎◌}
use Rattle.std.specs.Prelude.{IsSomeAnd}
use Rattle.ebr_faults.specs.Faults.{Rises}
use Rattle.ebr_words.specs.Words.{command_of}
use Rattle.ebr_server.specs.Handed.{handed}
use Rattle.ebr_server.specs.Program.{outside}
use Rattle.ebr_server.proofs.Causes.{bad_order, complete, complete_by, damaged, disk_fault, done, host_fault, legal, served_since, sink_fault, sink_stops, stops_bad, stops_damaged, stops_long, too_long, usage}
use Rattle.ebr_server.proofs.InWords.{rehearse_long}
use Rattle.ebr_server.proofs.command.serve_alone.Goals as goal

pub returns-clause-served : goal.returns-clause-served
returns-clause-served g c =
    let h0 = c.args.host.now in
    let h1 = c.report-report.new.self in
    served_since g.H.Sink.Sink.word g.H.Sink.Sink.held g.H.Sink.Sink.faults g.H.Disk.Disk.as_medium (IsSomeAnd c.do_alone.result.source (λ s. 0 < g.H.Source.Source.faults s)) c.args.words.now (handed g.H.Report.Sink.faults g.H.Report.Sink.held c.do_alone.result) (g.H.Host.bytes h0)
    (g.H.Host.bytes h1) (g.H.Host.disk_bytes h0) (g.H.Host.disk_bytes h1) (command_of c.args.words.now) (g.H.Host.faults h0) (g.H.Host.faults h1) (g.H.Host.faults c.do_alone.new.host) c.report-report.ensures.same c.report-report.ensures.same_disks
    c.report-report.ensures.counted c.do_alone.ensures.served

pub returns-clause-legal : goal.returns-clause-legal
returns-clause-legal g c =
    let h0 = c.args.host.now in
    legal (outside (g.H.Host.bytes h0) (g.H.Host.disk_bytes h0) g.H.Sink.Sink.word g.H.Sink.Sink.held g.H.Sink.Sink.faults g.H.Disk.Disk.as_medium) (Rises (g.H.Host.faults h0) (g.H.Host.faults c.do_alone.new.host) ⊎ IsSomeAnd c.do_alone.result.source (λ s. 0 < g.H.Source.Source.faults s)) c.args.words.now
    (handed g.H.Report.Sink.faults g.H.Report.Sink.held c.do_alone.result) (command_of c.args.words.now) (returns-clause-served g c)

pub returns-clause-usage : goal.returns-clause-usage
returns-clause-usage g c =
    let h0 = c.args.host.now in
    usage (outside (g.H.Host.bytes h0) (g.H.Host.disk_bytes h0) g.H.Sink.Sink.word g.H.Sink.Sink.held g.H.Sink.Sink.faults g.H.Disk.Disk.as_medium) (Rises (g.H.Host.faults h0) (g.H.Host.faults c.do_alone.new.host) ⊎ IsSomeAnd c.do_alone.result.source (λ s. 0 < g.H.Source.Source.faults s)) c.args.words.now
    (handed g.H.Report.Sink.faults g.H.Report.Sink.held c.do_alone.result) (command_of c.args.words.now) (returns-clause-served g c)

pub returns-clause-host_fault : goal.returns-clause-host_fault
returns-clause-host_fault g c =
    let h0 = c.args.host.now in
    host_fault (outside (g.H.Host.bytes h0) (g.H.Host.disk_bytes h0) g.H.Sink.Sink.word g.H.Sink.Sink.held g.H.Sink.Sink.faults g.H.Disk.Disk.as_medium) (Rises (g.H.Host.faults h0) (g.H.Host.faults c.do_alone.new.host) ⊎ IsSomeAnd c.do_alone.result.source (λ s. 0 < g.H.Source.Source.faults s)) c.args.words.now
    (handed g.H.Report.Sink.faults g.H.Report.Sink.held c.do_alone.result) (command_of c.args.words.now) (returns-clause-served g c)

pub returns-clause-disk_fault : goal.returns-clause-disk_fault
returns-clause-disk_fault g c =
    let h0 = c.args.host.now in
    disk_fault (outside (g.H.Host.bytes h0) (g.H.Host.disk_bytes h0) g.H.Sink.Sink.word g.H.Sink.Sink.held g.H.Sink.Sink.faults g.H.Disk.Disk.as_medium) (Rises (g.H.Host.faults h0) (g.H.Host.faults c.do_alone.new.host) ⊎ IsSomeAnd c.do_alone.result.source (λ s. 0 < g.H.Source.Source.faults s)) c.args.words.now
    (handed g.H.Report.Sink.faults g.H.Report.Sink.held c.do_alone.result) (command_of c.args.words.now) (returns-clause-served g c)

pub returns-clause-damaged : goal.returns-clause-damaged
returns-clause-damaged g c =
    let h0 = c.args.host.now in
    damaged (outside (g.H.Host.bytes h0) (g.H.Host.disk_bytes h0) g.H.Sink.Sink.word g.H.Sink.Sink.held g.H.Sink.Sink.faults g.H.Disk.Disk.as_medium) (Rises (g.H.Host.faults h0) (g.H.Host.faults c.do_alone.new.host) ⊎ IsSomeAnd c.do_alone.result.source (λ s. 0 < g.H.Source.Source.faults s)) c.args.words.now
    (handed g.H.Report.Sink.faults g.H.Report.Sink.held c.do_alone.result) (command_of c.args.words.now) (returns-clause-served g c)

pub returns-clause-sink_fault : goal.returns-clause-sink_fault
returns-clause-sink_fault g c =
    let h0 = c.args.host.now in
    sink_fault (outside (g.H.Host.bytes h0) (g.H.Host.disk_bytes h0) g.H.Sink.Sink.word g.H.Sink.Sink.held g.H.Sink.Sink.faults g.H.Disk.Disk.as_medium) (Rises (g.H.Host.faults h0) (g.H.Host.faults c.do_alone.new.host) ⊎ IsSomeAnd c.do_alone.result.source (λ s. 0 < g.H.Source.Source.faults s)) c.args.words.now
    (handed g.H.Report.Sink.faults g.H.Report.Sink.held c.do_alone.result) (command_of c.args.words.now) (returns-clause-served g c)

pub returns-clause-sink_stops : goal.returns-clause-sink_stops
returns-clause-sink_stops g c =
    let h0 = c.args.host.now in
    sink_stops (outside (g.H.Host.bytes h0) (g.H.Host.disk_bytes h0) g.H.Sink.Sink.word g.H.Sink.Sink.held g.H.Sink.Sink.faults g.H.Disk.Disk.as_medium) (Rises (g.H.Host.faults h0) (g.H.Host.faults c.do_alone.new.host) ⊎ IsSomeAnd c.do_alone.result.source (λ s. 0 < g.H.Source.Source.faults s)) c.args.words.now
    (handed g.H.Report.Sink.faults g.H.Report.Sink.held c.do_alone.result) (command_of c.args.words.now) (returns-clause-served g c)

pub returns-clause-done : goal.returns-clause-done
returns-clause-done g c =
    let h0 = c.args.host.now in
    done (outside (g.H.Host.bytes h0) (g.H.Host.disk_bytes h0) g.H.Sink.Sink.word g.H.Sink.Sink.held g.H.Sink.Sink.faults g.H.Disk.Disk.as_medium) (Rises (g.H.Host.faults h0) (g.H.Host.faults c.do_alone.new.host) ⊎ IsSomeAnd c.do_alone.result.source (λ s. 0 < g.H.Source.Source.faults s)) c.args.words.now
    (handed g.H.Report.Sink.faults g.H.Report.Sink.held c.do_alone.result) (command_of c.args.words.now) (returns-clause-served g c)

pub returns-clause-too_long : goal.returns-clause-too_long
returns-clause-too_long g c =
    let h0 = c.args.host.now in
    too_long (outside (g.H.Host.bytes h0) (g.H.Host.disk_bytes h0) g.H.Sink.Sink.word g.H.Sink.Sink.held g.H.Sink.Sink.faults g.H.Disk.Disk.as_medium) (Rises (g.H.Host.faults h0) (g.H.Host.faults c.do_alone.new.host) ⊎ IsSomeAnd c.do_alone.result.source (λ s. 0 < g.H.Source.Source.faults s)) c.args.words.now
    (handed g.H.Report.Sink.faults g.H.Report.Sink.held c.do_alone.result) (command_of c.args.words.now) (returns-clause-served g c)

pub returns-clause-bad_order : goal.returns-clause-bad_order
returns-clause-bad_order g c =
    let h0 = c.args.host.now in
    bad_order (outside (g.H.Host.bytes h0) (g.H.Host.disk_bytes h0) g.H.Sink.Sink.word g.H.Sink.Sink.held g.H.Sink.Sink.faults g.H.Disk.Disk.as_medium) (Rises (g.H.Host.faults h0) (g.H.Host.faults c.do_alone.new.host) ⊎ IsSomeAnd c.do_alone.result.source (λ s. 0 < g.H.Source.Source.faults s)) c.args.words.now
    (handed g.H.Report.Sink.faults g.H.Report.Sink.held c.do_alone.result) (command_of c.args.words.now) (returns-clause-served g c)

pub returns-clause-stops_long : goal.returns-clause-stops_long
returns-clause-stops_long g c =
    let h0 = c.args.host.now in
    stops_long (outside (g.H.Host.bytes h0) (g.H.Host.disk_bytes h0) g.H.Sink.Sink.word g.H.Sink.Sink.held g.H.Sink.Sink.faults g.H.Disk.Disk.as_medium) (Rises (g.H.Host.faults h0) (g.H.Host.faults c.do_alone.new.host) ⊎ IsSomeAnd c.do_alone.result.source (λ s. 0 < g.H.Source.Source.faults s)) c.args.words.now
    (handed g.H.Report.Sink.faults g.H.Report.Sink.held c.do_alone.result) (command_of c.args.words.now) (returns-clause-served g c)

pub returns-clause-stops_bad : goal.returns-clause-stops_bad
returns-clause-stops_bad g c =
    let h0 = c.args.host.now in
    stops_bad (outside (g.H.Host.bytes h0) (g.H.Host.disk_bytes h0) g.H.Sink.Sink.word g.H.Sink.Sink.held g.H.Sink.Sink.faults g.H.Disk.Disk.as_medium) (Rises (g.H.Host.faults h0) (g.H.Host.faults c.do_alone.new.host) ⊎ IsSomeAnd c.do_alone.result.source (λ s. 0 < g.H.Source.Source.faults s)) c.args.words.now
    (handed g.H.Report.Sink.faults g.H.Report.Sink.held c.do_alone.result) (command_of c.args.words.now) (rehearse_long c.args.words.now) (returns-clause-served g c)

pub returns-clause-stops_damaged : goal.returns-clause-stops_damaged
returns-clause-stops_damaged g c =
    let h0 = c.args.host.now in
    stops_damaged (outside (g.H.Host.bytes h0) (g.H.Host.disk_bytes h0) g.H.Sink.Sink.word g.H.Sink.Sink.held g.H.Sink.Sink.faults g.H.Disk.Disk.as_medium) (Rises (g.H.Host.faults h0) (g.H.Host.faults c.do_alone.new.host) ⊎ IsSomeAnd c.do_alone.result.source (λ s. 0 < g.H.Source.Source.faults s)) c.args.words.now
    (handed g.H.Report.Sink.faults g.H.Report.Sink.held c.do_alone.result) c.a_database_is_not_damaged.ensures (command_of c.args.words.now) (returns-clause-served g c)

pub returns-clause-complete : goal.returns-clause-complete
returns-clause-complete g c =
    let h0 = c.args.host.now in
    let o = outside (g.H.Host.bytes h0) (g.H.Host.disk_bytes h0) g.H.Sink.Sink.word g.H.Sink.Sink.held g.H.Sink.Sink.faults g.H.Disk.Disk.as_medium in
    let run = handed g.H.Report.Sink.faults g.H.Report.Sink.held c.do_alone.result in
    complete_by g.H.Source.Source.faults c.do_alone.result.source (g.H.Host.faults h0) (g.H.Host.faults c.do_alone.new.host) o c.args.words.now run (command_of c.args.words.now)
    (complete o (Rises (g.H.Host.faults h0) (g.H.Host.faults c.do_alone.new.host) ⊎ IsSomeAnd c.do_alone.result.source (λ s. 0 < g.H.Source.Source.faults s)) c.args.words.now run (command_of c.args.words.now) (returns-clause-served g c))
