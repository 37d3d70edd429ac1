use Rattle.std.proofs.Common.{◌<◌, Some}
use Rattle.std.specs.Prelude.{IsSomeAnd}
use Rattle.ebr_words.specs.declared.words.Command.TheVariants.{Run}
use Rattle.ebr_server.specs.Handed.{handed}
use Rattle.ebr_server.proofs.Causes.{served_since}
use Rattle.ebr_server.proofs.command.serve_run.Goals as goal

pub returns-clause-served : goal.returns-clause-served
returns-clause-served g c =
    let h0 = c.args.host.now in
    let h1 = c.report-report.new.self in
    served_since g.H.Sink.Sink.word g.H.Sink.Sink.held g.H.Sink.Sink.faults g.H.Disk.Disk.as_medium (IsSomeAnd c.run_scripts.result.source (λ s. 0 < g.H.Source.Source.faults s)) c.args.words.now (handed g.H.Report.Sink.faults g.H.Report.Sink.held c.run_scripts.result) (g.H.Host.bytes h0)
    (g.H.Host.bytes h1) (g.H.Host.disk_bytes h0) (g.H.Host.disk_bytes h1) (Some Run) (g.H.Host.faults h0) (g.H.Host.faults h1) (g.H.Host.faults c.run_scripts.new.host) c.report-report.ensures.same c.report-report.ensures.same_disks
    c.report-report.ensures.counted c.run_scripts.ensures.served
