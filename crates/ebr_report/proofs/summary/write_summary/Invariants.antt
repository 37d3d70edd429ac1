use Rattle.std.proofs.Common.{◌≡◌, take}
use Rattle.ebr_outside.specs.Sink.{appended}
use Rattle.ebr_report.specs.Summary.{Summary}
use Rattle.ebr_report.proofs.summary.write_summary.Given as goal

-- the lines so far are held, and no write has failed
abbrev pub invariant-loop-end : goal.invariant-loop-end
invariant-loop-end g l = record {
  held : g.R.Sink.held l.sink ≡ appended (g.R.Sink.held l.initial.sink) (Summary (take l.end-index l.ends));
  counted : g.R.Sink.faults l.sink ≡ g.R.Sink.faults l.initial.sink;
}
