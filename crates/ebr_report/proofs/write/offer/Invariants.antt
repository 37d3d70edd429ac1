use Rattle.std.proofs.Common.{◌≡◌, ◌-◌, ◌≤◌, length, take, drop}
use Rattle.ebr_outside.specs.Sink.{appended}
use Rattle.ebr_report.proofs.write.offer.Given as goal

-- what was taken so far is held, and no write has failed
abbrev pub invariant-loop-at : goal.invariant-loop-at
invariant-loop-at g l = record {
  onward : l.from ≤ l.at;
  within : l.at ≤ length l.bytes;
  held : g.S.Sink.held l.sink ≡ appended (g.S.Sink.held l.initial.sink) (take (l.at - l.from) (drop l.from l.bytes));
  counted : g.S.Sink.faults l.sink ≡ g.S.Sink.faults l.initial.sink;
  same : g.S.Sink.word l.sink ≡ g.S.Sink.word l.initial.sink;
}

abbrev pub decreases-loop-at : goal.decreases-loop-at
decreases-loop-at g l = length l.bytes - l.at
