use Rattle.std.proofs.Common.{ℕ, ◌≡◌, ◌-◌, ◌≤◌, List, length}
use Rattle.std.specs.Prelude.{vec_capacity}
use Rattle.ebr_server.specs.Program.{out_words, sink_at, steps_from}
use Rattle.ebr_server.specs.inside.Opened.{AreBack, with_steps}
use Rattle.ebr_server.proofs.scripts.make_sinks.Given as goal

-- the sinks of the words so far are made
abbrev pub invariant-loop-word : goal.invariant-loop-word
invariant-loop-word g l = record {
  from : l.first ≤ l.word;
  sinks : AreBack g.H.Sink.Sink.word g.H.Sink.Sink.held g.H.Sink.Sink.faults (out_words l.words l.first (l.word - l.first)) l.sinks.items;
  room : length l.words - l.first ≤ vec_capacity l.sinks;
  count : length l.sinks.items ≡ l.word - l.first;
  same : (w : List ℕ) → g.H.Host.bytes l.host w ≡ g.H.Host.bytes l.initial.host w;
  same_disks : (w : List ℕ) → g.H.Host.disk_bytes l.host w ≡ g.H.Host.disk_bytes l.initial.host w;
  counted : g.H.Host.faults l.initial.host ≤ g.H.Host.faults l.host;
  reports : g.H.Host.reports l.host ≡ g.H.Host.reports l.initial.host;
  called : g.H.Host.calls l.host ≡ with_steps (g.H.Host.calls l.initial.host) (steps_from (sink_at l.words) l.first (l.word - l.first));
}
