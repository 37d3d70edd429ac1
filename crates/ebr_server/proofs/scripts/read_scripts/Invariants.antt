use Rattle.std.proofs.Common.{ℕ, ◌≡◌, ◌-◌, ◌≤◌, List}
use Rattle.ebr_server.specs.Program.{AreScripts, source_at, steps_from}
use Rattle.ebr_server.specs.inside.Opened.{with_steps}
use Rattle.ebr_server.proofs.scripts.read_scripts.Given as goal

-- the scripts of the words so far are read
abbrev pub invariant-loop-word : goal.invariant-loop-word
invariant-loop-word g l = record {
  from : l.first ≤ l.word;
  scripts : AreScripts (g.H.Host.bytes l.initial.host) l.words l.first l.word l.scripts;
  same : (w : List ℕ) → g.H.Host.bytes l.host w ≡ g.H.Host.bytes l.initial.host w;
  same_disks : (w : List ℕ) → g.H.Host.disk_bytes l.host w ≡ g.H.Host.disk_bytes l.initial.host w;
  counted : g.H.Host.faults l.initial.host ≤ g.H.Host.faults l.host;
  reports : g.H.Host.reports l.host ≡ g.H.Host.reports l.initial.host;
  called : g.H.Host.calls l.host ≡ with_steps (g.H.Host.calls l.initial.host) (steps_from (source_at l.words) l.first (l.word - l.first));
}
