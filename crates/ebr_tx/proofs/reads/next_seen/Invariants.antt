use Rattle.std.proofs.Common.{◌≡◌, ◌-◌}
use Rattle.ebr_tx.specs.Reads.{next_by}
use Rattle.ebr_tx.proofs.reads.next_seen.Given as goal

-- the next row after this one is that after the first
abbrev pub invariant-loop-next : goal.invariant-loop-next
invariant-loop-next l = next_by l.versions.commits l.x.transaction l.table l.last ≡ next_by l.versions.commits l.x.transaction l.table l.fn.after

abbrev pub decreases-loop-next : goal.decreases-loop-next
decreases-loop-next l = 18446744073709551616 - l.last.0
