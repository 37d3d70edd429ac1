use Rattle.std.proofs.Common.{◌≡◌, take}
use Rattle.std.specs.Prelude.{sum_by}
use Rattle.ebr_journal.specs.Journal.{share_in}
use Rattle.ebr_startup.proofs.gate.share.Given as goal

-- the bytes so far
abbrev pub invariant-loop-r : goal.invariant-loop-r
invariant-loop-r l = l.bytes ≡ sum_by (share_in l.form) (take l.r-index l.records)
