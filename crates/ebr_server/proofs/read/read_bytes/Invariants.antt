use Rattle.std.proofs.Common.{◌≡◌, ◌+◌, ◌-◌, ◌≤◌, length}
use Rattle.ebr_server.specs.declared.read.TheConstants.{MAX_SCRIPT}
use Rattle.ebr_server.proofs.ReadBytes.{IsRead}
use Rattle.ebr_server.proofs.read.read_bytes.Given as goal

-- the bytes are the first of the source, and the count has not fallen
abbrev pub invariant-loop-bytes : goal.invariant-loop-bytes
invariant-loop-bytes g l = record {
  first : IsRead (g.S.Source.left l.initial.source) l.bytes (g.S.Source.left l.source);
  limit : length l.bytes ≤ MAX_SCRIPT + 1;
  counted : g.S.Source.faults l.initial.source ≤ g.S.Source.faults l.source;
  same : g.S.Source.word l.source ≡ g.S.Source.word l.initial.source;
}

abbrev pub decreases-loop-bytes : goal.decreases-loop-bytes
decreases-loop-bytes g l = MAX_SCRIPT + 1 - length l.bytes
