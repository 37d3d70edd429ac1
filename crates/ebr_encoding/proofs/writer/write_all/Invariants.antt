use Rattle.std.proofs.Common.{take}
use Rattle.ebr_encoding.specs.inside.Written.{AreWritten}
use Rattle.ebr_encoding.proofs.writer.write_all.Given as goal

-- the values so far were written
abbrev pub invariant-loop-item : goal.invariant-loop-item
invariant-loop-item g l = AreWritten g.T.Writable.read g.T.Writable.spelling (take l.item-index l.items) l.initial.into l.into
