use Rattle.std.proofs.Common.{take}
use Rattle.ebr_versions.specs.inside.Index.{AreEntriesOf, Keeps}
use Rattle.ebr_versions.proofs.versions.file.Given as goal

-- the changes so far are filed
abbrev pub invariant-loop-change : goal.invariant-loop-change
invariant-loop-change l = record { entries : AreEntriesOf l.tables (take l.change-index l.changes) l.index.pending; keeps : Keeps l.list l.fn.index l.index }
