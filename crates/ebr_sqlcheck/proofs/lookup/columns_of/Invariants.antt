use Rattle.std.proofs.Common.{take}
use Rattle.ebr_sqlcheck.specs.inside.Found.{HasNotes, has_column}
use Rattle.ebr_sqlcheck.proofs.lookup.columns_of.Given as goal

abbrev pub invariant-loop-at : goal.invariant-loop-at
invariant-loop-at l = HasNotes has_column (take l.at l.list) l.notes.entries
