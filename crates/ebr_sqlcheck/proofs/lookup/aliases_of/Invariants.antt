use Rattle.std.proofs.Common.{take}
use Rattle.ebr_sqlcheck.specs.Sources.{is_called}
use Rattle.ebr_sqlcheck.specs.inside.Found.{HasNotes}
use Rattle.ebr_sqlcheck.proofs.lookup.aliases_of.Given as goal

abbrev pub invariant-loop-at : goal.invariant-loop-at
invariant-loop-at l = HasNotes is_called (take l.at l.list) l.notes.entries
