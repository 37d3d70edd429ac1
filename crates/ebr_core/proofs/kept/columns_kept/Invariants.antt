use Rattle.std.specs.Prelude.{◌≡◌, take, All}
use Rattle.ebr_core.specs.inside.Stored.{HasShortName}
use Rattle.ebr_core.proofs.kept.columns_kept.Given as goal

-- the copies of the columns so far, whose names are short
abbrev pub invariant-loop-column : goal.invariant-loop-column
invariant-loop-column l = (l.copies ≡ take l.column-index l.columns) × All HasShortName (take l.column-index l.columns)
