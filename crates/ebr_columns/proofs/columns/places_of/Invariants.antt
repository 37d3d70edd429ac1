use Rattle.std.proofs.Common.{◌≡◌, ◌++◌, drop, map}
use Rattle.ebr_columns.specs.Columns.{place_of}
use Rattle.ebr_columns.proofs.columns.places_of.Given as goal

abbrev pub invariant-loop-name : goal.invariant-loop-name
invariant-loop-name l = l.places ++ map (place_of l.columns) (drop l.name-index l.key) ≡ map (place_of l.columns) l.key
