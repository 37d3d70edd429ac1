-- The place of what a name means, where it is a cursor.
use Rattle.std.specs.Prelude.{Option, Some, None}
use Rattle.ebr_run.specs.declared.place.Location.{Location}
use Rattle.ebr_run.specs.Scope.{Denoted, Cursor}

abbrev pub place_of : Option Denoted → Option Location
place_of (Some (Cursor l q fs)) = Some l
place_of d = None
