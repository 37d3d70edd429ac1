-- A cursor, as runs see it.
use Rattle.std.specs.Prelude.{drop, Option, Some, None}
use Rattle.ebr_run.specs.Cursors.{Cursor, Closed, Open}
use Rattle.ebr_memory.specs.declared.cursor.Rows.{Rows}

abbrev pub cursor_of : Option Rows → Cursor
cursor_of None = Closed
cursor_of (Some r) = Open (drop r.fetched r.all) r.fetched r.found
