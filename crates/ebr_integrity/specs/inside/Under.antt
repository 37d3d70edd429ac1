-- The tables under change, by these statements.
use Rattle.std.specs.Prelude.{◌&&◌, List}
use Rattle.std.specs.List.{list_any}
use Rattle.ebr_locks.specs.Locks.{same_tx}
use Rattle.ebr_exec.specs.Places.{Under, is_table}
use Rattle.ebr_levels.specs.Keeps.{UnderChange}

abbrev pub under_by : List Under → UnderChange
under_by changing t table = list_any (λ (u : Under). same_tx u.tx t && is_table u.table table) changing
