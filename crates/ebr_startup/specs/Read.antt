-- The records of a disk, of which nothing is written.
use Rattle.std.specs.Prelude.{ℕ, List, Result, Ok, Err}
use Rattle.ebr_record.specs.declared.record.Record.{Record}
use Rattle.ebr_startup.specs.declared.why.OpenWhy.{OpenWhy}
use Rattle.ebr_startup.specs.declared.why.OpenWhy.TheVariants.{DiskFault, Damaged, NoMemory}
use Rattle.ebr_startup.specs.Damage.{HasDatabase, IsDamagedAt}

-- They are those of a file, or its damage is told exactly. The other answers are free here.
abbrev pub Reads : List ℕ → Result (List Record) OpenWhy → Type 0
Reads bytes (Ok records) = HasDatabase bytes records
Reads bytes (Err (Damaged at)) = IsDamagedAt bytes at
Reads bytes (Err DiskFault) = Unit {0}
Reads bytes (Err NoMemory) = Unit {0}
