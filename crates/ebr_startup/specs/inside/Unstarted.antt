-- Why no engine is opened over a journal that wasn't started.
use Rattle.std.specs.Prelude.{◌≡◌}
use Rattle.ebr_journal.specs.declared.start.StartWhy.{StartWhy}
use Rattle.ebr_journal.specs.declared.start.StartWhy.TheVariants as start
use Rattle.ebr_startup.specs.declared.why.OpenWhy.{OpenWhy}
use Rattle.ebr_startup.specs.declared.why.OpenWhy.TheVariants.{DiskFault, NoMemory}
use Rattle.ebr_startup.specs.inside.Walk.{Damages}

abbrev pub IsUnstarted : StartWhy → OpenWhy → Type 0
IsUnstarted start.DiskFault why = why ≡ DiskFault
IsUnstarted (start.Damaged at before) why = Damages before at why
IsUnstarted start.NoMemory why = why ≡ NoMemory
