-- The answer of a keeper as that of a commit or a definition.
use Rattle.std.specs.Prelude.{Result, Ok, Err}
use Rattle.ebr_base.specs.declared.code.Code.TheVariants.{Ebr}
use Rattle.ebr_record.specs.declared.keep.JournalFault.{JournalFault}
use Rattle.ebr_record.specs.declared.keep.JournalFault.TheVariants as fault
use Rattle.ebr_database.specs.declared.failure.Failure.{Failure}
use Rattle.ebr_database.specs.declared.failure.Failure.TheVariants.{Refused, Halted}
use Rattle.ebr_database.specs.declared.failure.Halt.TheVariants as halt

abbrev pub failed : Result (Unit {0}) JournalFault → Result (Unit {0}) Failure
failed (Ok u) = Ok tt
failed (Err (fault.Full len)) = Err (Refused (Ebr 42))
failed (Err fault.DiskFault) = Err (Halted halt.DiskFault)
failed (Err fault.Stopped) = Err (Halted halt.Stopped)
failed (Err fault.NoMemory) = Err (Halted halt.NoMemory)
