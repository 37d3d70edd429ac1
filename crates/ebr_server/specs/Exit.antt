-- The exit status of each code.
use Rattle.std.specs.Prelude.{ℕ}
use Rattle.ebr_server.specs.declared.exit.ExitCode.{ExitCode}
use Rattle.ebr_server.specs.declared.exit.ExitCode.TheVariants.{Done, Usage, HostFault, DiskFault, SinkFault, Damaged, NoMemory, BadOrder, TooLong}

abbrev pub status_of : ExitCode → ℕ
status_of Done = 0
status_of Usage = 2
status_of (HostFault word) = 3
status_of DiskFault = 4
status_of SinkFault = 5
status_of (Damaged at) = 6
status_of NoMemory = 8
status_of (BadOrder at) = 9
status_of (TooLong word) = 10
