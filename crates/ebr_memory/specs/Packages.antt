-- What is told of the states of packages.
use Rattle.std.specs.Prelude.{ℕ, Bool, if◌then◌else◌, Option, Some, None}
use Rattle.ebr_base.specs.declared.value.Value.{Value}
use Rattle.ebr_base.specs.declared.value.Value.TheVariants as value
use Rattle.ebr_run.specs.Packages as run
use Rattle.ebr_run.specs.Packages.{at, same_made}
use Rattle.ebr_memory.specs.declared.package.Made.{Made}
use Rattle.ebr_memory.specs.declared.package.PackageStatus.{PackageStatus}
use Rattle.ebr_memory.specs.declared.package.PackageStatus.TheVariants as stands

abbrev pub made_of : Made → run.Made
made_of m = record { specification = m.specification; body = m.body }

-- a state that was made from one thing, where another one is visible now
abbrev pub status_of : run.Made → Bool → run.Made → PackageStatus
status_of was stateful made = if same_made was made then stands.Current else stands.Outdated stateful

-- how a state stands to what is visible now
abbrev pub status : Option run.PackageState → run.Made → PackageStatus
status None made = stands.Absent
status (Some s) made = status_of s.made s.stateful made

-- the value of a variable
abbrev pub member : ℕ → run.PackageState → Value
member k s = at value.Null k s.members
