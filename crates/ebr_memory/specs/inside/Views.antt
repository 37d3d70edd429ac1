-- The states of packages, as runs see them.
use Rattle.std.specs.Prelude.{ℕ, Bool, List, []}
use Rattle.ebr_base.specs.declared.value.Value.{Value}
use Rattle.ebr_base.specs.declared.value.Value.TheVariants as value
use Rattle.ebr_run.specs.Cursors.{Cursor, Closed}
use Rattle.ebr_run.specs.Packages as run
use Rattle.ebr_run.specs.Packages.{put, at}
use Rattle.ebr_memory.specs.Levels.{with_top}
use Rattle.ebr_memory.specs.Packages.{made_of}
use Rattle.ebr_memory.specs.declared.package.Made.{Made}
use Rattle.ebr_memory.specs.declared.package.PackageState.{PackageState}

-- a state under its name
abbrev pub package_of : (List ℕ × PackageState) → run.PackageState
package_of e = record { name = e.0; made = made_of e.1.made; stateful = e.1.stateful; members = e.1.members.top; cursors = e.1.cursors.top }

abbrev pub first_state : Made → Bool → PackageState
first_state made stateful = record { made = made; stateful = stateful; members = record { top = []; beneath = [] }; cursors = record { top = []; beneath = [] } }

abbrev pub with_member : ℕ → Value → PackageState → PackageState
with_member k v s = record s { members = with_top (put value.Null k v s.members.top) s.members }

abbrev pub with_cursor : ℕ → Cursor → PackageState → PackageState
with_cursor k c s = record s { cursors = with_top (put Closed k c s.cursors.top) s.cursors }

abbrev pub cursor_at : ℕ → PackageState → Cursor
cursor_at k s = at Closed k s.cursors.top
