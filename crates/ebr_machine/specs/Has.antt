-- What a machine has done and will do, and what a caller sees of it.
use Rattle.std.specs.Prelude.{◌≡◌, ℕ, if◌then◌else◌, List, [], ◌∷◌, ◌++◌, Option, None, option_map}
use Rattle.ebr_base.specs.declared.value.Value.{Value}
use Rattle.ebr_asks.specs.declared.ask.Ask.{Ask}
use Rattle.ebr_asks.specs.declared.answer.Answer.{Answer}
use Rattle.ebr_run.specs.Packages.{PackageState}
use Rattle.ebr_run.specs.Run as run
use Rattle.ebr_run.specs.Run.{Seen, RunStatus, new_of, seen}
use Rattle.ebr_code.specs.Books.{Book}
use Rattle.ebr_running.specs.declared.running.Flow.TheVariants as flow
use Rattle.ebr_running.specs.declared.running.Running.{Running}
use Rattle.ebr_machine.specs.declared.next.End.{End}
use Rattle.ebr_machine.specs.declared.next.End.TheVariants as end
use Rattle.ebr_machine.specs.declared.next.Next.{Next}
use Rattle.ebr_machine.specs.declared.next.Next.TheVariants as next
use Rattle.ebr_machine.specs.declared.machine.Frame.{Frame}
use Rattle.ebr_machine.specs.declared.machine.Machine.{Machine}
use Rattle.ebr_running.specs.Rest.{row_of, stands}
use Rattle.ebr_running.specs.Lines.{Extends}

-- what a run begins with
abbrev pub frame_of : Frame → run.Frame
frame_of f = record { row = option_map row_of f.body; room = f.room }

-- The run inside, with the packages that the caller keeps. Where it hasn't begun, it has these steps, and as many makings as
-- there are visible objects.
abbrev pub within : Book → Machine → List PackageState → ℕ → Running
within book m packages left = record m.inner {
  packages = packages;
  left = if m.begun then m.inner.left else left;
  makings_left = if m.begun then m.inner.makings_left else book.objects;
}

-- The machine has made these asks and taken these answers: what it will do is what the run does after them.
pub record Has (book : Book) (m : Machine) (packages : List PackageState) (left : ℕ) (run : List Answer → Seen) (asks : List Ask) (answers : List Answer) : Type 0 where
  pub by : (given : List Answer) → seen (stands book (within book m packages left) m.arrived asks given) ≡ run (answers ++ given)

abbrev pub asks_of : Next → List Ask
asks_of (next.Ask q) = q ∷ []
asks_of (next.Done e) = []

abbrev pub IsAsk : Next → Type 0
IsAsk (next.Ask q) = Unit {0}
IsAsk (next.Done e) = ⊥

abbrev pub IsDone : Next → Type 0
IsDone (next.Ask q) = ⊥
IsDone (next.Done e) = Unit {0}

abbrev pub standing_of_end : End → RunStatus
standing_of_end end.Returned = run.Returned
standing_of_end (end.Raised c) = run.Raised c

abbrev pub standing_of : Next → RunStatus
standing_of (next.Ask q) = run.Waiting
standing_of (next.Done e) = standing_of_end e

-- the values of `:NEW`
abbrev pub new_row_of : Machine → Option (List Value)
new_row_of m = option_map new_of (option_map row_of m.inner.row)

-- what is seen of a machine
abbrev pub shown : Machine → List PackageState → List Ask → Next → Seen
shown m packages asks n = record {
  asks = asks;
  lines = m.inner.lines;
  steps = m.inner.steps;
  packages = packages;
  new = new_row_of m;
  room = m.inner.room;
  standing = standing_of n;
}

-- What is seen of the run is what is seen of the machine.
pub record Shows (s : Seen) (m : Machine) (packages : List PackageState) (asks : List Ask) (n : Next) : Type 0 where
  pub is : s ≡ shown m packages asks n

-- an ask is out, and no answer has arrived
pub record IsOut (m : Machine) : Type 0 where
  pub waits : m.inner.flow ≡ flow.Waiting
  pub none : m.arrived ≡ None

-- The ask that it says is the one that is out.
abbrev pub SaysAsk : Next → Ask → Type 0
SaysAsk (next.Ask q) out = q ≡ out
SaysAsk (next.Done e) out = Unit {0}

-- The new lines begin with the old ones.
pub record Prints (old new : Machine) : Type 0 where
  pub more : Extends old.inner.lines new.inner.lines
