-- What a crash leaves while a journal gets one record more, or the mark.
use Rattle.std.specs.Prelude.{◌≡◌, ◌⊎◌, ℕ, ◌+◌, ◌≤◌, List, [], ◌∷◌, ◌++◌, length, Option, Some, None, Result, Ok, Err}
use Rattle.ebr_outside.specs.declared.disk.DiskErr.{DiskErr}
use Rattle.ebr_outside.specs.Disk.{Medium, Passes}
use Rattle.ebr_record.specs.declared.record.Record.{Record}
use Rattle.ebr_encoding.specs.Spelled.{IsSpelled}
use Rattle.ebr_encoding.specs.declared.form.Form.{Form}
use Rattle.ebr_journal.specs.Journal.{Layout, AreSpelled, IsSafe, body, form_of, front, last_gate, long_in}
use Rattle.ebr_journal.specs.Keeper.{HasFront, IsSettled}

-- with one record more, in the form of what follows
abbrev pub added_to : List Record → Option (List Record) → Record → Layout
added_to short None r = record { short = short ++ r ∷ []; long = None }
added_to short (Some long) r = record { short = short; long = Some (long ++ r ∷ []) }

abbrev pub added : Layout → Record → Layout
added l r = added_to l.short l.long r

-- with the mark
abbrev pub marked : Layout → Layout
marked l = record { short = l.short; long = Some (long_in l.long) }

-- the image has the one layout or the other
abbrev pub IsBeforeOrAfter : Layout → Layout → List ℕ → Type 0
IsBeforeOrAfter before after image = IsSafe image before ⊎ IsSafe image after

-- the piece is what stands behind the gate of what comes next, and a closed gate, which has room
pub record IsNext (before after : Layout) (piece : List ℕ) : Type 0 where
  pub behind : List ℕ
  pub is : piece ≡ behind ++ 0 ∷ []
  pub grows : front after ≡ front before ++ 1 ∷ behind
  pub spelled : AreSpelled after
  pub room : length (front after) ≤ last_gate (form_of after.long)

-- what the disk holds then: all of it for good, or where a call failed at least what was there before
abbrev pub HoldsAfter : ℕ → ℕ → Layout → Layout → Result (Unit {0}) DiskErr → Medium → Type 0
HoldsAfter gate size before after (Ok x) new = IsSettled new (gate + size) after
HoldsAfter gate size before after (Err e) new = HasFront new.reads gate before

-- a piece was written behind a closed gate, and the gate opened
pub record Puts (old : Medium) (gate size : ℕ) (before after : Layout) (answer : Result (Unit {0}) DiskErr) (new : Medium) : Type 0 where
  pub holds : HoldsAfter gate size before after answer new
  pub time : Passes old new (IsBeforeOrAfter before after)

-- the piece of a record
pub record IsPiece (form : Form) (bytes : List ℕ) (r : Record) : Type 0 where
  pub is : bytes ≡ body form r ++ 0 ∷ []
  pub spelled : IsSpelled r
