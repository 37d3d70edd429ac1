-- A disk: what a read gives, and what a crash may leave.
use Rattle.std.specs.Prelude.{◌≡◌, ◌⊎◌, ◌↔◌, ℕ, ◌+◌, ◌<◌, ◌≤◌, min, max, Bool, IsTrue, List, ◌++◌, length, take, drop, slice_index, Result, Ok, Err}
use Rattle.ebr_outside.specs.declared.disk.DiskErr.{DiskErr}

-- Whether it tells what it holds, and then what a read gives; how often it has failed; the moment, a number that never falls;
-- and the images, which are the bytes that a crash at some moment since a given one may leave.
pub record Medium : Type 1 where
  pub tells : Bool
  pub reads : List ℕ
  pub faults : ℕ
  pub moment : ℕ
  pub leaves : ℕ → List ℕ → Type 0

-- a crash now may leave this image
abbrev pub LeavesNow : Medium → List ℕ → Type 0
LeavesNow m image = m.leaves m.moment image

-- a crash since a later moment leaves no image that one since an earlier moment doesn't
abbrev pub LeavesLess : Medium → Type 0
LeavesLess m = (t u : ℕ) (image : List ℕ) → t ≤ u → m.leaves u image → m.leaves t image

-- the disk tells these bytes, and a crash now leaves them and nothing else
pub record HoldsJust (m : Medium) (bytes : List ℕ) : Type 0 where
  pub tells : IsTrue m.tells
  pub reads : m.reads ≡ bytes
  pub only : (image : List ℕ) → LeavesNow m image → image ≡ bytes

-- the place lies within the file or at its end
abbrev pub IsWithin : Medium → ℕ → Type 0
IsWithin m place = IsTrue m.tells → place ≤ length m.reads

-- Of so many bytes at a place, and of those past the old end, nothing is known; the others that were there stay. The length lies
-- between the old one and the end of the range.
pub record Torn (at n : ℕ) (old new : List ℕ) : Type 0 where
  pub stays : (k : ℕ) → k < length old → (k < at) ⊎ (at + n ≤ k) → slice_index new k ≡ slice_index old k
  pub no_shorter : length old ≤ length new
  pub no_longer : length new ≤ max (length old) (at + n)

-- the length lies between the old one and this one, and the bytes that are left stay
pub record Cut (n : ℕ) (old new : List ℕ) : Type 0 where
  pub front : new ≡ take (length new) old
  pub no_shorter : min n (length old) ≤ length new

-- the bytes with a piece written over them at a place
abbrev pub written : List ℕ → ℕ → List ℕ → List ℕ
written bytes at piece = take at bytes ++ piece ++ drop (at + length piece) bytes

-- Time goes by, at each moment of which a crash leaves what P says: since an earlier moment it leaves what it left before, all of
-- it, or what P says.
pub record Passes (old new : Medium) (P : List ℕ → Type 0) : Type 0 where
  pub later : old.moment ≤ new.moment
  pub only : (t : ℕ) (image : List ℕ) → t ≤ old.moment → new.leaves t image → old.leaves t image ⊎ P image
  pub keeps : (t : ℕ) (image : List ℕ) → t ≤ old.moment → old.leaves t image → new.leaves t image

-- each image of now is one of before with this done to it
abbrev pub Follows : Medium → (List ℕ → List ℕ → Type 0) → Medium → Type 0
Follows old Does new = (image : List ℕ) → LeavesNow new image → (before : List ℕ) × LeavesNow old before × Does before image

-- whatever the call answers, the disk tells or doesn't as before, it has failed no less often, and time doesn't go back
pub record Goes (old new : Medium) : Type 0 where
  pub tells : new.tells ≡ old.tells
  pub faults : old.faults ≤ new.faults
  pub moment : old.moment ≤ new.moment

-- a call that changes nothing, in which no moment goes by
pub record Stands (old new : Medium) : Type 0 where
  pub goes : Goes old new
  pub reads : new.reads ≡ old.reads
  pub moment : new.moment ≡ old.moment
  pub same : (t : ℕ) (image : List ℕ) → new.leaves t image ↔ old.leaves t image

-- what a read gives after a write: the piece is there, or the call failed and the range may hold anything
abbrev pub ReadsAfterWrite : List ℕ → ℕ → List ℕ → Result (Unit {0}) DiskErr → List ℕ → Type 0
ReadsAfterWrite old at piece (Ok x) new = new ≡ written old at piece
ReadsAfterWrite old at piece (Err e) new = Torn at (length piece) old new

-- a write: until a sync the range may hold anything, and so may what is past the old end
pub record Writes (old : Medium) (at : ℕ) (piece : List ℕ) (answer : Result (Unit {0}) DiskErr) (new : Medium) : Type 0 where
  pub goes : Goes old new
  pub reads : IsTrue old.tells → ReadsAfterWrite old.reads at piece answer new.reads
  pub images : IsTrue old.tells → Follows old (Torn at (length piece)) new
  pub time : IsTrue old.tells → Passes old new (LeavesNow new)

-- what a read gives after a cut, which may have failed halfway
abbrev pub ReadsAfterCut : List ℕ → ℕ → Result (Unit {0}) DiskErr → List ℕ → Type 0
ReadsAfterCut old len (Ok x) new = new ≡ take len old
ReadsAfterCut old len (Err e) new = Cut len old new

-- a cut
pub record Shortens (old : Medium) (len : ℕ) (answer : Result (Unit {0}) DiskErr) (new : Medium) : Type 0 where
  pub goes : Goes old new
  pub reads : IsTrue old.tells → ReadsAfterCut old.reads len answer new.reads
  pub images : IsTrue old.tells → Follows old (Cut len) new
  pub time : IsTrue old.tells → Passes old new (LeavesNow new)

-- the images after a sync: what a read gives, or where it failed some of those before
abbrev pub ImagesAfterSync : Medium → Result (Unit {0}) DiskErr → Medium → Type 0
ImagesAfterSync old (Ok x) new = (image : List ℕ) → LeavesNow new image → image ≡ old.reads
ImagesAfterSync old (Err e) new = (image : List ℕ) → LeavesNow new image → LeavesNow old image

-- a sync
pub record Syncs (old : Medium) (answer : Result (Unit {0}) DiskErr) (new : Medium) : Type 0 where
  pub goes : Goes old new
  pub reads : IsTrue old.tells → new.reads ≡ old.reads
  pub images : IsTrue old.tells → ImagesAfterSync old answer new
  pub time : IsTrue old.tells → Passes old new (LeavesNow new)
