-- A file that is read in pieces.
use Rattle.std.specs.Prelude.{◌≡◌, ℕ, ◌+◌, ◌≤◌, IsTrue, List, length, take, drop}
use Rattle.ebr_outside.specs.Disk.{Medium}
use Rattle.ebr_journal.specs.declared.piece.Piece.{Piece}

-- the piece is a part of these bytes
abbrev pub IsPartOf : List ℕ → Piece → Type 0
IsPartOf bytes piece = piece.bytes.items ≡ take (length piece.bytes.items) (drop piece.from bytes)

-- it is one of what a read gives
abbrev pub Shows : Medium → Piece → Type 0
Shows m piece = IsTrue m.tells → IsPartOf m.reads piece

-- a range lies within it
pub record Covers (piece : Piece) (at size : ℕ) : Type 0 where
  pub from : piece.from ≤ at
  pub to : at + size ≤ piece.from + length piece.bytes.items
