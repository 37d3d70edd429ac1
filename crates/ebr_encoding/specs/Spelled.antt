-- The one spelling of a record in the journal, and what is read from bytes (own format).
use Rattle.std.specs.Prelude.{◌≡◌, ℕ, ◌≤◌, List, length, Some, Result, Ok, Err}
use Rattle.ebr_record.specs.declared.record.Record.{Record}
use Rattle.ebr_record.specs.declared.record.Record.TheVariants as made
use Rattle.ebr_record.specs.Payload.{HasLists, max_payload, payload}
use Rattle.ebr_encoding.specs.declared.form.Form.{Form}
use Rattle.ebr_encoding.specs.declared.form.Form.TheVariants.{Short, Long}
use Rattle.ebr_encoding.specs.declared.fault.DecodeErr.{DecodeErr}
use Rattle.ebr_encoding.specs.declared.fault.DecodeErr.TheVariants.{Bad, NoMemory}
use Rattle.ebr_encoding.specs.Reading.{decoded}

-- The record has a payload (`HasPayload`), and is what this is read as: its numbers fit into their bytes, its names are names, and
-- its values' texts have a byte, as is so by the types of each record of a program.
pub record IsSpelled (r : Record) : Type 0 where
  pub lists : HasLists r
  pub short : length (payload r) ≤ max_payload
  pub same : decoded (payload r) ≡ Some r

-- the bytes are the payload of the record
pub record Spells (bytes : List ℕ) (r : Record) : Type 0 where
  pub is : bytes ≡ payload r
  pub spelled : IsSpelled r

-- the most bytes of a payload in a form of the journal, and the most changes of a commit
abbrev pub most_bytes : Form → ℕ
most_bytes Short = 67108864
most_bytes Long = 134217728

abbrev pub most_changes : Form → ℕ
most_changes Short = 100000
most_changes Long = 200000

abbrev pub changes_of : Record → ℕ
changes_of (made.Commit changes) = length changes
changes_of r = 0

-- the record stands in a journal in this form
pub record HasForm (form : Form) (r : Record) : Type 0 where
  pub short : length (payload r) ≤ most_bytes form
  pub few : changes_of r ≤ most_changes form

-- What is read from bytes: the record of the form that they spell, or that they spell none. Want of memory is free.
abbrev pub Reads : Form → List ℕ → Result Record DecodeErr → Type 0
Reads form bytes (Ok r) = Spells bytes r × HasForm form r
Reads form bytes (Err Bad) = (r : Record) → Spells bytes r → HasForm form r → ⊥
Reads form bytes (Err NoMemory) = Unit {0}
