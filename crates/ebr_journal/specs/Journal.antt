-- The bytes of a journal (own format).
use Rattle.std.specs.Prelude.{◌≡◌, ◌≢◌, ◌⊎◌, ℕ, zero, suc, ◌+◌, ◌≤◌, ◌==◌, if◌then◌else◌, List, [], ◌∷◌, ◌++◌, length, take, drop, slice_index, Option, Some, None}
use Rattle.std.specs.List.{flat_map}
use Rattle.std.specs.Int.{w32, w64, to_be_bytes, from_be_bytes}
use Rattle.ebr_record.specs.declared.record.Record.{Record}
use Rattle.ebr_record.specs.Keeper.{max_journal}
use Rattle.ebr_record.specs.Payload.{payload}
use Rattle.ebr_encoding.specs.declared.form.Form.{Form}
use Rattle.ebr_encoding.specs.declared.form.Form.TheVariants.{Short, Long}
use Rattle.ebr_encoding.specs.Reading.{decoded}
use Rattle.ebr_encoding.specs.Spelled.{HasForm, IsSpelled}
use Rattle.ebr_journal.specs.declared.found.Found.{Found}

-- the length of a payload, in four bytes or in eight
abbrev pub size_bytes : Form → ℕ → List ℕ
size_bytes Short n = to_be_bytes w32 n
size_bytes Long n = to_be_bytes w64 n

-- what stands behind a record's gate: the payload's length, and the payload
abbrev pub body : Form → Record → List ℕ
body form r = size_bytes form (length (payload r)) ++ payload r

-- a record, behind an open gate
abbrev pub entry : Form → Record → List ℕ
entry form r = 1 ∷ body form r

-- how many bytes this is
abbrev pub share_in : Form → Record → ℕ
share_in Short r = 5 + length (payload r)
share_in Long r = 9 + length (payload r)

-- what stands behind the mark's gate, and the mark, which is no record: what follows it is in the long form
abbrev pub mark_body : List ℕ
mark_body = 0 ∷ 0 ∷ 0 ∷ 2 ∷ 10 ∷ 2 ∷ []

abbrev pub mark : List ℕ
mark = 1 ∷ mark_body

-- the record has a payload, which is read back as it, and may stand in this form
pub record MayStand (form : Form) (r : Record) : Type 0 where
  pub spelled : IsSpelled r
  pub fits : HasForm form r

abbrev pub MayAllStand : Form → List Record → Type 0
MayAllStand form [] = Unit {0}
MayAllStand form (r ∷ records) = MayStand form r × MayAllStand form records

-- What stands in front of a journal's last gate: records in the short form, and then nothing, or the mark and records in the
-- long one.
pub record Layout : Type 0 where
  pub short : List Record
  pub long : Option (List Record)

abbrev pub none_yet : Layout
none_yet = record { short = []; long = None }

abbrev pub long_in : Option (List Record) → List Record
long_in None = []
long_in (Some long) = long

-- the form of what follows
abbrev pub form_of : Option (List Record) → Form
form_of None = Short
form_of (Some long) = Long

abbrev pub behind_short : Option (List Record) → List ℕ
behind_short None = []
behind_short (Some long) = mark ++ flat_map (entry Long) long

-- the bytes of a journal in front of its last gate
abbrev pub front : Layout → List ℕ
front l = 1 ∷ (flat_map (entry Short) l.short ++ behind_short l.long)

-- the records, of which the mark is none
abbrev pub records_in : Layout → List Record
records_in l = l.short ++ long_in l.long

-- what a start or a scan gives of them
abbrev pub found_in : Layout → Found
found_in l = record { records = records_in l; short = length l.short }

pub record AreSpelled (l : Layout) : Type 0 where
  pub short : MayAllStand Short l.short
  pub long : MayAllStand Long (long_in l.long)

-- a file that is still to be made a journal: of at most one byte, or of two of which the first isn't 1
abbrev pub IsBlank : List ℕ → Type 0
IsBlank bytes = (length bytes ≤ 1) ⊎ ((length bytes ≡ 2) × (slice_index bytes 0 ≢ 1))

-- 1, the records, a byte other than 1, and then anything
pub record Ends (bytes : List ℕ) (l : Layout) : Type 0 where
  pub gate : ℕ
  pub rest : List ℕ
  pub closed : gate ≢ 1
  pub is : bytes ≡ front l ++ gate ∷ rest
  pub spelled : AreSpelled l

-- the last place where a journal's gate may lie: there is room for the mark
abbrev pub last_gate : Form → ℕ
last_gate Short = 536870904
last_gate Long = 536870911

-- what a file has from its first byte to its closed gate: that gate leaves room for the mark, and the file isn't too long
pub record IsSafe (bytes : List ℕ) (l : Layout) : Type 0 where
  pub ends : Ends bytes l
  pub room : length (front l) ≤ last_gate (form_of l.long)
  pub short : length bytes ≤ max_journal

-- a journal of these records
pub record IsJournal (bytes : List ℕ) (records : List Record) : Type 0 where
  pub layout : Layout
  pub safe : IsSafe bytes layout
  pub are : records ≡ records_in layout

-- the file is blank and has no records, or it is a journal of these; a damaged one has none
abbrev pub HasRecords : List ℕ → List Record → Type 0
HasRecords bytes records = (IsBlank bytes × (records ≡ [])) ⊎ IsJournal bytes records

-- The records of a file by a walk from gate to gate, to the first that is closed or has no record behind it.
abbrev pub and_more : Option Record → (Record → List Record) → List Record
and_more None more = []
and_more (Some r) more = r ∷ more r

-- the payload behind a gate, by the length in front of it
abbrev pub payload_at : Form → List ℕ → List ℕ
payload_at Short bytes = take (from_be_bytes w32 (take 4 (drop 1 bytes))) (drop 5 bytes)
payload_at Long bytes = take (from_be_bytes w64 (take 8 (drop 1 bytes))) (drop 9 bytes)

-- behind the mark
unfoldable pub walked : ℕ → List ℕ → List Record
walked zero bytes = []
walked (suc n) bytes = if slice_index bytes 0 == 1 then and_more (decoded (payload_at Long bytes)) (λ r. walked n (drop (share_in Long r) bytes)) else []

abbrev pub with_first : Record → Layout → Layout
with_first r l = record { short = r ∷ l.short; long = l.long }

abbrev pub and_short : Option Record → (Record → Layout) → Layout
and_short None more = none_yet
and_short (Some r) more = with_first r (more r)

-- from the first record on: the mark is told by the first byte of what would be its payload, which no record has
unfoldable pub laid_out : ℕ → List ℕ → Layout
laid_out zero bytes = none_yet
laid_out (suc n) bytes =
    if slice_index bytes 0 == 1 then (
    if slice_index bytes 5 == 10 then record { short = []; long = Some (walked n (drop 7 bytes)) } else and_short (decoded (payload_at Short bytes)) (λ r. laid_out n (drop (share_in Short r) bytes))
    ) else none_yet

-- the one layout of a journal
unfoldable pub recovered : List ℕ → Layout
recovered bytes = if slice_index bytes 0 == 1 then laid_out (length bytes) (drop 1 bytes) else none_yet
