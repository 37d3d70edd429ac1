-- What is found in a file: its records, or where it is damaged.
use Rattle.std.specs.Prelude.{◌≡◌, ◌≢◌, ◌⊎◌, ℕ, ◌+◌, ◌*◌, ◌^◌, ◌<◌, ◌≤◌, IsTrue, All, List, [], ◌∷◌, ◌++◌, length, take, drop, slice_index}
use Rattle.ebr_outside.specs.Disk.{Medium}
use Rattle.ebr_record.specs.declared.record.Record.{Record}
use Rattle.ebr_record.specs.Keeper.{max_journal, share, used_by}
use Rattle.ebr_record.specs.Payload.{HasPayload}
use Rattle.ebr_encoding.specs.Spelled.{HasForm, Spells}
use Rattle.ebr_encoding.specs.declared.form.Form.{Form}
use Rattle.ebr_encoding.specs.declared.form.Form.TheVariants.{Short, Long}
use Rattle.ebr_journal.specs.declared.found.Found.{Found}
use Rattle.ebr_journal.specs.declared.read.Contents.{Contents}
use Rattle.ebr_journal.specs.declared.read.Contents.TheVariants.{Blank, Journal, Damaged}
use Rattle.ebr_journal.specs.declared.read.Gate.{Gate}
use Rattle.ebr_journal.specs.declared.read.Gate.TheVariants.{Closed, Open, Mark, Broken}
use Rattle.ebr_journal.specs.declared.read.Walked.{Walked}
use Rattle.ebr_journal.specs.Journal.{entry, share_in, mark, MayStand, Layout, none_yet, form_of, front, last_gate, records_in, found_in, AreSpelled, IsBlank, IsSafe}
use Rattle.ebr_journal.specs.Keeper.{beside}

-- the bytes of a gate and of the length behind it
abbrev pub head : Form → ℕ
head Short = 5
head Long = 9

-- what a record has less of in this form than in the long one
abbrev pub spared : Form → ℕ
spared Short = 4
spared Long = 0

-- what a length stays below
abbrev pub size_limit : Form → ℕ
size_limit Short = 2 ^ 32
size_limit Long = 2 ^ 64

-- these bytes stand at this place, and a further one behind them
pub record StandsWhole (bytes : List ℕ) (place : ℕ) (piece : List ℕ) : Type 0 where
  pub is : take (length piece) (drop place bytes) ≡ piece
  pub within : place + length piece < length bytes

-- a record of this form stands behind an open gate at this place, and a further gate behind it
pub record IsRecordAt (bytes : List ℕ) (place : ℕ) (form : Form) (r : Record) : Type 0 where
  pub stands : StandsWhole bytes place (entry form r)
  pub may : MayStand form r

-- this layout leads to the gate at this place
pub record LeadsTo (bytes : List ℕ) (l : Layout) (at : ℕ) : Type 0 where
  pub place : at ≡ length (front l)
  pub front : take at bytes ≡ front l
  pub spelled : AreSpelled l
  pub within : at < length bytes

-- An open gate that nothing stands behind, or no further gate: no record of the form that has to follow, and where no mark came
-- before, no mark.
pub record IsBrokenAt (bytes : List ℕ) (place : ℕ) (form : Form) : Type 0 where
  pub opened : slice_index bytes place ≡ 1
  pub no_record : (r : Record) → IsRecordAt bytes place form r → ⊥
  pub no_mark : form ≡ Short → StandsWhole bytes place mark → ⊥

-- the first byte isn't 1, in a file that isn't blank
pub record IsNoJournal (bytes : List ℕ) (at : ℕ) (before : Found) : Type 0 where
  pub filled : IsBlank bytes → ⊥
  pub first : slice_index bytes 0 ≢ 1
  pub here : at ≡ 0
  pub none : before ≡ found_in none_yet

-- the first open gate that nothing stands behind
pub record IsBadRecord (bytes : List ℕ) (at : ℕ) (before : Found) : Type 0 where
  pub layout : Layout
  pub leads : LeadsTo bytes layout at
  pub broken : IsBrokenAt bytes at (form_of layout.long)
  pub early : at < max_journal
  pub found : before ≡ found_in layout

-- the gate that ends the records is closed, and no room is left for the mark
pub record HasNoRoom (bytes : List ℕ) (at : ℕ) (before : Found) : Type 0 where
  pub layout : Layout
  pub leads : LeadsTo bytes layout at
  pub closed : slice_index bytes at ≢ 1
  pub unmarked : form_of layout.long ≡ Short
  pub late : last_gate Short < at
  pub early : at < max_journal
  pub found : before ≡ found_in layout

-- every gate in front of this place stands before the limit
abbrev pub AreEarly : List ℕ → ℕ → Type 0
AreEarly bytes place = (l : Layout) (gate : ℕ) → LeadsTo bytes l gate → gate < place → gate < max_journal

-- this is the first gate that doesn't
pub record IsFirstLate (bytes : List ℕ) (place : ℕ) : Type 0 where
  pub late : max_journal ≤ place
  pub first : AreEarly bytes place

-- The file is too long, and up to there nothing is damaged. The layout leads to the closed gate, or to the first one that doesn't stand
-- before the limit.
pub record IsTooLong (bytes : List ℕ) (at : ℕ) (before : Found) : Type 0 where
  pub long : max_journal < length bytes
  pub here : at ≡ max_journal
  pub layout : Layout
  pub place : ℕ
  pub leads : LeadsTo bytes layout place
  pub ends : IsFirstLate bytes place ⊎ ((slice_index bytes place ≢ 1) × (place ≤ last_gate (form_of layout.long)))
  pub found : before ≡ found_in layout

-- The smallest place where a file that isn't blank is damaged, and the records whose gates stand before it.
abbrev pub IsDamaged : List ℕ → ℕ → Found → Type 0
IsDamaged bytes at before = IsNoJournal bytes at before ⊎ (IsBadRecord bytes at before ⊎ (HasNoRoom bytes at before ⊎ IsTooLong bytes at before))

-- the records of a file that isn't damaged
pub record IsWhole (bytes : List ℕ) (found : Found) : Type 0 where
  pub layout : Layout
  pub safe : IsSafe bytes layout
  pub is : found ≡ found_in layout

abbrev pub Holds : List ℕ → Found → Type 0
Holds bytes found = (IsBlank bytes × (found ≡ found_in none_yet)) ⊎ IsWhole bytes found

-- the payload of the mark
abbrev pub mark_payload : List ℕ
mark_payload = 10 ∷ 2 ∷ []

-- what a payload of this form is, behind which the next gate lies here
abbrev pub IsRead : Form → List ℕ → ℕ → Gate → Type 0
IsRead form payload place Closed = ⊥
IsRead form payload place (Open r next) = Spells payload r × HasForm form r × (next ≡ place)
IsRead form payload place Mark = (form ≡ Short) × (payload ≡ mark_payload)
IsRead form payload place Broken = ((r : Record) → Spells payload r → HasForm form r → ⊥) × (form ≡ Short → payload ≢ mark_payload)

-- what stands at a gate, of which this form follows
abbrev pub StandsAt : List ℕ → ℕ → Form → Gate → Type 0
StandsAt bytes place form Closed = slice_index bytes place ≢ 1
StandsAt bytes place form (Open r next) = IsRecordAt bytes place form r
StandsAt bytes place form Mark = StandsWhole bytes place mark
StandsAt bytes place form Broken = IsBrokenAt bytes place form

-- what was read lies in front of a further gate
abbrev pub LiesWithin : ℕ → ℕ → Form → Gate → Type 0
LiesWithin place len form Closed = Unit {0}
LiesWithin place len form (Open r next) = MayStand form r × (next ≡ place + share_in form r) × (next < len)
LiesWithin place len form Mark = (form ≡ Short) × (place + 7 < len)
LiesWithin place len form Broken = Unit {0}

-- at the first gate
abbrev pub begun : Walked
begun = record { found = found_in none_yet; gate = 1; used = 9; form = Short }

abbrev pub short_one : Form → ℕ
short_one Short = 1
short_one Long = 0

-- behind one record more
abbrev pub with_one : Walked → Record → Walked
with_one w r = record {
  found = record { records = w.found.records ++ r ∷ []; short = w.found.short + short_one w.form };
  gate = w.gate + share_in w.form r;
  used = w.used + share r;
  form = w.form;
}

-- behind the mark
abbrev pub with_mark : Walked → Walked
with_mark w = record w { gate = w.gate + 7; form = Long }

-- what a walk has come to is this layout
pub record IsLaidOut (w : Walked) (l : Layout) : Type 0 where
  pub found : w.found ≡ found_in l
  pub counts : w.used ≡ used_by (records_in l)
  pub follows : w.form ≡ form_of l.long

-- how a walk counts
pub record Counts (w : Walked) : Type 0 where
  pub some : 1 ≤ w.gate
  pub early : w.gate ≤ 671088649
  pub room : w.gate + beside w.form ≤ w.used
  pub small : w.used ≤ w.gate + 8 + 4 * w.found.short
  pub few : 6 * w.found.short < w.gate
  pub counted : w.used ≡ used_by w.found.records
  pub payloads : All HasPayload w.found.records

-- the gate that it has come to
pub record HasCome (bytes : List ℕ) (w : Walked) : Type 0 where
  pub layout : Layout
  pub leads : LeadsTo bytes layout w.gate
  pub early : AreEarly bytes w.gate
  pub laid : IsLaidOut w layout

-- a journal with its closed gate here
pub record IsFound (bytes : List ℕ) (w : Walked) : Type 0 where
  pub layout : Layout
  pub safe : IsSafe bytes layout
  pub place : w.gate ≡ length (front layout)
  pub laid : IsLaidOut w layout

-- What is so of the records of a file, whether its disk tells what it holds or not: each has a payload, and their bytes are
-- counted in few.
pub record AreFit (found : Found) : Type 0 where
  pub payloads : All HasPayload found.records
  pub small : used_by found.records < 2147483648

-- what is told of a file by what it is
abbrev pub Are : List ℕ → Contents → Type 0
Are bytes Blank = IsBlank bytes
Are bytes (Journal w) = IsFound bytes w
Are bytes (Damaged at before) = IsDamaged bytes at before

-- what is so of a journal that isn't told, too
abbrev pub HasPlace : Contents → Type 0
HasPlace Blank = Unit {0}
HasPlace (Journal w) = Counts w × (w.gate ≤ last_gate w.form)
HasPlace (Damaged at before) = AreFit before

pub record ContentsAre (m : Medium) (c : Contents) : Type 0 where
  pub place : HasPlace c
  pub told : IsTrue m.tells → Are m.reads c

-- the same of a file whose first byte is 1
pub record WalkGives (m : Medium) (c : Contents) : Type 0 where
  pub place : HasPlace c
  pub told : IsTrue m.tells → slice_index m.reads 0 ≡ 1 → Are m.reads c

-- a walk has come to a gate
pub record WalksTo (m : Medium) (len : ℕ) (w : Walked) : Type 0 where
  pub counts : Counts w
  pub within : w.gate < len
  pub told : IsTrue m.tells → slice_index m.reads 0 ≡ 1 → HasCome m.reads w
