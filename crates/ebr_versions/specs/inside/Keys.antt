-- What a search for a key keeps of the rows that it passed.
use Rattle.std.specs.Prelude.{◌≡◌, ℕ, ◌<◌, ◌≤◌, List, length, take, option_map, Some, true, false}
use Rattle.ebr_base.specs.declared.numbers.RowNo.{RowNo}
use Rattle.ebr_base.specs.declared.row.RowId.{RowId}
use Rattle.ebr_spots.specs.declared.spot.Spot.{Spot}
use Rattle.ebr_spots.specs.Spots.{has}
use Rattle.ebr_spots.specs.Filed.{found}
use Rattle.ebr_versions.specs.inside.Index.{print_of}
use Rattle.ebr_base.specs.declared.numbers.TableId.{TableId}
use Rattle.ebr_base.specs.declared.row.Change.{Change}
use Rattle.ebr_base.specs.declared.value.Value.{Value}
use Rattle.ebr_versions.specs.Data.{is_in, is_of}
use Rattle.ebr_versions.specs.Keys.{key_at, key_of, row_in}

-- the change gives its row this key
abbrev pub Gives : List ℕ → List Value → Change → Type 0
Gives places key c = option_map (key_of places) c.values ≡ Some key

-- the change at the spot is of the row, and gives it this key
abbrev pub IsGiver : List (List Change) → Spot → List ℕ → List Value → RowId → Type 0
IsGiver commits k places key row = (c : Change) × (found commits k.list k.place ≡ Some c) × (c.row ≡ row) × Gives places key c

-- no change at the spot gives this key
abbrev pub IsNoGiver : List (List Change) → Spot → List ℕ → List Value → Type 0
IsNoGiver commits k places key = (c : Change) → found commits k.list k.place ≡ Some c → Gives places key c → ⊥

-- of the spots of the row in the lists up to the spot's, none stands behind it
abbrev pub StandsLast : List Spot → RowId → Spot → Type 0
StandsLast spots row k = (i p : ℕ) → i ≤ k.list → has spots (record { table = row.table.0; number = row.row.0; list = i; place = p }) ≡ true → (i ≤ k.list) × (i ≡ k.list → p ≤ k.place)

-- no change of the list behind that place is of the row
abbrev pub IsLastIn : List (List Change) → ℕ → ℕ → RowId → Type 0
IsLastIn commits i p row = (q : ℕ) (d : Change) → p < q → found commits i q ≡ Some d → is_of row d ≡ false

-- of the spots of the table in the lists that there are, each is of a change of the table; and the last change of a row in its
-- commit is filed under the number of the key that it gives
pub record IsKeyIndex (places : List ℕ) (t : TableId) (spots : List Spot) (commits : List (List Change)) : Type 0 where
  pub within : (k : Spot) (c : Change) → k.list < length commits → k.table ≡ t.0 → has spots k ≡ true → found commits k.list k.place ≡ Some c → is_in t c ≡ true
  pub last : (i p n : ℕ) (c : Change) → found commits i p ≡ Some c → is_in t c ≡ true → IsLastIn commits i p c.row → print_of places c.values ≡ Some n
      → has spots (record { table = t.0; number = n; list = i; place = p }) ≡ true

-- after each number of commits no two rows of the table shared a key
abbrev pub KeysDifferThen : List ℕ → TableId → List (List Change) → Type 0
KeysDifferThen places t commits =
    (n : ℕ) (a b : RowNo) (key : List Value) → 0 < length key → key_at (take n commits) places (row_in t a) ≡ Some key → key_at (take n commits) places (row_in t b) ≡ Some key → a ≡ b
