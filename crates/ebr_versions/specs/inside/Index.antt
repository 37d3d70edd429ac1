-- The index of the commits, with the list to come behind them.
use Rattle.std.specs.Prelude.{ℕ, ◌≡◌, ◌<◌, List, [], ◌∷◌, ◌++◌, length, map, true, false, Option, Some, None, option_map, slice_get}
use Rattle.ebr_base.specs.declared.row.RowId.{RowId}
use Rattle.ebr_base.specs.declared.row.Change.{Change}
use Rattle.ebr_base.specs.declared.value.Value.{Value}
use Rattle.ebr_spots.specs.declared.spot.Spot.{Spot}
use Rattle.ebr_spots.specs.Spots.{has}
use Rattle.ebr_spots.specs.Filed.{Mark, is_filed, is_mark_of, IsIndexOf}
use Rattle.ebr_versions.specs.declared.index.Entry.{Entry}
use Rattle.ebr_versions.specs.declared.table.Table.{Table}
use Rattle.ebr_versions.specs.Data.{is_of}
use Rattle.ebr_versions.specs.Keys.{key_of, key_places}
use Rattle.ebr_versions.specs.inside.Print.{key_number}

pub record Indexed : Type 0 where
  pub rows : List Spot
  pub keys : List Spot
  pub pending : List Entry

-- under its row
abbrev pub row_mark : Entry → Option Mark
row_mark e = Some (e.row.table.0, e.row.row.0)

-- under its key, if it gives one
abbrev pub key_mark : Entry → Option Mark
key_mark e = option_map (λ n. (e.row.table.0, n)) e.print

-- the rows and keys of all lists up to the one to come are filed
pub record IsIndexed (front : List (List Entry)) (x : Indexed) : Type 0 where
  pub rows : IsIndexOf row_mark x.rows (front ++ x.pending ∷ [])
  pub keys : IsIndexOf key_mark x.keys (front ++ x.pending ∷ [])

-- if all was filed with the list to come of that number, it still is
abbrev pub Keeps : ℕ → Indexed → Indexed → Type 0
Keeps list old new = (front : List (List Entry)) → length front ≡ list → IsIndexed front old → IsIndexed front new

-- the number of the key at these places that values give; none where there is no key or the row is removed
abbrev pub print_of : List ℕ → Option (List Value) → Option ℕ
print_of [] values = None
print_of (p ∷ ps) values = option_map (λ vs. key_number (key_of (p ∷ ps) vs)) values

abbrev pub entry_of : List Table → Change → Entry
entry_of tables c = record { row = c.row; print = print_of (key_places tables c.row.table) c.values }

-- no change behind that place is of the row
abbrev pub IsLastOf : List Change → ℕ → RowId → Type 0
IsLastOf changes p row = (q : ℕ) (d : Change) → p < q → slice_get changes q ≡ Some d → is_of row d ≡ false

-- each change of a commit is filed under its row, and the last one of a row under the key that it gives
pub record AreEntriesOf (tables : List Table) (changes : List Change) (entries : List Entry) : Type 0 where
  pub rows : map (λ (e : Entry). e.row) entries ≡ map (λ (c : Change). c.row) changes
  pub last : (p : ℕ) (c : Change) → slice_get changes p ≡ Some c → IsLastOf changes p c.row → slice_get entries p ≡ Some (entry_of tables c)

abbrev pub AreAllEntriesOf : List Table → List (List Change) → List (List Entry) → Type 0
AreAllEntriesOf tables [] [] = Unit {0}
AreAllEntriesOf tables [] (es ∷ ess) = ⊥
AreAllEntriesOf tables (cs ∷ commits) [] = ⊥
AreAllEntriesOf tables (cs ∷ commits) (es ∷ ess) = AreEntriesOf tables cs es × AreAllEntriesOf tables commits ess

-- the changes of all commits are filed, and those of the list to come
pub record AreFiled (tables : List Table) (commits : List (List Change)) (x : Indexed) : Type 0 where
  pub entries : List (List Entry)
  pub are : AreAllEntriesOf tables commits entries
  pub indexed : IsIndexed entries x

-- entries of the row may have lost their keys, and the others are as they were
pub record AreOvertaken (row : RowId) (old new : List Entry) : Type 0 where
  pub rows : map (λ (e : Entry). e.row) new ≡ map (λ (e : Entry). e.row) old
  pub others : (p : ℕ) (e : Entry) → slice_get old p ≡ Some e → (e.row ≡ row → ⊥) → slice_get new p ≡ Some e

-- a change, by its row
abbrev pub change_mark : Change → Option Mark
change_mark c = Some (c.row.table.0, c.row.row.0)

-- the spots in the lists that there are, are those of the commits' changes by their rows
abbrev pub IsRowIndex : List Spot → List (List Change) → Type 0
IsRowIndex spots commits = (q : Spot) → q.list < length commits → has spots q ≡ is_filed change_mark commits q

-- one more element of the list to come was filed, at that place
abbrev pub Files : (Entry → Option Mark) → ℕ → ℕ → Entry → List Spot → List Spot → Type 0
Files mark list place e old new =
    (front : List (List Entry)) (pending : List Entry) → length front ≡ list → length pending ≡ place → IsIndexOf mark old (front ++ pending ∷ []) → IsIndexOf mark new (front ++ (pending ++ e ∷ []) ∷ [])

-- the last element of the list to come was taken out
abbrev pub Withdraws : (Entry → Option Mark) → ℕ → ℕ → Entry → List Spot → List Spot → Type 0
Withdraws mark list place e old new =
    (front : List (List Entry)) (pending : List Entry) → length front ≡ list → length pending ≡ place → IsIndexOf mark old (front ++ (pending ++ e ∷ []) ∷ []) → IsIndexOf mark new (front ++ pending ∷ [])

-- what was filed still is
abbrev pub Stays : (Entry → Option Mark) → ℕ → ℕ → List Spot → List Spot → Type 0
Stays mark list place old new =
    (front : List (List Entry)) (pending : List Entry) → length front ≡ list → length pending ≡ place → IsIndexOf mark old (front ++ pending ∷ []) → IsIndexOf mark new (front ++ pending ∷ [])

-- some list before n has a spot of that table and number
abbrev pub IsSpotUnder : List Spot → ℕ → ℕ → ℕ → Type 0
IsSpotUnder spots table number n = (k : Spot) × (has spots k ≡ true) × (k.table ≡ table) × (k.number ≡ number) × (k.list < n)

abbrev pub IsNoSpotUnder : List Spot → ℕ → ℕ → ℕ → Type 0
IsNoSpotUnder spots table number n = (k : Spot) → k.table ≡ table → k.number ≡ number → k.list < n → has spots k ≡ false

-- the keys are those of the list to come as it is now, if they were those of what it was
abbrev pub FollowsKeys : ℕ → List Entry → List Entry → List Spot → List Spot → Type 0
FollowsKeys list was is old new = (front : List (List Entry)) → length front ≡ list → IsIndexOf key_mark old (front ++ was ∷ []) → IsIndexOf key_mark new (front ++ is ∷ [])

-- a change at that place isn't filed under its key any more
pub record LosesKey (list place : ℕ) (e : Entry) (old new : List Spot) : Type 0 where
  pub here : (q : Spot) → q.list ≡ list → q.place ≡ place → is_mark_of q (key_mark e) ≡ true → has new q ≡ false
  pub fewer : (q : Spot) → has new q ≡ true → has old q ≡ true
  pub others : (q : Spot) → (q.list ≡ list → q.place ≡ place → ⊥) → has new q ≡ has old q
