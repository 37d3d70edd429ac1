-- A transaction's own changes, and what each is filed under.
use Rattle.std.specs.Prelude.{ℕ, ◌≡◌, ◌<◌, ◌≤◌, true, List, [], ◌∷◌, length, slice_get, option_and_then}
use Rattle.ebr_base.specs.declared.numbers.TableId.{TableId}
use Rattle.ebr_spots.specs.Filed.{is_mark_of}
use Rattle.ebr_base.specs.declared.row.Change.{Change}
use Rattle.ebr_versions.specs.declared.index.Entry.{Entry}
use Rattle.ebr_versions.specs.inside.Index.{Indexed, IsIndexed, key_mark}

-- what a `Changes` holds
pub record Filed : Type 0 where
  pub changes : List Change
  pub entries : List Entry

-- each entry is of its change's row
abbrev pub AreOf : List Change → List Entry → Type 0
AreOf [] [] = Unit {0}
AreOf [] (e ∷ es) = ⊥
AreOf (c ∷ cs) [] = ⊥
AreOf (c ∷ cs) (e ∷ es) = (e.row ≡ c.row) × AreOf cs es

-- the changes are filed as one list
pub record AreFiled (changes : List Change) (index : Indexed) : Type 0 where
  pub rows : AreOf changes index.pending
  pub indexed : IsIndexed [] index

-- the entry at the place is filed under the number of a key
abbrev pub IsFiledAt : List Entry → TableId → ℕ → ℕ → Type 0
IsFiledAt entries t print p = is_mark_of (record { table = t.0; number = print; list = 0; place = p }) (option_and_then key_mark (slice_get entries p)) ≡ true

-- p is the last place before one at which an entry is filed under the number
pub record IsLastFiled (entries : List Entry) (t : TableId) (print end p : ℕ) : Type 0 where
  pub before : p < end
  pub here : IsFiledAt entries t print p
  pub last : (q : ℕ) → q < end → IsFiledAt entries t print q → q ≤ p

abbrev pub IsNoneFiledBefore : List Entry → TableId → ℕ → ℕ → Type 0
IsNoneFiledBefore entries t print end = (q : ℕ) → q < end → IsFiledAt entries t print q → ⊥
