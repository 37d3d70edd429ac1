-- What is noted of sources, so that they are found by name.
use Rattle.std.specs.Prelude.{◌≡◌, ◌≤◌, ◌+◌, ℕ, suc, Bool, true, false, List, [], ◌∷◌, take, length, Option, Some, None, is_some}
use Rattle.std.specs.Borrow.{Bor}
use Rattle.std.specs.List.{filter_map}
use Rattle.std.specs.Map.{lookup}
use Rattle.std.specs.Str.{bytes_eq}
use Rattle.ebr_names.specs.Columns.{column_named}
use Rattle.ebr_sqlcheck.specs.declared.lookup.Ends.{Ends}
use Rattle.ebr_sqlcheck.specs.declared.lookup.Index.{Index}
use Rattle.ebr_sqlcheck.specs.declared.lookup.Start.{Start}
use Rattle.ebr_sqlcheck.specs.Sources.{Relation, is_called}
use Rattle.ebr_sqlcheck.specs.Names.{named_in}

abbrev pub alone : ℕ → Ends
alone at = record { first = at; last = at }

-- one element more in front of others
abbrev pub with_first : Bool → ℕ → Option Ends → Option Ends
with_first false at rest = rest
with_first true at None = Some (alone at)
with_first true at (Some e) = Some (record { first = at; last = e.last })

-- one element more behind others
abbrev pub with_last : Bool → ℕ → Option Ends → Option Ends
with_last false at before = before
with_last true at None = Some (alone at)
with_last true at (Some e) = Some (record { first = e.first; last = at })

-- the places of the first and the last element that passes a test, where the first of all has the place `at`
abbrev pub ends_from : {A : Type 0} → (A → Bool) → ℕ → List A → Option Ends
ends_from p at [] = None
ends_from p at (x ∷ xs) = with_first (p x) at (ends_from p (suc at) xs)

abbrev pub ends_of : {A : Type 0} → (A → Bool) → List A → Option Ends
ends_of p xs = ends_from p 0 xs

abbrev pub first_or : ℕ → Option Ends → ℕ
first_or at None = at
first_or at (Some e) = e.first

-- ---- what is noted for names

abbrev pub Noted : Type 0
Noted = List (Bor (List ℕ) × Ends)

abbrev pub note : List ℕ → Noted → Option Ends
note n notes = lookup (λ (k : Bor (List ℕ)). bytes_eq n k.now) notes

-- the notes after an element was noted for the names that pass a test
abbrev pub Notes : (List ℕ → Bool) → ℕ → Noted → Noted → Type 0
Notes is at old new = (n : List ℕ) → note n new ≡ with_last (is n) at (note n old)

-- for each name the ends of the sources that pass its test
abbrev pub HasNotes : (List ℕ → Relation → Bool) → List Relation → Noted → Type 0
HasNotes p list notes = (n : List ℕ) → note n notes ≡ ends_of (p n) list

-- ---- sources

abbrev pub has_column : List ℕ → Relation → Bool
has_column n r = is_some (column_named n r.columns)

-- whether a source may have the column of a name, as far as the maps tell
abbrev pub may_have : List ℕ → Option (List ℕ) → Relation → Bool
may_have n None r = has_column n r
may_have alias (Some m) r = is_called alias r

-- how many columns stand before each source, where `at` stand before the first
abbrev pub starts_from : ℕ → List Relation → List ℕ
starts_from at [] = []
starts_from at (r ∷ rest) = at ∷ starts_from (at + length r.columns) rest

pub record IsIndex (list : List Relation) (index : Index) : Type 0 where
  pub started : index.starts ≡ starts_from 0 list
  pub called : HasNotes is_called list index.aliases.entries
  pub named : HasNotes has_column list index.columns.entries

abbrev pub MayBeFound : List Relation → Option Index → Type 0
MayBeFound list None = Unit {0}
MayBeFound list (Some index) = IsIndex list index

-- how many columns sources have
abbrev pub widths : List Relation → ℕ
widths [] = 0
widths (r ∷ rest) = length r.columns + widths rest

-- where the search for the column of a name begins: no source before has it
abbrev pub Begins : List ℕ → Option (List ℕ) → List Relation → Option Start → Type 0
Begins n m list None = filter_map (named_in n m) list ≡ []
Begins n m list (Some s) = (filter_map (named_in n m) (take s.source list) ≡ []) × (s.source ≤ length list) × (s.columns ≡ widths (take s.source list))
