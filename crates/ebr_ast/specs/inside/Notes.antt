-- What is noted of names beside the lists of packages.
use Rattle.std.specs.Prelude.{◌≡◌, ℕ, Bool, cond, List, [], Option, Some, None}
use Rattle.std.specs.List.{position_from}
use Rattle.std.specs.Map.{lookup}
use Rattle.std.specs.Option.{option_or, unwrap_or}
use Rattle.std.specs.Str.{bytes_eq}
use Rattle.ebr_ast.specs.declared.unit.PackageItem.{PackageItem}
use Rattle.ebr_ast.specs.declared.unit.Subprogram.{Subprogram}
use Rattle.ebr_ast.specs.Members.{has_name, variables_before, code_given, is_named}

-- the entries of a map by names
abbrev pub Noted : Type 0 → Type 0
Noted V = List (List ℕ × V)

abbrev pub Notes : Type 0
Notes = Noted ℕ

abbrev pub note : {V : Type 0} → List ℕ → Noted V → Option V
note n notes = lookup (bytes_eq n) notes

abbrev pub where_so : {V : Type 0} → Bool → V → Option V
where_so so value = cond so (Some value) None

-- a value of one name alone
abbrev pub of_name : {V : Type 0} → List ℕ → V → List ℕ → Option V
of_name name value n = where_so (bytes_eq n name) value

abbrev pub weight : Bool → ℕ
weight so = cond so 1 0

-- the notes after numbers were noted for names that have none
abbrev pub NotesFirst : (List ℕ → Option ℕ) → Notes → Notes → Type 0
NotesFirst numbers old new = (n : List ℕ) → note n new ≡ option_or (note n old) (numbers n)

-- the notes after values were noted for names that may have one
abbrev pub NotesLast : {V : Type 0} → (List ℕ → Option V) → Noted V → Noted V → Type 0
NotesLast values old new = (n : List ℕ) → note n new ≡ option_or (values n) (note n old)

-- the places of the first items of names
abbrev pub HasPlaces : List PackageItem → Notes → Type 0
HasPlaces items notes = (n : List ℕ) → note n notes ≡ position_from (has_name n) 0 items

-- how many variables stand before declarations, and how many there are
abbrev pub HasCounts : List PackageItem → Notes → ℕ → Type 0
HasCounts items notes all = (n : List ℕ) → unwrap_or (note n notes) all ≡ variables_before n items

abbrev pub HasCodes : List PackageItem → Notes → Type 0
HasCodes items notes = (n : List ℕ) → note n notes ≡ code_given n items

-- the places of the first subprograms of names
abbrev pub HasSubprograms : List Subprogram → Notes → Type 0
HasSubprograms subprograms notes = (n : List ℕ) → note n notes ≡ position_from (is_named n) 0 subprograms

pub record AreNoted (items : List PackageItem) (places before : Notes) (all : ℕ) (codes : Notes) : Type 0 where
  pub found : HasPlaces items places
  pub counted : HasCounts items before all
  pub coded : HasCodes items codes

-- nothing is noted yet
abbrev pub IsBlank : Notes → Notes → Notes → Type 0
IsBlank places before codes = (places ≡ []) × (before ≡ []) × (codes ≡ [])
