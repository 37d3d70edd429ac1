-- The states of packages in a session.
-- Oracle Database PL/SQL Language Reference 19c, Package State; that every constant counts is own.
use Rattle.std.specs.Prelude.{ℕ, zero, suc, nat_eq, Bool, true, false, ◌&&◌, if◌then◌else◌, List, [], ◌∷◌, filter, find, map, not, slice_get, Option, Some, None}
use Rattle.std.specs.Str.{bytes_eq}
use Rattle.ebr_base.specs.declared.numbers.Stamp.{Stamp}
use Rattle.ebr_base.specs.declared.value.Value.{Value}
use Rattle.ebr_run.specs.Cursors.{Cursor}

-- what a state was made from: the visible specification and body
pub record Made : Type 0 where
  pub specification : Option Stamp
  pub body : Option Stamp

-- The state of a package: its variables and constants, and its cursors, those of the specification first.
pub record PackageState : Type 0 where
  pub name : List ℕ
  pub made : Made
  pub stateful : Bool  -- whether it has a variable, a constant or a cursor
  pub members : List Value
  pub cursors : List Cursor

abbrev pub same_stamp : Option Stamp → Option Stamp → Bool
same_stamp None None = true
same_stamp (Some a) (Some b) = nat_eq a.edition.0 b.edition.0 && nat_eq a.count b.count
same_stamp a b = false

abbrev pub same_made : Made → Made → Bool
same_made a b = same_stamp a.specification b.specification && same_stamp a.body b.body

abbrev pub is_of : List ℕ → PackageState → Bool
is_of name s = bytes_eq name s.name

-- the state of a package
abbrev pub state_of : List ℕ → List PackageState → Option PackageState
state_of name states = find (is_of name) states

-- without the state of a package
abbrev pub forget : List ℕ → List PackageState → List PackageState
forget name states = filter (λ (s : PackageState). not (is_of name s)) states

abbrev pub changed : List ℕ → (PackageState → PackageState) → PackageState → PackageState
changed name f s = if is_of name s then f s else s

-- with the state of a package changed, where it is there
abbrev pub change : List ℕ → (PackageState → PackageState) → List PackageState → List PackageState
change name f states = map (changed name f) states

module _ {A : Type 0} where
  -- a list with a value at a place; places before it that aren't there yet are filled
  abbrev pub put : A → ℕ → A → List A → List A
  put fill zero v [] = v ∷ []
  put fill zero v (x ∷ xs) = v ∷ xs
  put fill (suc n) v [] = fill ∷ put fill n v []
  put fill (suc n) v (x ∷ xs) = x ∷ put fill n v xs

  -- the value at a place
  abbrev pub or_else : A → Option A → A
  or_else fill None = fill
  or_else fill (Some v) = v

  abbrev pub at : A → ℕ → List A → A
  at fill n xs = or_else fill (slice_get xs n)
