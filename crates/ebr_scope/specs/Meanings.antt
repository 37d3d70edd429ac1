-- What names stand for at a place in code.
-- Oracle Database PL/SQL Language Reference 19c, Scope and Visibility of Identifiers, and Name Resolution.
use Rattle.std.specs.Prelude.{ℕ, Bool, true, false, ◌&&◌, if◌then◌else◌, nat_lt, List, [], ◌∷◌, find, length, Option, Some, None, option_map, option_and_then}
use Rattle.std.specs.Option.{is_some}
use Rattle.std.specs.Str.{bytes_eq}
use Rattle.ebr_ast.specs.declared.unit.Head.{Head}
use Rattle.ebr_ast.specs.declared.unit.Mode.{Mode}
use Rattle.ebr_ast.specs.declared.unit.Mode.TheVariants as mode
use Rattle.ebr_sqlcheck.specs.Types.{Known}
use Rattle.ebr_scope.specs.declared.field.Field.{Field}

abbrev pub Word : Type 0
Word = List ℕ

-- what a name stands for; a type is none where it isn't known
pub data Meaning : Type 0 where
  Variable : Known → Meaning
  Constant : Known → Meaning  -- also the variable of a loop, and a field of its record
  Parameter : Option Mode → Known → Meaning
  Exception : Meaning
  Cursor : Meaning
  Record : Meaning  -- of a loop over rows
  Subprogram : Head → Meaning

-- The columns of a cursor or a loop's record. They are none where a source of its query has no columns that are known.
abbrev pub Fields : Type 0
Fields = Option (List Field)

-- a declared name
pub record Entry : Type 0 where
  pub name : Word
  pub meaning : Meaning
  pub fields : Fields

-- The declared names, the innermost first: those of the blocks from the innermost outward, then the parameters, the
-- declarations and subprograms of the package's body, and those of its specification.
abbrev pub Scope : Type 0
Scope = List Entry

abbrev pub entry : Word → Meaning → Entry
entry n m = record { name = n; meaning = m; fields = None }

abbrev pub with_fields : Word → Meaning → Fields → Entry
with_fields n m fs = record { name = n; meaning = m; fields = fs }

-- the innermost declaration of a name decides
abbrev pub innermost : Word → Scope → Option Entry
innermost n scope = find (λ (e : Entry). bytes_eq n e.name) scope

-- whether that one is among so many outermost names
abbrev pub is_outer : ℕ → Word → Scope → Bool
is_outer count n [] = false
is_outer count n (e ∷ scope) = if bytes_eq n e.name then nat_lt (length scope) count else is_outer count n scope

abbrev pub head_in : Meaning → Option Head
head_in (Subprogram h) = Some h
head_in m = None

abbrev pub is_subprogram : Word → Entry → Bool
is_subprogram n e = bytes_eq n e.name && is_some (head_in e.meaning)

-- The subprogram of the enclosing package that has a name: a name with arguments never is anything else that is declared.
abbrev pub subprogram : Word → Scope → Option Head
subprogram n scope = option_and_then (λ (e : Entry). head_in e.meaning) (find (is_subprogram n) scope)

abbrev pub is_field : Word → Field → Bool
is_field n f = is_same_name n f.name where
  is_same_name : Word → Option Word → Bool
  is_same_name n None = false
  is_same_name n (Some m) = bytes_eq n m

-- the type of a field; where the fields aren't known, each name is one, and its type isn't known
abbrev pub field : Fields → Word → Option Known
field None n = Some None
field (Some fs) n = option_map (λ (f : Field). f.ty) (find (is_field n) fs)

-- whether a parameter hands a value back
abbrev pub is_out : Option Mode → Bool
is_out None = false
is_out (Some mode.In) = false
is_out (Some mode.Out) = true
is_out (Some mode.InOut) = true

-- what may be assigned: a variable, and an OUT or IN OUT parameter
abbrev pub is_target : Option Meaning → Bool
is_target (Some (Variable t)) = true
is_target (Some (Parameter m t)) = is_out m
is_target m = false
