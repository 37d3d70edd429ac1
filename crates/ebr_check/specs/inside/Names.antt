-- Sets of names that checks of a scope go by.
use Rattle.std.specs.Prelude.{◌≡◌, Bool, true, not, ◌&&◌, ◌||◌, List, [], ◌∷◌, ◌++◌}
use Rattle.std.specs.List.{list_any}
use Rattle.std.specs.Str.{bytes_eq}
use Rattle.ebr_ast.specs.declared.statement.Decl.{Decl}
use Rattle.ebr_ast.specs.declared.statement.Decl.TheVariants as decl
use Rattle.ebr_scope.specs.Meanings.{Word}
use Rattle.ebr_validity.specs.Rules.{is_exception_named, is_exception_number}

-- whether keys differ from each other and from those before them
abbrev pub are_fresh : {K : Type 0} → (K → K → Bool) → List K → List K → Bool
are_fresh same before [] = true
are_fresh same before (k ∷ ks) = not (list_any (same k) before) && are_fresh same (before ++ k ∷ []) ks

-- the names are those of the exceptions among declarations
abbrev pub HasExceptions : List Decl → List Word → Type 0
HasExceptions ds names = (n : Word) → list_any (bytes_eq n) names ≡ list_any (is_exception_named n) ds

-- one declaration more
abbrev pub NotesException : Decl → List Word → List Word → Type 0
NotesException d old new = (n : Word) → list_any (bytes_eq n) new ≡ (is_exception_named n d || list_any (bytes_eq n) old)

-- a pragma, where exceptions have these names
abbrev pub init_stands : List Word → Decl → Bool
init_stands names (decl.ExceptionInit n k) = is_exception_number k && list_any (bytes_eq n) names
init_stands names d = true
