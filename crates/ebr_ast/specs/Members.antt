-- What a package's specification has under a name, and its body among its subprograms.
-- Oracle Database PL/SQL Language Reference 19c, Package Specification, Package Body, and EXCEPTION_INIT Pragma; that of two
-- of a name the first counts, and of two codes the last, is own.
use Rattle.std.specs.Prelude.{ℕ, suc, Bool, true, false, if◌then◌else◌, List, [], ◌∷◌, find, Option, Some, None}
use Rattle.std.specs.Option.{option_or}
use Rattle.std.specs.Str.{bytes_eq}
use Rattle.ebr_ast.specs.declared.statement.Decl.{Decl}
use Rattle.ebr_ast.specs.declared.statement.Decl.TheVariants as decl
use Rattle.ebr_ast.specs.declared.unit.PackageItem.{PackageItem}
use Rattle.ebr_ast.specs.declared.unit.PackageItem.TheVariants as item
use Rattle.ebr_ast.specs.declared.unit.Subprogram.{Subprogram}

-- whether a declaration declares a name; a pragma declares none
abbrev pub declares : List ℕ → Decl → Bool
declares n (decl.Variable m c t e) = bytes_eq n m
declares n (decl.Exception m) = bytes_eq n m
declares n (decl.Cursor m q) = bytes_eq n m
declares n (decl.ExceptionInit m k) = false
declares n decl.Autonomous = false

abbrev pub has_name : List ℕ → PackageItem → Bool
has_name n (item.Decl d) = declares n d
has_name n (item.Head h) = bytes_eq n h.name

-- the item that a name means
abbrev pub item_named : List ℕ → List PackageItem → Option PackageItem
item_named n items = find (has_name n) items

abbrev pub is_declared : List ℕ → PackageItem → Bool
is_declared n (item.Decl d) = declares n d
is_declared n (item.Head h) = false

abbrev pub is_variable : PackageItem → Bool
is_variable (item.Decl (decl.Variable n c t e)) = true
is_variable i = false

-- how many variables and constants stand before the declaration of a name
abbrev pub variables_before : List ℕ → List PackageItem → ℕ
variables_before n [] = 0
variables_before n (i ∷ is) = if is_declared n i then 0 else if is_variable i then suc (variables_before n is) else variables_before n is

-- the code that an item gives an exception
abbrev pub pragma_code : List ℕ → PackageItem → Option ℕ
pragma_code n (item.Decl (decl.ExceptionInit m k)) = if bytes_eq n m then Some k else None
pragma_code n i = None

-- the code that EXCEPTION_INIT gives an exception
abbrev pub code_given : List ℕ → List PackageItem → Option ℕ
code_given n [] = None
code_given n (i ∷ is) = option_or (code_given n is) (pragma_code n i)

abbrev pub is_named : List ℕ → Subprogram → Bool
is_named n s = bytes_eq n s.head.name
