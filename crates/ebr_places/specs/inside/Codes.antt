-- The codes that declarations give exceptions, and what is noted of them.
use Rattle.std.specs.Prelude.{◌≡◌, ℕ, if◌then◌else◌, List, Option, Some, None}
use Rattle.std.specs.List.{filter_map}
use Rattle.std.specs.Map.{lookup}
use Rattle.std.specs.Option.{option_or}
use Rattle.std.specs.Str.{bytes_eq}
use Rattle.ebr_ast.specs.declared.statement.Decl.{Decl}
use Rattle.ebr_ast.specs.declared.statement.Decl.TheVariants as decl
use Rattle.ebr_ast.specs.declared.unit.PackageItem.{PackageItem}
use Rattle.ebr_scope.specs.Meanings.{Word}
use Rattle.ebr_run.specs.Scope.{code_given, declaration_in}
use Rattle.ebr_places.specs.declared.codes.Among.{Among}
use Rattle.ebr_places.specs.declared.codes.Among.TheVariants as among

-- the code that one declaration gives an exception
abbrev pub declared_code : Word → Decl → Option ℕ
declared_code n (decl.ExceptionInit m k) = if bytes_eq n m then Some k else None
declared_code n d = None

abbrev pub given_in : Option Decl → Word → Option ℕ
given_in None n = None
given_in (Some d) n = declared_code n d

abbrev pub given_by : PackageItem → Word → Option ℕ
given_by i n = given_in (declaration_in i) n

abbrev pub of_name : Word → ℕ → Word → Option ℕ
of_name m k n = if bytes_eq n m then Some k else None

-- the entries of the map
abbrev pub Entries : Type 0
Entries = List (Word × ℕ)

-- the map has the code of each exception
abbrev pub HasCodes : List Decl → Entries → Type 0
HasCodes ds codes = (n : Word) → lookup (bytes_eq n) codes ≡ code_given n ds

-- the map after some codes were noted, each in the place of an earlier one
abbrev pub Notes : (Word → Option ℕ) → Entries → Entries → Type 0
Notes new_codes old new = (n : Word) → lookup (bytes_eq n) new ≡ option_or (new_codes n) (lookup (bytes_eq n) old)

-- the declarations
abbrev pub listed : Among → List Decl
listed (among.Declarations ds) = ds.now
listed (among.Items is) = filter_map declaration_in is.now
