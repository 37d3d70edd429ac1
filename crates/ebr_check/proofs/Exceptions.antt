-- Pragmas by the names of the exceptions among their declarations.
use Rattle.std.proofs.Common.{◌≡◌, Bool, true, false, ◌&&◌, ◌||◌, List, [], ◌∷◌, refl, sym, ap, ◌∙◌}
use Rattle.std.specs.List.{list_any, list_all}
use Rattle.std.specs.Str.{bytes_eq}
use Rattle.ebr_ast.specs.declared.statement.Decl.{Decl}
use Rattle.ebr_ast.specs.declared.statement.Decl.TheVariants as decl
use Rattle.ebr_scope.specs.Meanings.{Word}
use Rattle.ebr_validity.specs.Rules.{is_exception_named, is_exception_number, init_stands}
use Rattle.ebr_check.specs.inside.Names.{HasExceptions, NotesException}
use Rattle.ebr_check.specs.inside.Names as inside

same : (ds : List Decl) (names : List Word) → HasExceptions ds names → (d : Decl) → inside.init_stands names d ≡ init_stands ds d
same ds names h (decl.ExceptionInit n k) = ap (λ b. is_exception_number k && b) (h n)
same ds names h (decl.Variable n c t e) = refl
same ds names h (decl.Exception n) = refl
same ds names h decl.Autonomous = refl
same ds names h (decl.Cursor n q) = refl

pub all_stand : (ds : List Decl) (names : List Word) → HasExceptions ds names → list_all (inside.init_stands names) ds ≡ list_all (init_stands ds) ds
all_stand ds names h = ap (λ p. list_all p ds) (λ i d. same ds names h d i)

-- the exceptions noted so far, and those of the rest
abbrev pub Exceptions : List Word → List Decl → List Decl → Type 0
Exceptions names rest all = (n : Word) → (list_any (bytes_eq n) names || list_any (is_exception_named n) rest) ≡ list_any (is_exception_named n) all

either : (a b c : Bool) → ((a || b) || c) ≡ (b || (a || c))
either true true c = refl
either true false c = refl
either false true c = refl
either false false c = refl

or-none : (b : Bool) → (b || false) ≡ b
or-none true = refl
or-none false = refl

pub one_noted : (old new : List Word) (d : Decl) (rest more all : List Decl) → rest ≡ d ∷ more → NotesException d old new → Exceptions old rest all → Exceptions new more all
one_noted old new d rest more all e notes was n =
    ap (λ b. b || list_any (is_exception_named n) more) (notes n)
    ∙ either (is_exception_named n d) (list_any (bytes_eq n) old) (list_any (is_exception_named n) more)
    ∙ ap (λ ds. list_any (bytes_eq n) old || list_any (is_exception_named n) ds) (sym e)
    ∙ was n

pub all_noted : (names : List Word) (rest all : List Decl) → rest ≡ [] → Exceptions names rest all → HasExceptions all names
all_noted names rest all e was n = sym (or-none (list_any (bytes_eq n) names)) ∙ ap (λ ds. list_any (bytes_eq n) names || list_any (is_exception_named n) ds) (sym e) ∙ was n
