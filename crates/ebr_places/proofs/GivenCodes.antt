-- The codes of exceptions, noted one declaration after the other.
use Rattle.std.proofs.Common.{◌≡◌, ℕ, List, [], ◌∷◌, Option, Some, None, refl, sym, ap, ◌∙◌}
use Rattle.std.specs.Map.{lookup}
use Rattle.std.specs.Option.{option_or}
use Rattle.std.specs.Str.{bytes_eq}
use Rattle.ebr_ast.specs.declared.statement.Decl.{Decl}
use Rattle.ebr_ast.specs.declared.statement.Decl.TheVariants as decl
use Rattle.ebr_scope.specs.Meanings.{Word}
use Rattle.ebr_run.specs.Scope.{code_given}
use Rattle.ebr_places.specs.inside.Codes.{Entries, Notes, declared_code}

-- the codes noted so far, and those of the rest
abbrev pub Codes : Entries → List Decl → List Decl → Type 0
Codes codes rest all = (n : Word) → option_or (code_given n rest) (lookup (bytes_eq n) codes) ≡ code_given n all

or-none : (o : Option ℕ) → o ≡ option_or o None
or-none None = refl
or-none (Some k) = refl

or-or : (a b c : Option ℕ) → option_or a (option_or b c) ≡ option_or (option_or a b) c
or-or None b c = refl
or-or (Some k) b c = refl

code_more : (n : Word) (d : Decl) (ds : List Decl) → option_or (code_given n ds) (declared_code n d) ≡ code_given n (d ∷ ds)
code_more n (decl.Variable m c t e) ds = sym (or-none (code_given n ds))
code_more n (decl.Exception m) ds = sym (or-none (code_given n ds))
code_more n (decl.ExceptionInit m k) ds = refl
code_more n decl.Autonomous ds = sym (or-none (code_given n ds))
code_more n (decl.Cursor m q) ds = sym (or-none (code_given n ds))

pub none_noted : (codes : Entries) (all : List Decl) → codes ≡ [] → Codes codes all all
none_noted codes all e n = ap (λ es. option_or (code_given n all) (lookup (bytes_eq n) es)) e ∙ sym (or-none (code_given n all))

pub one_noted : (old new : Entries) (d : Decl) (rest more all : List Decl) → rest ≡ d ∷ more → Notes (λ n. declared_code n d) old new → Codes old rest all → Codes new more all
one_noted old new d rest more all e notes was n =
    ap (option_or (code_given n more)) (notes n)
    ∙ or-or (code_given n more) (declared_code n d) (lookup (bytes_eq n) old)
    ∙ ap (λ o. option_or o (lookup (bytes_eq n) old)) (code_more n d more ∙ ap (code_given n) (sym e))
    ∙ was n
