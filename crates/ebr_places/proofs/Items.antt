-- What look-ups give by what is noted of a package's names, and what they are defined as.
use Rattle.std.proofs.Common.{◌≡◌, ℕ, suc, if◌then◌else◌, List, [], ◌∷◌, Option, Some, None, refl, ap}
use Rattle.std.specs.List.{filter_map}
use Rattle.std.specs.Option.{option_or}
use Rattle.std.specs.Str.{bytes_eq}
use Rattle.ebr_ast.specs.declared.statement.Decl.TheVariants as decl
use Rattle.ebr_ast.specs.declared.unit.PackageItem.{PackageItem}
use Rattle.ebr_ast.specs.declared.unit.PackageItem.TheVariants as item
use Rattle.ebr_ast.specs.Members as members
use Rattle.ebr_scope.specs.Meanings.{Word}
use Rattle.ebr_run.specs.Scope.{variables_before, code_given, declaration_in}

pub same_variables : (n : Word) (items : List PackageItem) → members.variables_before n items ≡ variables_before n (filter_map declaration_in items)
same_variables n [] = refl
same_variables n (item.Head h ∷ is) = same_variables n is
same_variables n (item.Decl (decl.Variable m c t e) ∷ is) = ap (λ k. if bytes_eq n m then 0 else suc k) (same_variables n is)
same_variables n (item.Decl (decl.Exception m) ∷ is) = ap (λ k. if bytes_eq n m then 0 else k) (same_variables n is)
same_variables n (item.Decl (decl.Cursor m q) ∷ is) = ap (λ k. if bytes_eq n m then 0 else k) (same_variables n is)
same_variables n (item.Decl (decl.ExceptionInit m k) ∷ is) = same_variables n is
same_variables n (item.Decl decl.Autonomous ∷ is) = same_variables n is

-- ---- codes

same_given : (n : Word) (o p : Option ℕ) → o ≡ p → option_or o None ≡ p
same_given n None p e = e
same_given n (Some k) p e = e

pub same_code : (n : Word) (items : List PackageItem) → members.code_given n items ≡ code_given n (filter_map declaration_in items)
same_code n [] = refl
same_code n (item.Head h ∷ is) = same_given n _ _ (same_code n is)
same_code n (item.Decl (decl.Variable m c t e) ∷ is) = same_given n _ _ (same_code n is)
same_code n (item.Decl (decl.Exception m) ∷ is) = same_given n _ _ (same_code n is)
same_code n (item.Decl (decl.Cursor m q) ∷ is) = same_given n _ _ (same_code n is)
same_code n (item.Decl (decl.ExceptionInit m k) ∷ is) = ap (λ o. option_or o (if bytes_eq n m then Some k else None)) (same_code n is)
same_code n (item.Decl decl.Autonomous ∷ is) = same_given n _ _ (same_code n is)
