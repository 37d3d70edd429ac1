-- The rules compute: which of them a list of places breaks first.
use Rattle.std.proofs.Common.{◌≡◌, true, false, [], ◌∷◌, Some, None, Err, refl}
use Rattle.std.specs.Prelude.{codes}
use Rattle.ebr_base.specs.declared.code.Code.TheVariants.{Ora}
use Rattle.ebr_ast.specs.declared.statement.Caught.TheVariants as caught
use Rattle.ebr_ast.specs.declared.statement.Decl.TheVariants as decl
use Rattle.ebr_sqlcheck.specs.declared.value_type.ValueType.TheVariants as type
use Rattle.ebr_scope.specs.Meanings.{Constant}
use Rattle.ebr_validity.specs.Sites as site
use Rattle.ebr_validity.specs.Rules.{rules, first_broken}

-- the least number is told, wherever its place stands
least : first_broken rules (site.Leaves false ∷ site.Assigns None ∷ site.Sql (Err (Ora 942)) ∷ []) ≡ Some 1
least = refl

-- what isn't known fits everything
unknown_fits : first_broken rules (site.Fits (Some type.Number) None ∷ site.Fits None (Some type.Text) ∷ []) ≡ None
unknown_fits = refl

text_is_no_number : first_broken rules (site.Fits (Some type.Number) (Some type.Text) ∷ []) ≡ Some 4
text_is_no_number = refl

constant_takes_no_value : first_broken rules (site.Assigns (Some (Constant None)) ∷ []) ≡ Some 6
constant_takes_no_value = refl

others_is_last : first_broken rules (site.Handles (caught.Others ∷ caught.Named [] ∷ []) ∷ []) ≡ Some 8
others_is_last = refl

-- its exception may stand behind the pragma
init_names_exception : first_broken rules (site.Pragmas true (decl.ExceptionInit (codes "E") 1 ∷ decl.Exception (codes "E") ∷ decl.Autonomous ∷ []) ∷ []) ≡ None
init_names_exception = refl

twice_autonomous : first_broken rules (site.Pragmas true (decl.Autonomous ∷ decl.Autonomous ∷ []) ∷ []) ≡ Some 10
twice_autonomous = refl
