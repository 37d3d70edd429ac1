-- What a specification has under a name, by what is noted of its names.
use Rattle.std.proofs.Common.{◌≡◌, List, refl, ap}
use Rattle.std.specs.Prelude.{find}
use Rattle.ebr_ast.specs.declared.statement.Decl.TheVariants as decl
use Rattle.ebr_ast.specs.declared.unit.PackageItem.{PackageItem}
use Rattle.ebr_ast.specs.declared.unit.PackageItem.TheVariants as item
use Rattle.ebr_ast.specs.Members as members
use Rattle.ebr_scope.specs.Meanings.{Word}
use Rattle.ebr_scope.specs.Declarations.{is_name, item_name, item_named}

same_name : (n : Word) (i : PackageItem) → members.has_name n i ≡ is_name n (item_name i)
same_name n (item.Decl (decl.Variable m c t e)) = refl
same_name n (item.Decl (decl.Exception m)) = refl
same_name n (item.Decl (decl.Cursor m q)) = refl
same_name n (item.Decl (decl.ExceptionInit m k)) = refl
same_name n (item.Decl decl.Autonomous) = refl
same_name n (item.Head h) = refl

pub same_item : (n : Word) (items : List PackageItem) → members.item_named n items ≡ item_named n items
same_item n items = ap (λ p. find p items) (λ j i. same_name n i j)
