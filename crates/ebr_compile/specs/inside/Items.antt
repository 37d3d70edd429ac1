-- The items of a specification.
use Rattle.std.specs.Prelude.{Bool, false}
use Rattle.ebr_ast.specs.declared.unit.PackageItem.{PackageItem}
use Rattle.ebr_ast.specs.declared.unit.PackageItem.TheVariants as item
use Rattle.ebr_run.specs.Units.{is_state}

abbrev pub item_is_state : PackageItem → Bool
item_is_state (item.Decl d) = is_state d
item_is_state (item.Head h) = false
