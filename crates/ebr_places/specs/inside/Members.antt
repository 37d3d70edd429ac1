-- What a package has under a name, by the items of its specification.
use Rattle.std.specs.Prelude.{List, Option, option_and_then}
use Rattle.std.specs.List.{filter_map}
use Rattle.ebr_ast.specs.declared.unit.PackageItem.{PackageItem}
use Rattle.ebr_ast.specs.declared.view.EditionView.{EditionView}
use Rattle.ebr_scope.specs.Meanings.{Word}
use Rattle.ebr_scope.specs.Declarations.{item_named}
use Rattle.ebr_run.specs.Scope.{Denoted, declaration_in, member_of_item}

abbrev pub member_in : EditionView → Word → List PackageItem → Word → Option Denoted
member_in v p items m = option_and_then (member_of_item v p (filter_map declaration_in items)) (item_named m items)
