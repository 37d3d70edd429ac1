-- What a unit declares to others: the heads of subprograms and the declarations in its text up to its body (own).
use Rattle.std.specs.Prelude.{List, [], ◌∷◌, map, Option, Some, None, option_map}
use Rattle.std.specs.Borrow.{Bor}
use Rattle.std.specs.List.{filter_map}
use Rattle.ebr_base.specs.declared.object.ObjectKey.{ObjectKey}
use Rattle.ebr_ast.specs.declared.statement.Decl.{Decl}
use Rattle.ebr_ast.specs.declared.unit.Head.{Head}
use Rattle.ebr_ast.specs.declared.unit.PackageItem.{PackageItem}
use Rattle.ebr_ast.specs.declared.unit.PackageItem.TheVariants as item
use Rattle.ebr_ast.specs.declared.unit.UnitTree.{UnitTree}
use Rattle.ebr_ast.specs.declared.unit.UnitTree.TheVariants as unit
use Rattle.ebr_ast.specs.declared.view.EditionView.{EditionView}
use Rattle.ebr_ast.specs.declared.view.Object.{Object}
use Rattle.ebr_ast.specs.Views.{object_of}
use Rattle.ebr_names.specs.declared.heads.Header.{Header}

-- the heads and the declarations, each in the order of the text
pub record Declarations : Type 0 where
  pub heads : List Head
  pub decls : List Decl

-- those that a header lends
abbrev pub lent : Header → Declarations
lent h = record { heads = map (λ (b : Bor Head). b.now) h.heads; decls = map (λ (b : Bor Decl). b.now) h.decls }

abbrev pub head_in : PackageItem → Option Head
head_in (item.Head h) = Some h
head_in (item.Decl d) = None

abbrev pub declaration_in : PackageItem → Option Decl
declaration_in (item.Head h) = None
declaration_in (item.Decl d) = Some d

-- A procedure's or function's one head; all heads and declarations of a package's specification; nothing of a package's
-- body, a trigger and an editioning view.
abbrev pub header_of : UnitTree → Declarations
header_of (unit.Subprogram s) = record { heads = s.head ∷ []; decls = [] }
header_of (unit.Package name items) = record { heads = filter_map head_in items; decls = filter_map declaration_in items }
header_of tree = record { heads = []; decls = [] }

-- the header of the visible object of a key, valid or not
abbrev pub visible_header : EditionView → ObjectKey → Option Declarations
visible_header v key = option_map (λ (o : Object). header_of o.tree) (object_of key v.objects)
