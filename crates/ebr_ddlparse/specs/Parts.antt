-- Types and editioning views, as forms of another grammar.
use Rattle.std.specs.Prelude.{[], ◌∷◌}
use Rattle.ebr_grammar.specs.declared.kind.Kind.TheVariants as k
use Rattle.ebr_grammar.specs.Kinds.{name_kinds}
use Rattle.ebr_grammar.specs.Forms.{Outer}
use Rattle.ebr_ast.specs.declared.statement.DeclaredType.{DeclaredType}
use Rattle.ebr_ast.specs.declared.unit.EditioningView.{EditioningView}
use Rattle.ebr_ddlparse.specs.Types.{SpellsType, type_reader, type_goes_on}
use Rattle.ebr_ddlparse.specs.Views.{SpellsView, view_reader}

-- ebr_ddlparse::read_type
abbrev pub type_part : Outer DeclaredType
type_part = record { begins = name_kinds; goes_on = type_goes_on; form = SpellsType; reader = type_reader }

-- ebr_ddlparse::read_editioning_view
abbrev pub view_part : Outer EditioningView
view_part = record { begins = k.Editioning ∷ []; goes_on = []; form = SpellsView; reader = view_reader }
