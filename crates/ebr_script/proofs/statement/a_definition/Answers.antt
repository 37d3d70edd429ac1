use Rattle.std.proofs.Common.{ap, sym, ◌∙◌}
use Rattle.std.specs.Prelude.{option_map}
use Rattle.ebr_ast.specs.declared.definition.Statement.TheVariants as statement
use Rattle.ebr_script.proofs.statement.a_definition.Goals as goal

pub returns-in-Some : goal.returns-in-Some
returns-in-Some c = ap (option_map statement.Definition) (sym c.in-Some.is ∙ c.in_ok-tree.ensures)

pub returns-in-None : goal.returns-in-None
returns-in-None c = ap (option_map statement.Definition) (sym c.in-None.is ∙ c.in_ok-tree.ensures)
