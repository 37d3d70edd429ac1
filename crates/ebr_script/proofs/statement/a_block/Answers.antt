use Rattle.std.proofs.Common.{ap, sym, ◌∙◌}
use Rattle.std.specs.Prelude.{option_map}
use Rattle.ebr_grammar.specs.Reading.{whole}
use Rattle.ebr_ast.specs.declared.definition.Statement.TheVariants as statement
use Rattle.ebr_plparse.specs.Productions as productions
use Rattle.ebr_plparse.specs.Units as unit_grammar
use Rattle.ebr_plparse.proofs.Clear as unit_clear
use Rattle.ebr_script.proofs.Spelled.{unit_sound, unit_complete}
use Rattle.ebr_script.proofs.Values.{option_valued}
use Rattle.ebr_script.proofs.statement.a_block.Goals as goal

pub returns-in-Some : goal.returns-in-Some
returns-in-Some c = ap (option_map statement.Block) (sym c.in-Some.is ∙
    option_valued (productions.SpelledBy unit_grammar.block c.args.tokens.now) (whole (productions.reads_by unit_grammar.block c.args.tokens.now)) (unit_sound unit_grammar.block unit_clear.block_is c.args.tokens.now) (unit_complete unit_grammar.block unit_clear.block_is c.args.tokens.now)
    c.in_ok-tree.field-0 c.in_ok-tree.ensures.found c.in_ok-tree.ensures.only)

pub returns-in-None : goal.returns-in-None
returns-in-None c = ap (option_map statement.Block) (sym c.in-None.is ∙
    option_valued (productions.SpelledBy unit_grammar.block c.args.tokens.now) (whole (productions.reads_by unit_grammar.block c.args.tokens.now)) (unit_sound unit_grammar.block unit_clear.block_is c.args.tokens.now) (unit_complete unit_grammar.block unit_clear.block_is c.args.tokens.now)
    c.in_ok-tree.field-0 c.in_ok-tree.ensures.found c.in_ok-tree.ensures.only)
