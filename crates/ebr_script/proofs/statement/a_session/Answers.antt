use Rattle.std.proofs.Common.{ap, sym, ◌∙◌}
use Rattle.std.specs.Prelude.{option_map}
use Rattle.ebr_grammar.specs.Reading.{whole}
use Rattle.ebr_ast.specs.declared.definition.Statement.TheVariants as statement
use Rattle.ebr_sqlparse.specs.Productions as productions
use Rattle.ebr_sqlparse.specs.Statements as sql_grammar
use Rattle.ebr_sqlparse.proofs.Clear as sql_clear
use Rattle.ebr_script.proofs.Spelled.{sql_sound, sql_complete}
use Rattle.ebr_script.proofs.Values.{option_valued}
use Rattle.ebr_script.proofs.statement.a_session.Goals as goal

pub returns-in-Some : goal.returns-in-Some
returns-in-Some c = ap (option_map statement.SetEdition) (sym c.in-Some.is ∙
    option_valued (productions.SpelledBy sql_grammar.session c.args.tokens.now) (whole (productions.reads_by sql_grammar.session c.args.tokens.now)) (sql_sound sql_grammar.session sql_clear.session_is c.args.tokens.now) (sql_complete sql_grammar.session sql_clear.session_is c.args.tokens.now)
    c.in_ok-tree.field-0 c.in_ok-tree.ensures.found c.in_ok-tree.ensures.only)

pub returns-in-None : goal.returns-in-None
returns-in-None c = ap (option_map statement.SetEdition) (sym c.in-None.is ∙
    option_valued (productions.SpelledBy sql_grammar.session c.args.tokens.now) (whole (productions.reads_by sql_grammar.session c.args.tokens.now)) (sql_sound sql_grammar.session sql_clear.session_is c.args.tokens.now) (sql_complete sql_grammar.session sql_clear.session_is c.args.tokens.now)
    c.in_ok-tree.field-0 c.in_ok-tree.ensures.found c.in_ok-tree.ensures.only)
