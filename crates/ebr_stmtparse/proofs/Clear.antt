-- One token is enough to read statements and blocks.
use Rattle.std.proofs.Common.{◌≡◌, true, refl}
use Rattle.ebr_grammar.specs.Kinds.{same, name_kinds}
use Rattle.ebr_grammar.specs.Choice.{is_sound}
use Rattle.ebr_grammar.proofs.Right.{foreign, AreRight}
use Rattle.ebr_grammar.proofs.Depth.{IsClear}
use Rattle.ebr_grammar.proofs.Outside.{IsReadable}
use Rattle.ebr_exprparse.specs.Expressions.{begins, goes_on}
use Rattle.ebr_exprparse.proofs.Whole.{reads_expressions}
use Rattle.ebr_simpleparse.proofs.ReadsHeading.{reads_headings}
use Rattle.ebr_simpleparse.proofs.Parts.{reads_declarations, reads_caught, reads_simple}
use Rattle.ebr_simpleparse.specs.Simple.{simple_words}
use Rattle.ebr_stmtparse.specs.Statements.{Nested, some_statements, hints, grammar, body_statements, end_loop, loop_body, while_loop, headed_loop, for_loop, branch, more_branches, branches, otherwise, end_if, closed_otherwise, choice, declarations, handler, more_handlers, some_handlers, handlers, initial, block_end, block_rest, body, block, nested_block, statement, statement_words, statement_begins, more_statements, statements}

is_clear_grammar : (n : Nested) → is_sound hints n (grammar n) ≡ true
unfolding same name_kinds begins goes_on simple_words hints grammar body_statements end_loop loop_body while_loop headed_loop for_loop branch more_branches branches otherwise end_if closed_otherwise choice declarations handler more_handlers some_handlers handlers initial block_end block_rest body block nested_block statement statement_words statement_begins more_statements statements
is_clear_grammar some_statements = refl

are_right : (n : Nested) → AreRight (foreign (grammar n))
unfolding grammar body_statements end_loop loop_body while_loop headed_loop for_loop branch more_branches branches otherwise end_if closed_otherwise choice declarations handler more_handlers some_handlers handlers initial block_end block_rest body block nested_block statement statement_words statement_begins more_statements statements
are_right some_statements = (reads_expressions, (reads_expressions, (reads_expressions, (reads_headings, (reads_declarations, (reads_caught, (reads_caught, (reads_caught, (reads_caught, (reads_simple, (reads_expressions, (reads_expressions, (reads_expressions, (reads_headings, (reads_declarations, (reads_caught, (reads_caught, (reads_caught, (reads_caught, (reads_simple, tt))))))))))))))))))))

pub clear : IsClear hints grammar
clear = record { each = is_clear_grammar; right = are_right }

pub body_is : IsReadable hints body
unfolding same name_kinds simple_words hints body_statements declarations handler more_handlers some_handlers handlers initial block_end block_rest body statement_words statement_begins
body_is = record { clear = refl; full = refl; right = (reads_declarations, (reads_caught, (reads_caught, tt))) }

pub block_is : IsReadable hints block
unfolding same name_kinds simple_words hints body_statements declarations handler more_handlers some_handlers handlers initial block_end block_rest body block statement_words statement_begins
block_is = record { clear = refl; full = refl; right = (reads_declarations, (reads_caught, (reads_caught, (reads_caught, (reads_caught, tt))))) }

pub initial_is : IsReadable hints initial
unfolding same name_kinds simple_words hints body_statements handler more_handlers some_handlers handlers initial statement_words statement_begins
initial_is = record { clear = refl; full = refl; right = (reads_caught, (reads_caught, tt)) }
