-- Reading blocks and their parts is right.
use Rattle.std.proofs.Common.{refl}
use Rattle.ebr_grammar.specs.Kinds.{same, name_kinds}
use Rattle.ebr_grammar.proofs.Right.{IsRight, widened}
use Rattle.ebr_grammar.proofs.Outside.{part_reader}
use Rattle.ebr_simpleparse.specs.Simple.{simple_words}
use Rattle.ebr_simpleparse.proofs.Parts as simple
use Rattle.ebr_stmtparse.specs.Statements.{hints, grammar, body_statements, declarations, handler, more_handlers, some_handlers, handlers, initial, block_end, block_rest, body, block, statement_words, statement_begins, body_reader, block_reader, initial_reader}
use Rattle.ebr_stmtparse.specs.Parts.{declaration_part, call_part, body_part, block_part, initial_part}
use Rattle.ebr_stmtparse.proofs.Clear.{clear, body_is, block_is, initial_is}

pub reads_declarations : IsRight declaration_part
reads_declarations = simple.reads_declarations

pub reads_calls : IsRight call_part
reads_calls = simple.reads_calls

pub reads_bodies : IsRight body_part
unfolding same name_kinds declarations initial block_end block_rest body body_reader
reads_bodies = widened (part_reader hints grammar clear body body_is) refl refl

pub reads_blocks : IsRight block_part
unfolding same name_kinds declarations initial block_end block_rest body block block_reader
reads_blocks = widened (part_reader hints grammar clear block block_is) refl refl

pub reads_initials : IsRight initial_part
unfolding same name_kinds hints body_statements handler more_handlers some_handlers handlers initial initial_reader statement_begins statement_words simple_words
reads_initials = widened (part_reader hints grammar clear initial initial_is) refl refl
