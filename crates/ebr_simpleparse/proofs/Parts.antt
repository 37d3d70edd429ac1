-- Reading declarations, simple statements and parts of others is right.
use Rattle.std.proofs.Common.{refl}
use Rattle.ebr_grammar.specs.Kinds.{same, name_kinds}
use Rattle.ebr_grammar.proofs.Right.{IsRight, widened}
use Rattle.ebr_simpleparse.specs.Paths.{member, path, expressions, arguments, maybe_arguments, call, new_column, more_exceptions, exceptions, caught}
use Rattle.ebr_simpleparse.specs.Simple as simple
use Rattle.ebr_simpleparse.specs.Declarations as declarations
use Rattle.ebr_simpleparse.specs.Parts.{call_part, caught_part, simple_part, declaration_part}
use Rattle.ebr_simpleparse.proofs.ReadsParts.{reader}
use Rattle.ebr_simpleparse.proofs.Clear.{call_is, caught_is, simple_is, declaration_is}

pub reads_calls : IsRight call_part
unfolding same name_kinds member path expressions arguments maybe_arguments call
reads_calls = widened (reader call call_is) refl refl

pub reads_caught : IsRight caught_part
unfolding same name_kinds member path more_exceptions exceptions caught
reads_caught = widened (reader caught caught_is) refl refl

pub reads_simple : IsRight simple_part
unfolding same name_kinds path simple.simple_words simple.closed_sql simple.closed_cursor simple.returned simple.raised simple.closed_condition simple.jump simple.last_argument simple.put_line simple.raise_error simple.assigned simple.new_assignment simple.assignment_or_call simple.named_statement simple.null simple.simple simple.condition simple.error_code new_column maybe_arguments
reads_simple = widened (reader simple.simple simple_is) refl refl

pub reads_declarations : IsRight declaration_part
unfolding same name_kinds declarations.exception_code declarations.exception_init declarations.pragma declarations.closed_query declarations.cursor declarations.closed_value declarations.variable declarations.declared declarations.declaration declarations.initial_value
reads_declarations = widened (reader declarations.declaration declaration_is) refl refl
