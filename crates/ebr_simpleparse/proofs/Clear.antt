-- One token is enough to choose by, and the forms of other grammars are read right.
use Rattle.std.proofs.Common.{refl}
use Rattle.ebr_grammar.specs.Kinds.{same, name_kinds}
use Rattle.ebr_grammar.proofs.Outside.{IsReadable}
use Rattle.ebr_exprparse.specs.Expressions.{begins, goes_on}
use Rattle.ebr_ddlparse.specs.Types.{type_goes_on}
use Rattle.ebr_exprparse.proofs.Whole.{reads_expressions}
use Rattle.ebr_sqlparse.specs.Statements as sql
use Rattle.ebr_sqlparse.proofs.Parts.{reads_lists, reads_rests, reads_queries, reads_inserts, reads_updates, reads_deletes, reads_transactions}
use Rattle.ebr_simpleparse.specs.Productions.{part_begins, part_goes_on, hints}
use Rattle.ebr_simpleparse.specs.Paths.{member, path, more_expressions, expressions, arguments, maybe_arguments, call, new_column, target, more_targets, targets, more_exceptions, exceptions, caught}
use Rattle.ebr_simpleparse.specs.Simple as simple
use Rattle.ebr_simpleparse.specs.Declarations as declarations
use Rattle.ebr_simpleparse.specs.Headings.{rows_from, rows, high_bound, range}

pub call_is : IsReadable hints call
unfolding same name_kinds begins goes_on part_begins part_goes_on hints member path more_expressions expressions arguments maybe_arguments call
call_is = record { clear = refl; full = refl; right = (reads_expressions, (reads_expressions, tt)) }

pub caught_is : IsReadable hints caught
unfolding same name_kinds member path more_exceptions exceptions caught
caught_is = record { clear = refl; full = refl; right = tt }

pub simple_is : IsReadable hints simple.simple
unfolding same name_kinds begins goes_on hints member path more_expressions expressions arguments maybe_arguments new_column target more_targets targets sql.alias sql.item_alias sql.item sql.more_items sql.items sql.select_list sql.source sql.more_sources sql.sources sql.filter sql.direction sql.key sql.more_keys sql.keys sql.order sql.for_update sql.query_tail sql.query_rest sql.more_names sql.names sql.columns sql.more_exprs sql.exprs sql.values sql.insert sql.target sql.assignment sql.more_assignments sql.assignments sql.update_rest sql.update sql.delete sql.back sql.transaction simple.from_sources simple.into_targets simple.select_into simple.sql simple.closed_sql simple.fetch simple.cursor simple.closed_cursor simple.returned simple.raised simple.condition simple.closed_condition simple.jump simple.last_argument simple.put_line simple.error_code simple.raise_error simple.assigned simple.new_assignment simple.assignment_or_call simple.named_statement simple.null simple.simple
simple_is = record { clear = refl; full = refl; right = (reads_lists, (reads_rests, (reads_inserts, (reads_updates, (reads_deletes, (reads_transactions, (reads_expressions, (reads_expressions, (reads_expressions, (reads_expressions, (reads_expressions, (reads_expressions, (reads_expressions, (reads_expressions, (reads_expressions, tt))))))))))))))) }

pub declaration_is : IsReadable hints declarations.declaration
unfolding same name_kinds begins goes_on type_goes_on part_begins part_goes_on hints sql.alias sql.item_alias sql.item sql.more_items sql.items sql.select_list sql.source sql.more_sources sql.sources sql.filter sql.direction sql.key sql.more_keys sql.keys sql.order sql.for_update sql.query_tail sql.query_rest sql.query declarations.exception_code declarations.exception_init declarations.pragma declarations.closed_query declarations.cursor declarations.initial_value declarations.closed_value declarations.variable declarations.declared declarations.declaration
declaration_is = record { clear = refl; full = refl; right = (reads_queries, (reads_expressions, (reads_expressions, tt))) }

pub rows_is : IsReadable hints rows
unfolding same name_kinds begins goes_on hints sql.alias sql.item_alias sql.item sql.more_items sql.items sql.select_list sql.source sql.more_sources sql.sources sql.filter sql.direction sql.key sql.more_keys sql.keys sql.order sql.for_update sql.query_tail sql.query_rest sql.query rows_from rows
rows_is = record { clear = refl; full = refl; right = (reads_queries, tt) }

pub range_is : IsReadable hints range
unfolding same name_kinds begins goes_on part_begins part_goes_on hints high_bound range
range_is = record { clear = refl; full = refl; right = (reads_expressions, tt) }
