-- One token is enough to read a unit.
use Rattle.std.proofs.Common.{refl}
use Rattle.ebr_grammar.specs.Kinds.{same, name_kinds, names_but}
use Rattle.ebr_grammar.proofs.Outside.{IsReadable}
use Rattle.ebr_ddlparse.proofs.Parts.{reads_views}
use Rattle.ebr_simpleparse.specs.Simple.{simple_words}
use Rattle.ebr_stmtparse.specs.Statements.{statement_begins, statement_words}
use Rattle.ebr_stmtparse.proofs.Parts.{reads_declarations, reads_calls, reads_bodies, reads_blocks, reads_initials}
use Rattle.ebr_plparse.specs.Productions.{hints, is_or_as}
use Rattle.ebr_plparse.specs.Heads.{column_of, of_column, word_type, other_type, parameter_type, behind_out, behind_in, passing, parameter, more_parameters, parameters, closed_parameters, maybe_parameters, signature, procedure_head, function_head, head}
use Rattle.ebr_plparse.specs.Packages.{given_body, subprogram, unit_end, package_item, package_items, specification_rest, specification, declarations, subprograms, maybe_initial, body_members, closed_members, package_body, behind_body, any_package}
use Rattle.ebr_plparse.specs.Triggers.{timing, event, more_events, events, each_row, on_rows, event_clause, crossedition, enabled, trigger_options, action, trigger_rest, trigger}
use Rattle.ebr_plparse.specs.Units.{call, block, stored, text, create_stored, create_object, create, definition}

pub block_is : IsReadable hints block
unfolding same call block
block_is = record { clear = refl; full = refl; right = (reads_calls, (reads_blocks, tt)) }

pub text_is : IsReadable hints text
unfolding same name_kinds names_but hints simple_words statement_begins statement_words is_or_as column_of of_column word_type other_type parameter_type behind_out behind_in passing parameter more_parameters parameters closed_parameters maybe_parameters signature procedure_head function_head head given_body subprogram unit_end package_item package_items specification_rest specification declarations subprograms maybe_initial body_members closed_members package_body behind_body any_package timing event more_events events each_row on_rows event_clause crossedition enabled trigger_options action trigger_rest trigger stored call block text
text_is = record { clear = refl; full = refl; right = (reads_calls, (reads_blocks, (reads_bodies, (reads_declarations, (reads_declarations, (reads_bodies, (reads_initials, (reads_declarations, (reads_blocks, (reads_views, tt)))))))))) }

pub definition_is : IsReadable hints definition
unfolding same name_kinds names_but hints simple_words statement_begins statement_words is_or_as column_of of_column word_type other_type parameter_type behind_out behind_in passing parameter more_parameters parameters closed_parameters maybe_parameters signature procedure_head function_head head given_body subprogram unit_end package_item package_items specification_rest specification declarations subprograms maybe_initial body_members closed_members package_body behind_body any_package timing event more_events events each_row on_rows event_clause crossedition enabled trigger_options action trigger_rest trigger stored create_stored create_object create definition
definition_is = record { clear = refl; full = refl; right = (reads_bodies, (reads_declarations, (reads_declarations, (reads_bodies, (reads_initials, (reads_declarations, (reads_blocks, (reads_views, (reads_bodies, (reads_declarations, (reads_declarations, (reads_bodies, (reads_initials, (reads_declarations, (reads_blocks, (reads_views, tt)))))))))))))))) }
