-- Reading a definition is right.
use Rattle.ebr_grammar.specs.Reading.{first}
use Rattle.ebr_grammar.specs.Choice.{after}
use Rattle.ebr_grammar.proofs.Right.{IsReader}
use Rattle.ebr_grammar.proofs.Outside.{reader_over}
use Rattle.ebr_ddlparse.specs.Definitions.{Part, a_type, a_column, an_entry, a_view, SpellsPart, part_reader, part_begins, part_goes_on, part_hints, definition, reads_by, SpellsDefinition}
use Rattle.ebr_ddlparse.proofs.Clear.{definition_is}
use Rattle.ebr_ddlparse.proofs.Parts.{reads_types, reads_columns, reads_entries, reads_views}

reads_parts : (part : Part) → IsReader (part_hints.begins part) (part_hints.goes_on part) (SpellsPart part) (part_reader part)
unfolding part_hints part_begins part_goes_on
reads_parts a_type = reads_types
reads_parts a_column = reads_columns
reads_parts an_entry = reads_entries
reads_parts a_view = reads_views

pub reads_definitions : IsReader (first part_hints definition) (after part_hints definition) SpellsDefinition (reads_by definition)
reads_definitions = reader_over part_hints SpellsPart part_reader reads_parts definition definition_is
