-- One token is enough to choose by, in each production, and no form of another grammar stands in it.
use Rattle.std.proofs.Common.{refl}
use Rattle.ebr_grammar.specs.Kinds.{same, name_kinds, names_but}
use Rattle.ebr_grammar.proofs.Outside.{IsReadable}
use Rattle.ebr_ddlparse.specs.Base.{hints, one_name, one_name, more_names, names, closed_names}
use Rattle.ebr_ddlparse.specs.Types.{column_of, digits, unit, closed_unit, size, number_type, integer_type, varchar2_type, boolean_type, of_column, declared_type, type_goes_on}
use Rattle.ebr_ddlparse.specs.Tables.{constraint, constraints, column_rest, column, key_words, key_head, key, key_entry, column_entry}
use Rattle.ebr_ddlparse.specs.Views.{alias, item, more_items, items, selected, view_body, view_names, view_head, editioning_view}
use Rattle.ebr_ddlparse.specs.Definitions as whole
use Rattle.ebr_ddlparse.specs.Definitions.{column_goes_on, part_begins, part_goes_on, part_hints, parent, create_edition, more_entries, closed_items, create_table, create_view, create_object, create, default_edition, new_column, closed_column, added_column, alter_table, switch, alter_trigger, alter, drop_edition, drop_object, drop_package, dropped, definition}

pub type_is : IsReadable hints declared_type
unfolding same name_kinds names_but hints column_of digits unit closed_unit size number_type integer_type varchar2_type boolean_type of_column declared_type
type_is = record { clear = refl; full = refl; right = tt }

pub column_is : IsReadable hints column
unfolding same name_kinds names_but hints column_of digits unit closed_unit size number_type integer_type varchar2_type boolean_type of_column declared_type constraint constraints column_rest column
column_is = record { clear = refl; full = refl; right = tt }

pub column_entry_is : IsReadable hints column_entry
unfolding column_entry
column_entry_is = record { clear = column_is.clear; full = column_is.full; right = column_is.right }

pub key_entry_is : IsReadable hints key_entry
unfolding same name_kinds names_but hints one_name more_names names closed_names key_words key_head key key_entry
key_entry_is = record { clear = refl; full = refl; right = tt }

pub view_is : IsReadable hints editioning_view
unfolding same name_kinds names_but hints one_name more_names names closed_names alias item more_items items selected view_body view_names view_head editioning_view
view_is = record { clear = refl; full = refl; right = tt }

pub definition_is : IsReadable part_hints definition
unfolding same name_kinds names_but type_goes_on column_goes_on part_begins part_goes_on part_hints parent create_edition more_entries whole.items closed_items create_table create_view create_object create default_edition new_column closed_column added_column alter_table switch alter_trigger alter drop_edition drop_object drop_package dropped definition
definition_is = record { clear = refl; full = refl; right = tt }
