-- What transactions have changed can be spelled in a record: the values of table rows fit their columns, so none is a BOOLEAN,
-- and a table has at most 64 columns.
use Rattle.std.specs.Prelude.{IfSome}
use Rattle.std.specs.List.{AllByRecursion}
use Rattle.ebr_base.specs.declared.row.Change.{Change}
use Rattle.ebr_record.specs.Payload.{AreValues}
use Rattle.ebr_tx.specs.Data.{Transaction, Data}

abbrev pub IsStorable : Change → Type 0
IsStorable c = IfSome c.values AreValues

abbrev pub IsStorableBy : Transaction → Type 0
IsStorableBy x = AllByRecursion IsStorable x.changes

-- So it is of every live transaction, at all times.
abbrev pub AllStorable : Data → Type 0
AllStorable d = AllByRecursion IsStorableBy d.live
