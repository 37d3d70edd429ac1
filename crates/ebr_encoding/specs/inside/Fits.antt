-- What has a spelling.
use Rattle.std.specs.Prelude.{◌<◌, ◌≤◌, ◌^◌, List, length, IfSome}
use Rattle.std.specs.List.{All}
use Rattle.ebr_base.specs.declared.row.Change.{Change}
use Rattle.ebr_base.specs.declared.value.Value.{Value}
use Rattle.ebr_record.specs.Payload.{IsStored, max_payload, value_bytes}

abbrev pub FitsValue : Value → Type 0
FitsValue v = IsStored v × (length (value_bytes v) ≤ max_payload)

abbrev pub FitsValues : List Value → Type 0
FitsValues values = (length values < 2 ^ 16) × All FitsValue values

abbrev pub FitsChange : Change → Type 0
FitsChange c = IfSome c.values FitsValues

abbrev pub FitsChanges : List Change → Type 0
FitsChanges changes = (length changes < 2 ^ 32) × All FitsChange changes
