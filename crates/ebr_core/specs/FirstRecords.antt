-- Records that are the first of others.
use Rattle.std.specs.Prelude.{◌≡◌, List, ◌++◌}
use Rattle.ebr_record.specs.declared.record.Record.{Record}

-- these records, and more
pub record Begins (records l : List Record) : Type 0 where
  pub more : List Record
  pub is : l ≡ records ++ more
