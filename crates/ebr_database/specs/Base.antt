-- What statements and asks for transactions stand on.
use Rattle.std.specs.Prelude.{ℕ}
use Rattle.ebr_tx.specs.Data.{Data}

-- the data with the transactions, and the bytes that the records take
pub record Base : Type 0 where
  pub data_now : Data
  pub used : ℕ

abbrev pub with_data : Data → Base → Base
with_data d b = record b { data_now = d }
