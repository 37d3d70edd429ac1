-- What is kept of a session's exchanges.
use Rattle.std.specs.Prelude.{ℕ, ◌+◌, ◌-◌, ◌≤◌, List, length, slice_get, Option}
use Rattle.ebr_asks.specs.declared.entry.Exchange.{Exchange}

pub record Kept : Type 0 where
  pub exchanges : List Exchange
  pub room : ℕ

-- There is room for so many more.
unfoldable pub HasRoom : ℕ → Kept → Type 0
HasRoom n t = length t.exchanges + n ≤ t.room

abbrev pub last_of : List Exchange → Option Exchange
last_of mine = slice_get mine (length mine - 1)
