-- Inside a body.
use Rattle.std.specs.Prelude.{ℕ}
use Rattle.ebr_base.specs.declared.row.TxId.{TxId}
use Rattle.ebr_tx.specs.Data.{Data}
use Rattle.ebr_levels.specs.Keeps.{UnderChange}
use Rattle.ebr_levels.specs.Levels.{Inside}

-- So many autonomous transactions are open above this one.
abbrev pub IsOpen : UnderChange → TxId → ℕ → Data → Type 0
IsOpen under t n d = (before : Data) × Inside before t under n d

-- whatever is under change
abbrev pub IsOpened : TxId → ℕ → Data → Type 0
IsOpened t n d = (under : UnderChange) × IsOpen under t n d

-- From wherever the body began, so many were open, and so many are now.
abbrev pub Stays : UnderChange → TxId → ℕ → Data → ℕ → Data → Type 0
Stays under t n d m d' = (before : Data) → Inside before t under n d → Inside before t under m d'
