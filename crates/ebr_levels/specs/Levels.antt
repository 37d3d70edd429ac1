-- A transaction on top of its session's stack, and what is left of it: by a statement, and inside a body, which may open autonomous
-- transactions above it (Oracle Database PL/SQL Language Reference 19c, Autonomous Transactions).
use Rattle.std.specs.Prelude.{◌≡◌, ℕ, zero, suc, ◌+◌, List, [], ◌∷◌, ◌++◌}
use Rattle.ebr_base.specs.declared.row.TxId.{TxId}
use Rattle.ebr_tx.specs.Data.{Data, names_of, stack_of, named_at}
use Rattle.ebr_seats.specs.Seats.{stack_to}
use Rattle.ebr_levels.specs.Keeps.{AreEarly, UnderChange, Keeps, Spares}

-- The transaction is on top of its session's stack, at its depth; and no transaction began later than now.
pub record IsTop (d : Data) (t : TxId) : Type 0 where
  pub stack : stack_of (names_of d.live) t.session ≡ stack_to t.session t.depth
  pub early : AreEarly d

-- What a statement in the transaction leaves, and what the bodies of its triggers leave when they have ended: the same transactions
-- are live.
pub record Leaves (before : Data) (t : TxId) (under : UnderChange) (now : Data) : Type 0 where
  pub names : names_of now.live ≡ names_of before.live
  pub keeps : Keeps before t under now

-- What a statement in the transaction leaves that went back to its beginning: the same transactions are live, and all are as they were.
-- What autonomous transactions committed stays.
pub record GoesBack (before : Data) (t : TxId) (now : Data) : Type 0 where
  pub names : names_of now.live ≡ names_of before.live
  pub spares : Spares before t now

-- the autonomous transaction so many levels above; the transaction itself at none
abbrev pub above : TxId → ℕ → TxId
above t n = named_at t.session (t.depth + n)

-- the autonomous transactions of so many levels above
abbrev pub opened : TxId → ℕ → List TxId
opened t zero = []
opened t (suc n) = opened t n ++ above t (suc n) ∷ []

-- Inside a body of a statement in the transaction, which was on top: so many autonomous transactions are open above it, behind all
-- others.
pub record Inside (before : Data) (t : TxId) (under : UnderChange) (n : ℕ) (now : Data) : Type 0 where
  pub first : IsTop before t
  pub names : names_of now.live ≡ names_of before.live ++ opened t n
  pub keeps : Keeps before t under now
