-- What an outcome leaves is what is read off the database after it.
use Rattle.std.specs.Prelude.{◌≡◌, ℕ, Bool, List}
use Rattle.ebr_base.specs.declared.numbers.SessionId.{SessionId}
use Rattle.ebr_base.specs.declared.row.TxId.{TxId}
use Rattle.ebr_database.specs.Base.{Base}
use Rattle.ebr_database.specs.Outcome.{Outcome}
use Rattle.ebr_database.specs.Transact.{Done, commit, roll_back, savepoint, back_to, push, pop}
use Rattle.ebr_database.specs.Database.{Database, base_in, after_outcome}

abbrev pub IsReadBack : Database → Outcome Base Done → Type 0
IsReadBack db o = base_in (after_outcome db o) ≡ o.state

-- So it is of each ask for transactions.
pub record AreReadBack (db : Database) : Type 0 where
  pub commit : (t : TxId) → IsReadBack db (commit t (base_in db))
  pub roll_back : (t : TxId) → IsReadBack db (roll_back t (base_in db))
  pub savepoint : (t : TxId) (name : List ℕ) → IsReadBack db (savepoint t name (base_in db))
  pub back_to : (t : TxId) (name : List ℕ) → IsReadBack db (back_to t name (base_in db))
  pub push : (s : SessionId) → IsReadBack db (push s (base_in db))
  pub pop : (s : SessionId) (failed : Bool) → IsReadBack db (pop s failed (base_in db))
