-- No transaction of a database began later than now, and none had at the mark of a call that is open.
use Rattle.std.specs.Prelude.{ℕ, length, IfSome}
use Rattle.ebr_database.specs.Database.{Session, Database, data_of, session_at}
use Rattle.ebr_levels.specs.Keeps.{AreEarly, IsEarly}

-- where a call is open, its transaction had begun at no more commits than so many
abbrev pub HasEarlyCall : ℕ → Session → Type 0
HasEarlyCall count x = IfSome x.call (λ m. IsEarly m.begun count)

pub record HasEarly (db : Database) : Type 0 where
  pub early : AreEarly (data_of db)
  pub marks : (n : ℕ) → IfSome (session_at db.sessions n) (HasEarlyCall (length (data_of db).commits))
