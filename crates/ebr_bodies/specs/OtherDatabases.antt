-- Databases that differ in their catalogues alone, and in how many bytes their records take.
use Rattle.std.specs.Prelude.{◌≡◌}
use Rattle.std.specs.List.{filter_map}
use Rattle.ebr_database.specs.Database.{Database, Replied, commit_in, tables_from}

-- The sessions, their transactions and locks, the commits, and which tables were ever made are the same.
pub record DifferInCatalogue (db other : Database) : Type 0 where
  pub sessions : other.sessions ≡ db.sessions
  pub live : other.live ≡ db.live
  pub locks : other.locks ≡ db.locks
  pub commits : filter_map commit_in other.records ≡ filter_map commit_in db.records
  pub tables : tables_from 0 other.records ≡ tables_from 0 db.records

-- The second reply has the same answer, made the same records, and leaves a database that differs in its catalogue alone.
pub record RepliesSame (r other : Replied) : Type 0 where
  pub answer : other.answer ≡ r.answer
  pub records : other.records ≡ r.records
  pub leaves : DifferInCatalogue r.database other.database
