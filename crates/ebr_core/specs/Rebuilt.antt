-- The database of the records of another one.
use Rattle.std.specs.Prelude.{◌≡◌, ℕ}
use Rattle.ebr_database.specs.Database.{Database, data_of}
use Rattle.ebr_core.specs.Machine.{Build, lists_of}

-- It has the catalogue of that one, so each edition sees the same in it; and its tables and commits, so each row has the same last value.
pub record IsRebuilt (db : Database) (sessions : ℕ) : Type 0 where
  pub catalogue : lists_of (Build db.records sessions) ≡ lists_of db
  pub tables : (data_of (Build db.records sessions)).tables ≡ (data_of db).tables
  pub commits : (data_of (Build db.records sessions)).commits ≡ (data_of db).commits
