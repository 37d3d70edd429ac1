-- A session's statement in databases that differ in their catalogues, which agree for it.
use Rattle.std.proofs.Common.{ℕ, List}
use Rattle.ebr_base.specs.declared.numbers.EditionNo.{EditionNo}
use Rattle.ebr_base.specs.declared.numbers.SessionId.{SessionId}
use Rattle.ebr_base.specs.declared.value.Value.{Value}
use Rattle.ebr_ast.specs.declared.sql.SqlTree.{SqlTree}
use Rattle.ebr_asks.specs.declared.answer.Answer.{Answer}
use Rattle.ebr_tx.specs.Data.{Data}
use Rattle.ebr_tx.specs.Calls.{top}
use Rattle.ebr_database.specs.Base.{Base}
use Rattle.ebr_database.specs.Database.{Database, data_of, base_in}
use Rattle.ebr_database.specs.Outcome.{Outcome}
use Rattle.ebr_exec.specs.Places.{Names, own_place}
use Rattle.ebr_bodies.specs.Agree.{NeverFull, Agree}
use Rattle.ebr_bodies.specs.OtherDatabases.{DifferInCatalogue}
use Rattle.ebr_bodies.specs.OtherWorlds.{at_used}
use Rattle.ebr_bodies.specs.Statements.{Stmt}
use Rattle.ebr_bodies.proofs.Apart.{Same}
use Rattle.ebr_bodies.proofs.ApartReplies.{step_same}
use Rattle.ebr_bodies.proofs.ApartStatements.{stmt_apart}

module _ (db other : Database) (same : DifferInCatalogue db other) (s : SessionId) (e : EditionNo) (q : SqlTree) (binds : List Value) (levels left room : ℕ) where
  -- in the transaction on top of the session's stack
  abbrev pub statement_in : Names → Data → Base → Outcome Base Answer
  statement_in names d b = Stmt names levels (own_place e (top d s)) q binds left room b

  -- `after_same` then says that it leaves databases that differ in their catalogues alone.
  pub statement_same : (m n : Names) → Agree m n (own_place e (top (data_of db) s)) q (statement_in m (data_of db) (base_in db)).asked
      → NeverFull (statement_in m (data_of db) (base_in db)).asked → NeverFull (statement_in n (data_of other) (base_in other)).asked
      → Same at_used (statement_in m (data_of db) (base_in db)) (statement_in n (data_of other) (base_in other))
  statement_same m n agree never never' =
      step_same db other same m n (statement_in m) (statement_in n) (λ b u. stmt_apart m n levels (own_place e (top (data_of db) s)) agree.view q agree.applied binds left room b u) agree.triggers never never'
