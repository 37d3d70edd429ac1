-- What a statement's call promises of other worlds: definitions in other editions can't alter its answer but through its
-- crossedition triggers.
use Rattle.std.specs.Prelude.{◌≡◌, ℕ, List, Result, Ok, Err}
use Rattle.ebr_base.specs.declared.value.Value.{Value}
use Rattle.ebr_ast.specs.declared.sql.SqlTree.{SqlTree}
use Rattle.ebr_asks.specs.declared.answer.Answer.{Answer}
use Rattle.ebr_tx.specs.Data.{Data}
use Rattle.ebr_record.specs.declared.record.Record.{Record}
use Rattle.ebr_database.specs.Base.{Base}
use Rattle.ebr_database.specs.Outcome.{Outcome}
use Rattle.ebr_database.specs.declared.failure.Halt.{Halt}
use Rattle.ebr_exec.specs.Places.{Names, Place}
use Rattle.ebr_bodies.specs.Agree.{Agree, NeverFull}
use Rattle.ebr_bodies.specs.Statements.{Stmt}

-- the same data where the records take so many bytes
abbrev pub at_used : ℕ → Base → Base
at_used used b = record b { used = used }

-- The outcome has this answer, leaves these data and made these records.
pub record Ends (o : Outcome Base Answer) (a : Answer) (now : Data) (made : List Record) : Type 0 where
  pub answer : o.value ≡ a
  pub leaves : o.state.data_now ≡ now
  pub records : o.made ≡ made

-- Where EBR-0042 arises in neither run, the second ends as the first has.
abbrev pub EndsAlike : Outcome Base Answer → Answer → Data → Outcome Base Answer → Type 0
EndsAlike o a now other = NeverFull o.asked → NeverFull other.asked → Ends other a now o.made

-- What a statement answered, and the data that it left, are the same with every catalogue that agrees with this one for the
-- statement, however many bytes the records take.
abbrev pub IsApart : Names → ℕ → Place → SqlTree → List Value → ℕ → ℕ → Base → Result Answer Halt → Data → Type 0
IsApart names levels p s binds left room b (Err why) now = Unit {0}
IsApart names levels p s binds left room b (Ok a) now = (other : Names) (used : ℕ) → Agree names other p s (Stmt names levels p s binds left room b).asked
    → EndsAlike (Stmt names levels p s binds left room b) a now (Stmt other levels p s binds left room (at_used used b))
