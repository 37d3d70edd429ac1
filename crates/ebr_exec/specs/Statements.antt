-- What a query answers, in the words that all statements are defined with.
-- Oracle Database SQL Language Reference 19c, SELECT. The codes of this server (EBR) are own.
use Rattle.std.specs.Prelude.{ℕ, Bool, true, not, nat_lt, List, [], ◌∷◌, sum_by, Result, Ok, Err}
use Rattle.ebr_base.specs.declared.code.Code.{Code}
use Rattle.ebr_base.specs.declared.code.Code.TheVariants.{Ebr}
use Rattle.ebr_base.specs.declared.value.Value.{Value}
use Rattle.ebr_ast.specs.declared.sql.SqlTree.{SqlTree}
use Rattle.ebr_asks.specs.declared.answer.Answer.{Answer}
use Rattle.ebr_asks.specs.declared.answer.Answer.TheVariants.{Rows, Refused}
use Rattle.ebr_sqlcheck.specs.Checked.{must, on}
use Rattle.ebr_tx.specs.Data.{Data}
use Rattle.ebr_query.specs.Queries.{Answered}
use Rattle.ebr_database.specs.Base.{Base, with_data}
use Rattle.ebr_database.specs.Carried.{row_weight}
use Rattle.ebr_database.specs.Outcome.{Outcome, gives}
use Rattle.ebr_exec.specs.Places.{Place, Under}

-- An answer, and the data then.
pub record Ran : Type 0 where
  pub answer : Answer
  pub data_after : Data

-- EBR-0011 where there is no room for the rows of a session's query; those of a body's query aren't carried
abbrev pub carries : List Under → ℕ → List (List Value) → Bool
carries [] room rows = not (nat_lt room (sum_by row_weight rows))
carries (u ∷ us) room rows = true

abbrev pub rows_given : Place → ℕ → Data → List (List Value) → Result Ran Code
rows_given p room d rows = on (λ u. Ok (record { answer = Rows rows; data_after = d })) (must (Ebr 11) (carries p.changing room rows))

abbrev pub query_ran : Place → ℕ → Answered → Result Ran Code
query_ran p room a = on (rows_given p room a.after) a.answer

-- ---- a statement

abbrev pub refused : Code → Answer
refused code = Refused code 0 []

-- A refused statement leaves all as it was before.
abbrev pub ended : Base → Result Ran Code → Outcome Base Answer
ended b (Ok r) = gives (with_data r.data_after b) r.answer
ended b (Err code) = gives b (refused code)

-- a statement, with its binds, the steps and the room that are left
abbrev pub Statements : Type 0
Statements = Place → SqlTree → List Value → ℕ → ℕ → Base → Outcome Base Answer

-- the levels of a session's statement
abbrev pub max_levels : ℕ
max_levels = 50
