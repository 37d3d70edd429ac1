-- The rows of a query, where there is room for them.
use Rattle.std.specs.Prelude.{◌≡◌, ℕ, List, Result, Ok, Err}
use Rattle.ebr_base.specs.declared.code.Code.{Code}
use Rattle.ebr_base.specs.declared.code.Code.TheVariants.{Ebr}
use Rattle.ebr_base.specs.declared.code.Stop.{Stop}
use Rattle.ebr_base.specs.declared.code.Stop.TheVariants.{Raised, NoMemory}
use Rattle.ebr_base.specs.declared.value.Value.{Value}
use Rattle.ebr_sqlcheck.specs.Checked.{must, on}
use Rattle.ebr_tx.specs.Data.{Data}
use Rattle.ebr_query.specs.Queries.{Answered}
use Rattle.ebr_exec.specs.Places.{Under}
use Rattle.ebr_exec.specs.Statements.{carries}

-- EBR-0011 where there is no room for them
abbrev pub rows_within : List Under → ℕ → List (List Value) → Result (List (List Value)) Code
rows_within changing room rows = on (λ u. Ok rows) (must (Ebr 11) (carries changing room rows))

-- the rows that are answered, with the data then, or the code
abbrev pub GivesRows : List Under → ℕ → Answered → Data → Result (List (List Value)) Stop → Type 0
GivesRows changing room a d (Ok rows) = (on (rows_within changing room) a.answer ≡ Ok rows) × (a.after ≡ d)
GivesRows changing room a d (Err (Raised code)) = on (rows_within changing room) a.answer ≡ Err code
GivesRows changing room a d (Err NoMemory) = Unit {0}
