-- Rows that are taken one after the other.
use Rattle.std.specs.Prelude.{◌≡◌, true, false, List, [], ◌∷◌, ◌++◌, Bool, Some, Result, Ok, Err}
use Rattle.ebr_base.specs.declared.code.Stop.{Stop}
use Rattle.ebr_base.specs.declared.code.Stop.TheVariants.{Raised, NoMemory}
use Rattle.ebr_base.specs.declared.numbers.RowNo.{RowNo}
use Rattle.ebr_base.specs.declared.numbers.TableId.{TableId}
use Rattle.ebr_base.specs.declared.row.TxId.{TxId}
use Rattle.ebr_base.specs.declared.value.Value.{Value}
use Rattle.ebr_versions.specs.Keys.{row_in}
use Rattle.ebr_tx.specs.Data.{Data}
use Rattle.ebr_query.specs.Results.{keeps}
use Rattle.ebr_query.specs.Seen.{stored}
use Rattle.ebr_dml.specs.declared.plan.Plan.{Plan}
use Rattle.ebr_dml.specs.declared.taken.Taken.{Taken}
use Rattle.ebr_dml.specs.Rows.{values_at}

-- the row of a number
abbrev pub numbered_row : Data → TxId → TableId → RowNo → Taken
numbered_row d t table n = record { row = Some n; values = stored d t (row_in table n) }

-- the rows with one more behind them, or without it
abbrev pub with_taken : List Taken → Taken → Bool → List Taken
with_taken found r true = found ++ r ∷ []
with_taken found r false = found

-- what WHERE says of a row: whether it was put behind the others, or the code that it raises
abbrev pub Takes : Result (Unit {0}) Stop → Plan → List Value → Taken → List Taken → List Taken → Type 0
Takes (Ok done) p binds r before after = (takes : Bool) × (keeps p.filter binds (values_at p.source r.values) ≡ Ok takes) × (after ≡ with_taken before r takes)
Takes (Err (Raised code)) p binds r before after = keeps p.filter binds (values_at p.source r.values) ≡ Err code
Takes (Err NoMemory) p binds r before after = Unit {0}
