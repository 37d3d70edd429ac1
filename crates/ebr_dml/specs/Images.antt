-- The row before a change, and the row that it is to become: what triggers have as `:OLD` and `:NEW`.
-- Oracle Database SQL Language Reference 19c, INSERT and UPDATE; Oracle Database PL/SQL Language Reference 19c, Correlation
-- Names and Pseudorecords: `:OLD` is all NULL for an INSERT, and `:NEW` for a DELETE.
use Rattle.std.specs.Prelude.{ℕ, suc, List, [], ◌∷◌, slice_set, Result, Ok}
use Rattle.ebr_base.specs.declared.code.Code.{Code}
use Rattle.ebr_base.specs.declared.table.Column.{Column}
use Rattle.ebr_base.specs.declared.value.Value.{Value}
use Rattle.ebr_versions.specs.Keys.{value_at}
use Rattle.ebr_expr.specs.Evaluation.{Eval}
use Rattle.ebr_sqlcheck.specs.Checked.{on}
use Rattle.ebr_dml.specs.declared.plan.Plan.{Plan}
use Rattle.ebr_dml.specs.declared.plan.Setting.{Setting}
use Rattle.ebr_dml.specs.declared.plan.Work.{Work}
use Rattle.ebr_dml.specs.declared.plan.Work.TheVariants.{Set, Remove}
use Rattle.ebr_dml.specs.declared.taken.Taken.{Taken}
use Rattle.ebr_dml.specs.Rows.{values_at}

-- a value for each of these columns, the first of which has that place; NULL where the row has none
abbrev pub filled_from : List Column → ℕ → List Value → List Value
filled_from [] at values = []
filled_from (c ∷ columns) at values = value_at values at ∷ filled_from columns (suc at) values

-- A row with a value for each column of its table. A row without values is all NULL.
abbrev pub filled : List Column → List Value → List Value
filled columns values = filled_from columns 0 values

abbrev pub old_values : Plan → Taken → List Value
old_values p r = filled p.table.columns r.values

-- Each expression is computed from the row as it was seen, and put at its column's place of the new row; the first code that
-- one raises is the answer.
abbrev pub set_values : List Value → List Value → List Setting → List Value → Result (List Value) Code
set_values seen binds [] row = Ok row
set_values seen binds (s ∷ rest) row = on (λ v. set_values seen binds rest (slice_set row s.place v)) (Eval s.value seen binds)

abbrev pub worked : Work → Plan → List Value → Taken → Result (List Value) Code
worked (Set sets) p binds r = set_values (values_at p.source r.values) binds sets (old_values p r)
worked Remove p binds r = Ok (filled p.table.columns [])

-- What a row is to become, before its BEFORE triggers. What an INSERT leaves out is NULL, and what an UPDATE leaves out stays.
abbrev pub new_values : Plan → List Value → Taken → Result (List Value) Code
new_values p binds r = worked p.work p binds r

abbrev pub shown : Work → Plan → List Value → List Value
shown (Set sets) p new = new
shown Remove p new = filled p.table.columns []

-- what it has become, for AFTER triggers: what the BEFORE triggers left
abbrev pub after_values : Plan → List Value → List Value
after_values p new = shown p.work p new
