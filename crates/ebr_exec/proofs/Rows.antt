-- A change that is written adds to its transaction.
use Rattle.std.proofs.Common.{◌≡◌, List, Option, Some, None, Ok, Err, sym, ap}
use Rattle.std.specs.Prelude.{Result}
use Rattle.ebr_base.specs.declared.code.Code.{Code}
use Rattle.ebr_base.specs.declared.numbers.RowNo.{RowNo}
use Rattle.ebr_base.specs.declared.row.Change.{Change}
use Rattle.ebr_base.specs.declared.row.TxId.{TxId}
use Rattle.ebr_base.specs.declared.value.Value.{Value}
use Rattle.ebr_tx.specs.Data.{Data}
use Rattle.ebr_tx.specs.Calls.{unless_refused, after_change, insertion}
use Rattle.ebr_versions.specs.Keys.{row_in}
use Rattle.ebr_dml.specs.declared.plan.Plan.{Plan}
use Rattle.ebr_dml.specs.declared.plan.Work.{Work}
use Rattle.ebr_dml.specs.declared.plan.Work.TheVariants.{Set, Remove}
use Rattle.ebr_dml.specs.declared.taken.Taken.{Taken}
use Rattle.ebr_dml.specs.Tests.{first_code, insert_tests, update_tests, delete_tests, update, removal, tested, written, written_to}
use Rattle.ebr_exec.specs.Over.{Over}
use Rattle.ebr_exec.proofs.Undone.{over_change}

abbrev data_or : Data → Result Data Code → Data
data_or d (Ok x) = x
data_or d (Err code) = d

tested_over : (d d' : Data) (t : TxId) (tests : List (Option Code)) (c : Change) → tested d t tests c ≡ Ok d' → Over d t d'
tested_over d d' t tests c e = by (first_code tests) e
  where
    by : (code : Option Code) → unless_refused code (after_change d t c) ≡ Ok d' → Over d t d'
    by None e = over_change d d' t c (sym (ap (data_or d) e))
    by (Some code) e = cc

pub written_over : (d d' : Data) (t : TxId) (p : Plan) (r : Taken) (values : List Value) → written d t p r values ≡ Ok d' → Over d t d'
written_over d d' t p r values e = by r.row p.work e
  where
    by : (row : Option RowNo) (w : Work) → written_to d t (record p { work = w }) row values ≡ Ok d' → Over d t d'
    by None w e = tested_over d d' t (insert_tests d t p.table values) (insertion d p.table.id values) e
    by (Some n) (Set sets) e = tested_over d d' t (update_tests d t p.table (row_in p.table.id n) values) (update (row_in p.table.id n) values) e
    by (Some n) Remove e = tested_over d d' t (delete_tests d t (row_in p.table.id n)) (removal (row_in p.table.id n)) e
