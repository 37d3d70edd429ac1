-- A statement can go on after a step.
use Rattle.std.proofs.Common.{◌≡◌, ◌≢◌, ◌+◌, Bool, true, false, cond, ◌&&◌, ◌==◌, List, [], ◌∷◌, ◌++◌, Option, Some, None, Ok, is_some, refl, sym, ap, ◌∙◌, subst, arith, append-nil}
use Rattle.std.specs.Prelude.{filter, IfSome}
use Rattle.std.specs.List.{last_or, list_any}
use Rattle.std.proofs.lemmas.List.Elements.{filter-append}
use Rattle.ebr_base.specs.declared.code.Code.{Code}
use Rattle.ebr_base.specs.declared.numbers.RowNo.{RowNo}
use Rattle.ebr_base.specs.declared.numbers.TableId.{TableId}
use Rattle.ebr_base.specs.declared.row.Change.{Change}
use Rattle.ebr_base.specs.declared.row.RowId.{RowId}
use Rattle.ebr_base.specs.declared.row.TxId.{TxId}
use Rattle.ebr_base.specs.declared.value.Value.{Value}
use Rattle.ebr_versions.specs.Data.{is_of, is_row, last_change}
use Rattle.ebr_versions.specs.Keys.{row_in, is_added, key_places}
use Rattle.ebr_tx.specs.Data.{Data, IsLive, own}
use Rattle.ebr_tx.specs.Reads.{Sees, seen_by, over, committed}
use Rattle.ebr_tx.specs.Calls.{unless_refused, after_change, insertion, IsKnown}
use Rattle.ebr_locks.specs.Locks.{same_tx}
use Rattle.ebr_dml.specs.declared.plan.Plan.{Plan}
use Rattle.ebr_dml.specs.declared.plan.Work.{Work}
use Rattle.ebr_dml.specs.declared.plan.Work.TheVariants.{Set, Remove}
use Rattle.ebr_dml.specs.declared.taken.Taken.{Taken}
use Rattle.ebr_dml.specs.Tests.{first_code, insert_tests, update_tests, delete_tests, update, removal, tested, written_row, written_to, written}
use Rattle.ebr_dml.specs.Steps.{Stays, IsSeen, AreSeen}
use Rattle.ebr_dml.specs.inside.Apart.{FromAll}
use Rattle.ebr_dml.proofs.Writing.{own-change}

-- ---- a row that a change leaves alone

last-other : (row : RowId) (cs : List Change) (c : Change) → is_row c.row row ≡ false → last_change row (cs ++ c ∷ []) ≡ last_change row cs
last-other row cs c h =
    ap (last_or None)
    (filter-append (is_of row) cs (c ∷ [])
    ∙ ap (λ b. filter (is_of row) cs ++ cond b (c ∷ []) []) h
    ∙ append-nil (filter (is_of row) cs))

sees-other : (d : Data) (t : TxId) (c : Change) (row : RowId) → IsLive d t → is_row c.row row ≡ false → Sees (after_change d t c) t row ≡ Sees d t row
sees-other d t c row there h =
    ap (λ x. seen_by d.commits x row) (own-change d t c there)
    ∙ ap (λ o. over o (committed d.commits (own d t).begun row)) (last-other row (own d t).changes c h)

other-row : (table : TableId) (n m : RowNo) → Some m ≢ Some n → is_row (row_in table n) (row_in table m) ≡ false
other-row table n m h = by (n.0 == m.0) refl
  where
    by : (b : Bool) → (n.0 == m.0) ≡ b → is_row (row_in table n) (row_in table m) ≡ false
    by true e =
        let same : m.0 ≡ n.0 = grind (arith, e) in
        absurd (h (ap (λ k. Some (record { 0 = k })) same))
    by false e = ap (λ b. (table.0 == table.0) && b) e ∙ last (table.0 == table.0)
      where
        last : (b : Bool) → (b && false) ≡ false
        last true = refl
        last false = refl

-- the change is one of the row that has this number, if it has one
abbrev OfRow : TableId → Change → Option RowNo → Type 0
OfRow table c row = IfSome row (λ n. c.row ≡ row_in table n)

module _ (d : Data) (t : TxId) (c : Change) (table : TableId) (there : IsLive d t) where
  still : (n : RowNo) (o : Option RowNo) → c.row ≡ row_in table n → o ≢ Some n → IsSeen d t table o → IsSeen (after_change d t c) t table o
  still n None e h k = tt
  still n (Some m) e h k =
      ap is_some (sees-other d t c (row_in table m) there (ap (λ r. is_row r (row_in table m)) e ∙ other-row table n m h)) ∙ k

  others : (row : Option RowNo) (rest : List Taken) → OfRow table c row → FromAll row rest → AreSeen d t table rest → AreSeen (after_change d t c) t table rest
  others row [] o f k = tt
  others None (r ∷ rest) o f k = absurd f.0
  others (Some n) (r ∷ rest) o f k = (still n r.row o f.0 k.0, others (Some n) rest o f.1 k.1)

-- ---- the change of a row

-- data that a change of the row leaves
record AfterChange (d : Data) (t : TxId) (table : TableId) (row : Option RowNo) (after : Data) : Type 0 where
  change : Change
  is : after ≡ after_change d t change
  of : OfRow table change row

from-tested : (d after : Data) (t : TxId) (tests : List (Option Code)) (c : Change) → tested d t tests c ≡ Ok after → after ≡ after_change d t c
from-tested d after t tests c e = by (first_code tests) e
  where
    by : (o : Option Code) → unless_refused o (after_change d t c) ≡ Ok after → after ≡ after_change d t c
    by None h = cc
    by (Some code) h = cc

from-row : (d after : Data) (t : TxId) (p : Plan) (work : Work) (n : RowNo) (values : List Value) → written_row d t p.table work (row_in p.table.id n) values ≡ Ok after
    → AfterChange d t p.table.id (Some n) after
from-row d after t p (Set sets) n values e =
    let row = row_in p.table.id n in
    record { change = update row values; is = from-tested d after t (update_tests d t p.table row values) (update row values) e; of = refl }
from-row d after t p Remove n values e =
    let row = row_in p.table.id n in
    record { change = removal row; is = from-tested d after t (delete_tests d t row) (removal row) e; of = refl }

from-written : (d after : Data) (t : TxId) (p : Plan) (row : Option RowNo) (values : List Value) → written_to d t p row values ≡ Ok after → AfterChange d t p.table.id row after
from-written d after t p None values e =
    record { change = insertion d p.table.id values; is = from-tested d after t (insert_tests d t p.table values) (insertion d p.table.id values) e; of = tt }
from-written d after t p (Some n) values e = from-row d after t p p.work n values e

pub rest-seen : (d after : Data) (t : TxId) (p : Plan) (r : Taken) (rest : List Taken) (values : List Value) → IsLive d t → written d t p r values ≡ Ok after
    → FromAll r.row rest → AreSeen d t p.table.id rest → AreSeen after t p.table.id rest
rest-seen d after t p r rest values there e f k =
    let w = from-written d after t p r.row values e in
    subst (λ x. AreSeen x t p.table.id rest) (sym w.is) (others d t w.change p.table.id there r.row rest w.of f k)

-- ---- a statement after a step

-- the transaction is still there, with its beginning and its table
pub still-known : (d after : Data) (t : TxId) (p : Plan) → Stays d t after → IsKnown d p.table → IsKnown after p.table
still-known d after t p s k = record {
  added = ap (λ tables. is_added tables p.table.id) s.tables ∙ k.added;
  key = ap (λ tables. key_places tables p.table.id) s.tables ∙ k.key;
}

pub still-live : (d after : Data) (t : TxId) → Stays d t after → IsLive d t → IsLive after t
still-live d after t s h = ap (λ names. list_any (λ n. same_tx n t) names) s.names ∙ h
