-- A change of a row that no test refuses keeps the integrity of the data.
use Rattle.std.proofs.Common.{◌≡◌, ◌≢◌, ℕ, ◌+◌, Bool, true, false, cond, ◌&&◌, ◌||◌, List, [], ◌∷◌, Option, Some, None, Ok, Err, length, refl, sym, ap, subst, ◌∙◌, arith}
use Rattle.std.specs.Prelude.{Result, find, is_some, nat_le, nat_lt, not, unwrap_or}
use Rattle.std.specs.Option.{option_or}
use Rattle.std.proofs.lemmas.Bool.{and_from, and_parts, both_ways, or_parts}
use Rattle.std.proofs.lemmas.Bool.Decides.{nat_tests}
use Rattle.ebr_base.specs.declared.code.Code.{Code}
use Rattle.ebr_base.specs.declared.numbers.RowNo.{RowNo}
use Rattle.ebr_base.specs.declared.row.Change.{Change}
use Rattle.ebr_base.specs.declared.row.RowId.{RowId}
use Rattle.ebr_base.specs.declared.row.TxId.{TxId}
use Rattle.ebr_base.specs.declared.table.TableDef.{TableDef}
use Rattle.ebr_base.specs.declared.value.Value.{Value}
use Rattle.ebr_versions.specs.Data.{Latest, changed_since, changes_in, changes_row, last_change, values_by}
use Rattle.ebr_versions.specs.Keys.{is_added, row_in}
use Rattle.ebr_versions.proofs.KeyLemmas.{is_row-true, last_change-of}
use Rattle.ebr_versions.proofs.LawLemmas.{unchanged_rows_stay}
use Rattle.ebr_locks.specs.Locks.{holder_of}
use Rattle.ebr_locks.proofs.Taken.{tx-same}
use Rattle.ebr_tx.specs.Commits.{IsNumbered, is_numbered, row_behind}
use Rattle.ebr_tx.specs.Data.{Transaction, Data, IsLive, is_named, not_begun, own, some_other}
use Rattle.ebr_tx.specs.Reads.{Sees, committed, over}
use Rattle.ebr_tx.specs.Conflicts.{HeldBy, Late, changes_row_by, is_late, is_other, touch_refusal}
use Rattle.ebr_tx.specs.Calls.{after_change, change_refusal, changed_key_refusal, insert_refusal, insertion, new_key_refusal, new_number, unless_refused}
use Rattle.ebr_tx.specs.Limits.{is_full, limit_refusal, max_row}
use Rattle.ebr_tx.proofs.Allowed.{may_change, may_insert}
use Rattle.ebr_tables.specs.Tables.{has_id}
use Rattle.ebr_dml.specs.declared.plan.Plan.{Plan}
use Rattle.ebr_dml.specs.declared.plan.Work.{Work}
use Rattle.ebr_dml.specs.declared.plan.Work.TheVariants.{Set, Remove}
use Rattle.ebr_dml.specs.declared.taken.Taken.{Taken}
use Rattle.ebr_dml.specs.Steps.{IsSeen}
use Rattle.ebr_dml.specs.Tests.{change_limit, columns_refusal, delete_tests, first_code, insert_tests, new_row_limit, null_inserted, null_updated, removal, tested, update, update_tests, written, written_to}
use Rattle.ebr_integrity.specs.Commits.{IsSuitable, suits_table}
use Rattle.ebr_integrity.specs.Integrity.{IsIntactBy, changes_of}
use Rattle.ebr_integrity.proofs.DataLemmas.{intact_changed}
use Rattle.ebr_integrity.proofs.FitLemmas.{none_both, row_fits}
use Rattle.ebr_integrity.proofs.NumberLemmas.{new_row_apart}

pub suitable_numbered : (living : List TableDef) (c : Change) → IsSuitable living c → IsNumbered c
suitable_numbered living c h = (and_parts (is_numbered c) (suits_table (find (has_id c.row.table) living) c.values) h).0

-- ---- the tests

passed : (b : Bool) (code : Code) (rest : Option Code) → cond b (Some code) rest ≡ None → (b ≡ false) × (rest ≡ None)
passed true code rest e = cc
passed false code rest e = (refl, e)

not_limited : (full : Bool) → limit_refusal full ≡ None → full ≡ false
not_limited true e = cc
not_limited false e = refl

both_none : (a b : Option Code) → a ≡ None → b ≡ None → option_or a b ≡ None
both_none a b e h = ap (λ o. option_or o b) e ∙ h

one_up : (n : ℕ) → nat_le 1 (n + 1) ≡ true
one_up n = grind (arith, nat_tests)

at_most : (m n : ℕ) → nat_lt m n ≡ false → nat_le n m ≡ true
at_most m n e = grind (arith, nat_tests)

abbrev data_or : Data → Result Data Code → Data
data_or d (Ok x) = x
data_or d (Err code) = d

none_refused : (d d' : Data) (t : TxId) (tests : List (Option Code)) (c : Change) → tested d t tests c ≡ Ok d' → (first_code tests ≡ None) × (after_change d t c ≡ d')
none_refused d d' t tests c e = by (first_code tests) refl e
  where
    by : (o : Option Code) → first_code tests ≡ o → unless_refused o (after_change d t c) ≡ Ok d' → (first_code tests ≡ None) × (after_change d t c ≡ d')
    by None is h = (is, ap (data_or d) h)
    by (Some code) is h = absurd (no h)
      where
        no : Err code ≡ Ok d' → ⊥
        no k = cc

-- ---- a row that may be touched

-- a row that isn't late is as it was at the beginning
not_late : (commits : List (List Change)) (b : Option ℕ) (row : RowId) → is_late commits b row ≡ false → committed commits b row ≡ Latest commits row
not_late commits None row h = refl
not_late commits (Some n) row h = sym (unchanged_rows_stay commits row n (none (changed_since commits row n) h))
  where
    none : (o : Option ℕ) → is_some o ≡ false → o ≡ None
    none None e = refl
    none (Some m) e = absurd (both_ways true e refl)

-- no other transaction changes a row that is free
spared_by : (row : RowId) (t u : TxId) (live : List Transaction) → t ≢ u → some_other t (changes_row_by row) live ≡ false → changes_row row (changes_of live u) ≡ false
spared_by row t u [] ne none = refl
spared_by row t u (z ∷ zs) ne none =
    let parts = or_parts (not (is_named t z) && changes_row_by row z) (some_other t (changes_row_by row) zs) none in
    by (is_named u z) refl parts.0 (spared_by row t u zs ne parts.1)
  where
    by : (b : Bool) → is_named u z ≡ b → (not (is_named t z) && changes_row_by row z) ≡ false → changes_row row (changes_of zs u) ≡ false
        → changes_row row (unwrap_or (cond b (Some z) (find (is_named u) zs)) (not_begun u)).changes ≡ false
    by true is first rest = by2 (is_named t z) refl first
      where
        by2 : (b : Bool) → is_named t z ≡ b → (not b && changes_row_by row z) ≡ false → changes_row row z.changes ≡ false
        by2 true same n = absurd (ne (sym (tx-same z.id t same) ∙ tx-same z.id u is))
        by2 false same n = n
    by false is first rest = rest

abbrev HasNumber : RowId → Type 0
HasNumber row = (nat_le 1 row.row.0 && nat_le row.row.0 max_row) ≡ true

module _ (living : List TableDef) (d : Data) (t : TxId) (h : IsIntactBy (IsSuitable living) d) where
  sees_now : (row : RowId) → Late d t row ≡ false → Sees d t row ≡ row_behind d.commits (own d t).changes row
  sees_now row late = ap (over (last_change row (own d t).changes)) (not_late d.commits (own d t).begun row late)

  -- a row that is seen has a number that rows may have
  seen_number : (row : RowId) → Late d t row ≡ false → is_some (Sees d t row) ≡ true → HasNumber row
  seen_number row late seen = by (last_change row (own d t).changes) refl
    where
      there_now : is_some (row_behind d.commits (own d t).changes row) ≡ true
      there_now = sym (ap is_some (sees_now row late)) ∙ seen

      with_last : (o : Option Change) → last_change row (own d t).changes ≡ o → is_some (over o (Latest d.commits row)) ≡ true
      with_last o e = sym (ap (λ x. is_some (over x (Latest d.commits row))) e) ∙ there_now

      by : (o : Option Change) → last_change row (own d t).changes ≡ o → HasNumber row
      by (Some c) e =
          let facts = last_change-of (IsSuitable living) row (own d t).changes c (h.orderly.each t) e in
          subst HasNumber (is_row-true c.row row facts.1) (suitable_numbered living c facts.0)
      by None e = stored (last_change row (changes_in d.commits)) refl (with_last None e)
        where
          stored : (o : Option Change) → last_change row (changes_in d.commits) ≡ o → is_some (Latest d.commits row) ≡ true → HasNumber row
          stored (Some c) is k =
              let facts = last_change-of IsNumbered row (changes_in d.commits) c h.numbered is in
              subst HasNumber (is_row-true c.row row facts.1) facts.0
          stored None is k = absurd (both_ways (is_some (Latest d.commits row)) (ap (λ o. is_some (values_by o)) is) k)

  -- ---- the change

  module _ (p : Plan) (there : IsLive d t) (begun : is_some (own d t).begun ≡ true) (known : is_added d.tables p.table.id ≡ true) (lives : find (has_id p.table.id) living ≡ Some p.table) where
    suits : (values : Option (List Value)) → suits_table (Some p.table) values ≡ true → suits_table (find (has_id p.table.id) living) values ≡ true
    suits values fit = ap (λ o. suits_table o values) lives ∙ fit

    inserted : (values : List Value) (d' : Data) → length values ≡ length p.table.columns → tested d t (insert_tests d t p.table values) (insertion d p.table.id values) ≡ Ok d' → IsIntactBy (IsSuitable living) d'
    inserted values d' as_many e =
        let c : Change = insertion d p.table.id values in
        let done = none_refused d d' t (insert_tests d t p.table values) c e in
        let first = none_both (columns_refusal null_inserted p.table values) (option_or (new_key_refusal d t p.table.id None values) (option_or (new_row_limit d t p.table values) None)) done.0 in
        let second = none_both (new_key_refusal d t p.table.id None values) (option_or (new_row_limit d t p.table values) None) first.1 in
        let third = none_both (new_row_limit d t p.table values) None second.1 in
        let few = or_parts (nat_lt max_row (new_number d p.table.id)) (is_full (own d t).changes c) (not_limited (nat_lt max_row (new_number d p.table.id) || is_full (own d t).changes c) third.0) in
        let none : insert_refusal d t p.table.id values ≡ None = both_none (new_key_refusal d t p.table.id None values) (new_row_limit d t p.table values) second.0 third.0 in
        let number : is_numbered c ≡ true = and_from (nat_le 1 (new_number d p.table.id)) (nat_le (new_number d p.table.id) max_row) (one_up _) (at_most max_row (new_number d p.table.id) few.0) in
        let fine : IsSuitable living c = and_from (is_numbered c) (suits_table (find (has_id p.table.id) living) (Some values)) number (suits (Some values) (row_fits null_inserted p.table values as_many first.0)) in
        subst (IsIntactBy (IsSuitable living)) done.1
        (intact_changed (IsSuitable living) d h t c (may_insert d t there h.sound h.keys p.table.id values begun known none) fine (λ gone. absurd (no gone)) (λ u ne. new_row_apart d p.table.id u))
      where
        no : Some values ≡ None → ⊥
        no k = cc

    -- a row that may be touched
    module _ (row : RowId) (touch : touch_refusal d t row ≡ None) where
      free : (HeldBy d row t ≡ false) × (Late d t row ≡ false)
      free = let first = passed (HeldBy d row t) _ _ touch in (first.0, (passed (Late d t row) _ _ first.1).0)

      spared : (u : TxId) → t ≢ u → changes_row row (own d u).changes ≡ false
      spared u ne = spared_by row t u d.live ne (or_parts (is_other t (holder_of row d.locks)) (some_other t (changes_row_by row) d.live) free.0).1

    updated : (n : RowNo) (values : List Value) (d' : Data) → length values ≡ length p.table.columns → is_some (Sees d t (row_in p.table.id n)) ≡ true
        → tested d t (update_tests d t p.table (row_in p.table.id n) values) (update (row_in p.table.id n) values) ≡ Ok d' → IsIntactBy (IsSuitable living) d'
    updated n values d' as_many seen e =
        let row : RowId = row_in p.table.id n in
        let c : Change = update row values in
        let done = none_refused d d' t (update_tests d t p.table row values) c e in
        let first = none_both (touch_refusal d t row) (option_or (columns_refusal null_updated p.table values) (option_or (changed_key_refusal d t row values) (option_or (change_limit d t c) None))) done.0 in
        let second = none_both (columns_refusal null_updated p.table values) (option_or (changed_key_refusal d t row values) (option_or (change_limit d t c) None)) first.1 in
        let third = none_both (changed_key_refusal d t row values) (option_or (change_limit d t c) None) second.1 in
        let fourth = none_both (change_limit d t c) None third.1 in
        let none : change_refusal d t c ≡ None = both_none (touch_refusal d t row) (option_or (changed_key_refusal d t row values) (change_limit d t c)) first.0 (both_none (changed_key_refusal d t row values) (change_limit d t c) third.0 fourth.0) in
        let number : is_numbered c ≡ true = seen_number row (free row first.0).1 seen in
        let fine : IsSuitable living c = and_from (is_numbered c) (suits_table (find (has_id p.table.id) living) (Some values)) number (suits (Some values) (row_fits null_updated p.table values as_many second.0)) in
        subst (IsIntactBy (IsSuitable living)) done.1 (intact_changed (IsSuitable living) d h t c (may_change d t there h.sound h.keys c begun known none) fine (λ gone. absurd (no gone)) (spared row first.0))
      where
        no : Some values ≡ None → ⊥
        no k = cc

    removed : (n : RowNo) (d' : Data) → is_some (Sees d t (row_in p.table.id n)) ≡ true → tested d t (delete_tests d t (row_in p.table.id n)) (removal (row_in p.table.id n)) ≡ Ok d' → IsIntactBy (IsSuitable living) d'
    removed n d' seen e =
        let row : RowId = row_in p.table.id n in
        let c : Change = removal row in
        let done = none_refused d d' t (delete_tests d t row) c e in
        let first = none_both (touch_refusal d t row) (option_or (change_limit d t c) None) done.0 in
        let second = none_both (change_limit d t c) None first.1 in
        let none : change_refusal d t c ≡ None = both_none (touch_refusal d t row) (change_limit d t c) first.0 second.0 in
        let late : Late d t row ≡ false = (free row first.0).1 in
        let number : is_numbered c ≡ true = seen_number row late seen in
        let fine : IsSuitable living c = and_from (is_numbered c) (suits_table (find (has_id p.table.id) living) None) number (suits None refl) in
        subst (IsIntactBy (IsSuitable living)) done.1
        (intact_changed (IsSuitable living) d h t c (may_change d t there h.sound h.keys c begun known none) fine (λ gone. sym (ap is_some (sees_now row late)) ∙ seen) (spared row first.0))

    pub written_intact : (r : Taken) (values : List Value) (d' : Data) → length values ≡ length p.table.columns → IsSeen d t p.table.id r.row → written d t p r values ≡ Ok d' → IsIntactBy (IsSuitable living) d'
    written_intact r values d' as_many seen e = by r.row p.work seen e
      where
        by : (row : Option RowNo) (w : Work) → IsSeen d t p.table.id row → written_to d t (record p { work = w }) row values ≡ Ok d' → IsIntactBy (IsSuitable living) d'
        by None w seen e = inserted values d' as_many e
        by (Some n) (Set sets) seen e = updated n values d' as_many seen e
        by (Some n) Remove seen e = removed n d' seen e
