-- A change that nothing refuses takes a free key.
use Rattle.std.proofs.Common.{◌≡◌, ◌≢◌, ℕ, ◌<◌, inl, inr, ⊎_elim, Bool, true, false, not, cond, ◌&&◌, ◌||◌, List, [], ◌∷◌, Option, Some, None, length, refl, sym, ap, subst, ◌∙◌, eqb}
use Rattle.std.specs.Prelude.{find, is_some, option_map}
use Rattle.std.specs.List.{list_any}
use Rattle.std.proofs.lemmas.Bool.{both_ways, true≢false, and_parts, and_from, or_parts, eq-eqb}
use Rattle.std.proofs.lemmas.Option.{same_Some}
use Rattle.ebr_base.specs.declared.numbers.RowNo.{RowNo}
use Rattle.ebr_base.specs.declared.row.Change.{Change}
use Rattle.ebr_base.specs.declared.row.RowId.{RowId}
use Rattle.ebr_base.specs.declared.row.TxId.{TxId}
use Rattle.ebr_base.specs.declared.value.Value.{Value}
use Rattle.ebr_versions.specs.declared.table.Table.{Table}
use Rattle.ebr_versions.specs.Data.{is_in, is_table, last_change, changes_row, changed_since, Latest}
use Rattle.ebr_versions.specs.Keys.{key_of, key_places, row_in, KeysDiffer}
use Rattle.ebr_versions.proofs.LawLemmas.{unchanged_rows_stay}
use Rattle.ebr_locks.proofs.Taken.{tx-same}
use Rattle.ebr_tx.specs.Data.{Transaction, is_named, some_other}
use Rattle.ebr_tx.specs.Reads.{over, committed, seen_by, row_at, numbers_by}
use Rattle.ebr_tx.specs.Conflicts.{has_key, gives_key, gives_key_by, another_has, is_another, changes_row_by, is_late}
use Rattle.ebr_tx.specs.inside.Keys.{own_has, has_untouched, committed_has}
use Rattle.ebr_tx.specs.inside.Sound.{Among, key_by, key_with, IsFreeKey, GiveOtherKeys, IsSound}
use Rattle.ebr_tx.proofs.SameValues.{has_key-true, true-has_key}
use Rattle.ebr_tx.proofs.OtherRows.{another_is, each_passes, committed_among}
use Rattle.ebr_tx.proofs.FreeKeys.{last_is, own_keys_differ, free_at}

-- no transaction but one passes, so one that is found by another name doesn't
none_other : (t u : TxId) (p : Transaction → Bool) (live : List Transaction) (y : Transaction) → t ≢ u → find (is_named u) live ≡ Some y → some_other t p live ≡ false → p y ≡ false
none_other t u p [] y ne e none = cc
none_other t u p (z ∷ zs) y ne e none =
    let parts = or_parts (not (is_named t z) && p z) (some_other t p zs) none in
    by (is_named u z) refl e parts.0 (λ h. none_other t u p zs y ne h parts.1)
  where
    by : (b : Bool) → is_named u z ≡ b → cond b (Some z) (find (is_named u) zs) ≡ Some y → (not (is_named t z) && p z) ≡ false → (find (is_named u) zs ≡ Some y → p y ≡ false) → p y ≡ false
    by true is h none rest = ap p (sym (same_Some z y h)) ∙ by2 (is_named t z) refl none
      where
        by2 : (b : Bool) → is_named t z ≡ b → (not b && p z) ≡ false → p z ≡ false
        by2 true same n = absurd (ne (sym (tx-same z.id t same) ∙ tx-same z.id u is))
        by2 false same n = n
    by false is h none rest = rest h

none_among : (p : Change → Bool) (cs : List Change) (c : Change) → list_any p cs ≡ false → Among cs c → p c ≡ false
none_among p [] c none a = absurd a
none_among p (d ∷ ds) c none (inl e) = ap p (sym e) ∙ (or_parts (p d) (list_any p ds) none).0
none_among p (d ∷ ds) c none (inr a) = none_among p ds c (or_parts (p d) (list_any p ds) none).1 a

-- The test of keys was passed.
module _ (commits : List (List Change)) (tables : List Table) (live : List Transaction) (t : TxId) (x : Transaction) (row : RowId) (values : List Value) where
  abbrev places : List ℕ
  places = key_places tables row.table

  abbrev key : List Value
  key = key_of places values

  abbrev change : Change
  change = record { row = row; values = Some values }

  its_key : (k : List Value) → key_by tables change ≡ Some k → k ≡ key
  its_key k e = sym (same_Some key k e)

  -- no other transaction gives the key
  pub others_give_other : some_other t (gives_key_by row.table places key) live ≡ false
      → (u : TxId) (y : Transaction) → t ≢ u → find (is_named u) live ≡ Some y → (e : Change) → Among y.changes e → GiveOtherKeys tables change e
  others_give_other none u y ne found e a same k some of_c of_e =
      let fails : gives_key row.table places key e ≡ false = none_among (gives_key row.table places key) y.changes e (none_other t u (gives_key_by row.table places key) live y ne found none) a in
      let inside : is_in row.table e ≡ true = ap (λ r. is_table r row.table) (sym same) ∙ eq-eqb row.table.0 row.table.0 refl in
      let has : has_key places key e.values ≡ true =
      true-has_key places key e.values (ap (λ r. option_map (key_of (key_places tables r)) e.values) same ∙ of_e ∙ ap Some (its_key k of_c))
      in
      both_ways (gives_key row.table places key e) fails (and_from (is_in row.table e) (has_key places key e.values) inside has)

  -- no other row has the key
  pub free_if_not_taken : (this : Option RowNo) → ((r : RowNo) → r ≢ row.row → is_another this r.0 ≡ true)
      → another_has row.table this places key (λ r. over (last_change r x.changes) (Latest commits r)) (numbers_by commits x row.table) ≡ false → IsFreeKey commits tables x.changes change
  free_if_not_taken this apart none k r some of_c other at =
      let parts = or_parts (own_has x.changes row.table this places key) (committed_has commits x.changes row.table this places key (Latest commits)) (sym (another_is commits x.changes row.table this places key (Latest commits)) ∙ none) in
      let has : has_key places key (over (last_change (row_in row.table r) x.changes) (Latest commits (row_in row.table r))) ≡ true =
      true-has_key places key (over (last_change (row_in row.table r) x.changes) (Latest commits (row_in row.table r))) (at ∙ ap Some (its_key k of_c))
      in
      let different : is_another this r.0 ≡ true = apart r other in
      ⊎_elim
      (λ (h : own_has x.changes row.table this places key ≡ true). both_ways (own_has x.changes row.table this places key) parts.0 h)
      (λ (h : has_untouched x.changes row.table this places key (Latest commits) r.0 ≡ true).
      both_ways (committed_has commits x.changes row.table this places key (Latest commits)) parts.1
      (committed_among commits places key (has_untouched x.changes row.table this places key (Latest commits)) row.table r.0 h
      (and_parts (not (changes_row (row_at row.table r.0) x.changes)) (has_key places key (Latest commits (row_at row.table r.0)))
      (and_parts (is_another this r.0) (not (changes_row (row_at row.table r.0) x.changes) && has_key places key (Latest commits (row_at row.table r.0))) h).1).1))
      (each_passes commits x.changes row.table this places key (Latest commits) r.0
      (and_from (is_another this r.0) (has_key places key (over (last_change (row_in row.table r) x.changes) (Latest commits (row_in row.table r)))) different has))

  -- The row has the key as the transaction sees it, and may be touched: so it has it by now.
  pub has_it_now : is_late commits x.begun row ≡ false → has_key places key (seen_by commits x row) ≡ true → key_with commits tables x.changes row ≡ Some key
  has_it_now late has = by (last_change row x.changes) refl
    where
      seen : option_map (key_of places) (over (last_change row x.changes) (committed commits x.begun row)) ≡ Some key
      seen = has_key-true places key (seen_by commits x row) has

      now : (b : Option ℕ) → is_late commits b row ≡ false → committed commits b row ≡ Latest commits row
      now None h = refl
      now (Some n) h = sym (unchanged_rows_stay commits row n (none (changed_since commits row n) h))
        where
          none : (o : Option ℕ) → is_some o ≡ false → o ≡ None
          none None e = refl
          none (Some m) e = absurd (true≢false e)

      by : (o : Option Change) → last_change row x.changes ≡ o → option_map (key_of places) (over (last_change row x.changes) (Latest commits row)) ≡ Some key
      by (Some c) e = ap (λ l. option_map (key_of places) (over l (Latest commits row))) e ∙ ap (λ l. option_map (key_of places) (over l (committed commits x.begun row))) (sym e) ∙ seen
      by None e = ap (λ o. option_map (key_of places) (over (last_change row x.changes) o)) (sym (now x.begun late)) ∙ seen

  module _ (sound : IsSound commits tables live) (found : find (is_named t) live ≡ Some x) (has : key_with commits tables x.changes row ≡ Some key) where
    -- so no other row has it
    pub free_if_kept : KeysDiffer commits tables → IsFreeKey commits tables x.changes change
    free_if_kept keys k r some of_c other at =
        let long : 0 < length key = subst (λ ks. 0 < length ks) (its_key k of_c) some in
        other (own_keys_differ commits tables x.changes keys (sound.free t x found) row.table r row.row key long (at ∙ ap Some (its_key k of_c)) has)

    -- and no other transaction gives it
    pub others_if_kept : some_other t (changes_row_by row) live ≡ false
        → (u : TxId) (y : Transaction) → t ≢ u → find (is_named u) live ≡ Some y → (e : Change) → Among y.changes e → GiveOtherKeys tables change e
    others_if_kept held u y ne found_y e a same k some of_c of_e = by (last_change row x.changes) refl
      where
        untouched : changes_row row y.changes ≡ false
        untouched = none_other t u (changes_row_by row) live y ne found_y held

        by : (o : Option Change) → last_change row x.changes ≡ o → ⊥
        by (Some c) is =
            let it = last_is row x.changes c is in
            let its : key_by tables c ≡ Some key =
            ap (λ (r : RowId). option_map (key_of (key_places tables r.table)) c.values) it.1
            ∙ ap (λ l. option_map (key_of places) (over l (Latest commits row))) (sym is) ∙ has
            in
            sound.apart t u x y ne found found_y c e it.0 a (ap (λ (r : RowId). r.table) it.1 ∙ same) k some (its ∙ ap Some (sym (its_key k of_c))) of_e
        by None is =
            let free = free_at commits tables [] y.changes e (sound.free u y found_y) a in
            let pre : List Change = free.0 in
            let still : last_change row pre ≡ None = free.2 row refl untouched in
            let at : key_with commits tables pre row ≡ Some k =
            ap (λ l. option_map (key_of places) (over l (Latest commits row))) (still ∙ sym is) ∙ has ∙ ap Some (sym (its_key k of_c))
            in
            free.1 k row.row some of_e other (ap (λ r. key_with commits tables pre (row_in r row.row)) (sym same) ∙ at)
          where
            other : row.row ≢ e.row.row
            other is_row = changed_there (ap (λ r. let q : RowId = record { table = r; row = row.row } in q) same ∙ ap (λ r. let q : RowId = record { table = e.row.table; row = r } in q) is_row)
              where
                changed_there : row ≡ e.row → ⊥
                changed_there r = both_ways (changes_row row y.changes) untouched (ap (λ q. changes_row q y.changes) r ∙ member y.changes a)
                  where
                    member : (cs : List Change) → Among cs e → changes_row e.row cs ≡ true
                    member [] b = absurd b
                    member (d ∷ ds) (inl i) = ap (λ (z : Change). (is_table z.row.table e.row.table && eqb z.row.row.0 e.row.row.0) || changes_row e.row ds) i ∙ here
                      where
                        here : ((is_table e.row.table e.row.table && eqb e.row.row.0 e.row.row.0) || changes_row e.row ds) ≡ true
                        here = rw (eq-eqb e.row.table.0 e.row.table.0 refl, eq-eqb e.row.row.0 e.row.row.0 refl) refl
                    member (d ∷ ds) (inr b) = rest (is_table d.row.table e.row.table && eqb d.row.row.0 e.row.row.0) (member ds b)
                      where
                        rest : (p : Bool) → changes_row e.row ds ≡ true → (p || changes_row e.row ds) ≡ true
                        rest true h = refl
                        rest false h = h
