-- The tests of a commit that is to be loaded tell whether it is allowed.
use Rattle.std.proofs.Common.{◌≡◌, ◌≢◌, ℕ, zero, suc, ◌<◌, ◌≤◌, ◌⊎◌, ⊎_elim, Bool, true, false, not, cond, ◌&&◌, ◌||◌, ◌==◌, List, [], ◌∷◌, ◌++◌, Option, Some, None, length, option_map, refl, sym, ap, subst, ◌∙◌, arith, eqb}
use Rattle.std.specs.Prelude.{is_some, slice_get, IsTrue, ◌↔◌, nat_lt, nat_le}
use Rattle.std.specs.List.{list_any, AllByRecursion}
use Rattle.std.proofs.lemmas.Bool.{both_ways, false≢true, and_parts, and_from, or_cases, or_parts, false_from_ne_true, cases_lt, eqb-true, eqb-false, eq-eqb, lt-ltb, le-leb, ltb-true, leb-true, not-true}
use Rattle.std.proofs.lemmas.List.{length-map}
use Rattle.ebr_base.specs.declared.numbers.RowNo.{RowNo}
use Rattle.ebr_base.specs.declared.numbers.TableId.{TableId}
use Rattle.ebr_base.specs.declared.row.Change.{Change}
use Rattle.ebr_base.specs.declared.row.RowId.{RowId}
use Rattle.ebr_base.specs.declared.value.Value.{Value}
use Rattle.ebr_versions.specs.declared.index.Entry.{Entry}
use Rattle.ebr_versions.specs.declared.table.Table.{Table}
use Rattle.ebr_versions.specs.Data.{changes_in, changes_row, is_row, last_change, row_no, row_numbers, Latest}
use Rattle.ebr_versions.specs.Keys.{key_of, key_places, row_in, value_at, KeysDiffer}
use Rattle.ebr_versions.specs.inside.Print.{key_number}
use Rattle.ebr_versions.proofs.KeyLemmas.{is_row-true}
use Rattle.ebr_versions.proofs.LawLemmas.{changes_row_is}
use Rattle.ebr_changes.specs.Filed.{IsFiledAt, IsNoneFiledBefore}
use Rattle.ebr_tx.specs.Data.{Transaction, named_at, not_begun}
use Rattle.ebr_tx.specs.Reads.{over, row_at}
use Rattle.ebr_tx.specs.Limits.{max_changes}
use Rattle.ebr_tx.specs.Commits.{is_numbered, IsNumbered, row_behind, AreThere, IsAllowedOf}
use Rattle.ebr_tx.specs.Conflicts.{has_key, gives_key, another_has, is_another}
use Rattle.ebr_tx.specs.inside.Keys.{gives_at_last, own_has}
use Rattle.ebr_tx.specs.inside.Filed.{passes, passes_at, FindsKey}
use Rattle.ebr_tx.specs.inside.Sound.{key_with, IsFreeKey}
use Rattle.ebr_tx.specs.inside.Loading.{may_follow, all_follow, shares, shares_key, AreRowsOf}
use Rattle.ebr_tx.proofs.SameValues.{has_key-true}
use Rattle.ebr_tx.proofs.OtherRows.{any_one}
use Rattle.ebr_tx.proofs.FreeKeys.{latest_over}
use Rattle.ebr_tx.proofs.MayChange.{free_if_not_taken}
use Rattle.ebr_tx.proofs.KeyTests.{any_at, none_at, there, gives_last}

-- ---- rows that have a key by the last of some changes

module _ (t : TableId) (places : List ℕ) (key : List Value) (changes : List Change) (this : Option RowNo) where
  abbrev lasts : Change → Bool
  lasts = gives_at_last changes t this places key

  -- what gives the key at last gives it
  gives : (q : ℕ) → passes_at lasts changes q ≡ true → passes_at (gives_key t places key) changes q ≡ true
  gives q e =
      let x = there lasts (slice_get changes q) e in
      ap (passes (gives_key t places key)) x.1 ∙ (gives_last t places key changes this x.0 x.2).1

  pub some_last : (p : ℕ) → passes_at lasts changes p ≡ true → true ≡ own_has changes t this places key
  some_last p e = sym (any_at lasts changes p e)

  module _ (entries : List Entry) (filed : FindsKey t places key changes entries) (print end : ℕ) (is : print ≡ key_number key) (behind : (q : ℕ) → end ≤ q → passes_at lasts changes q ≡ false) where
    filed_at : (q : ℕ) → passes_at lasts changes q ≡ true → IsFiledAt entries t print q
    filed_at q e = subst (λ n. IsFiledAt entries t n q) (sym is) (filed q (gives q e))

    pub no_last : IsNoneFiledBefore entries t print end → false ≡ own_has changes t this places key
    no_last none = sym (none_at lasts changes (λ q. ⊎_elim
        (λ (a : q < end). false_from_ne_true (passes_at lasts changes q) (λ e. none q a (filed_at q e)))
        (λ (b : end ≤ q). behind q b) (cases_lt q end)))

-- ---- changes that follow one another

there_to : (o : Option (List Value)) (b : Bool) → (is_some o || b) ≡ true → o ≡ None → b ≡ true
there_to None b h e = h
there_to (Some v) b h e = cc

there_from : (o : Option (List Value)) (b : Bool) → (o ≡ None → b ≡ true) → (is_some o || b) ≡ true
there_from None b h = h refl
there_from (Some v) b h = refl

follow_to : (commits : List (List Change)) (before cs : List Change) → all_follow commits before cs ≡ true → AllByRecursion IsNumbered cs × AreThere commits before cs
follow_to commits before [] e = (tt, tt)
follow_to commits before (c ∷ cs) e =
    let parts = and_parts (may_follow commits before c) (all_follow commits (before ++ c ∷ []) cs) e in
    let here = and_parts (is_numbered c) (is_some c.values || is_some (row_behind commits before c.row)) parts.0 in
    let rest = follow_to commits (before ++ c ∷ []) cs parts.1 in
    ((here.0, rest.0), (there_to c.values (is_some (row_behind commits before c.row)) here.1, rest.1))

follow_from : (commits : List (List Change)) (before cs : List Change) → AllByRecursion IsNumbered cs → AreThere commits before cs → all_follow commits before cs ≡ true
follow_from commits before [] each are = refl
follow_from commits before (c ∷ cs) each are =
    and_from (may_follow commits before c) (all_follow commits (before ++ c ∷ []) cs)
    (and_from (is_numbered c) (is_some c.values || is_some (row_behind commits before c.row)) each.0
    (there_from c.values (is_some (row_behind commits before c.row)) are.0))
    (follow_from commits (before ++ c ∷ []) cs each.1 are.1)

-- ---- keys

none_in : (p : RowId → Bool) (rows : List RowId) (row : RowId) → list_any p rows ≡ false → list_any (λ x. is_row x row) rows ≡ true → p row ≡ false
none_in p [] row e h = absurd (false≢true h)
none_in p (x ∷ xs) row e h =
    let parts = or_parts (p x) (list_any p xs) e in
    ⊎_elim (λ (is : is_row x row ≡ true). ap p (sym (is_row-true x row is)) ∙ parts.0) (λ (rest : list_any (λ y. is_row y row) xs ≡ true). none_in p xs row parts.1 rest)
    (or_cases (is_row x row) (list_any (λ y. is_row y row) xs) h)

none_of : (p : RowId → Bool) (rows : List RowId) → ((row : RowId) → p row ≡ false) → list_any p rows ≡ false
none_of p [] each = refl
none_of p (x ∷ xs) each = let here : p x ≡ false = each x in rw here (none_of p xs each)

number_of : (r s : RowNo) → (r.0 ≡ s.0) → r ≡ s
number_of r s e = λ i. record { 0 = e i }

another_number : (r s : RowNo) → r ≢ s → is_another (Some s) r.0 ≡ true
another_number r s ne = by (eqb r.0 s.0) refl
  where
    by : (b : Bool) → eqb r.0 s.0 ≡ b → is_another (Some s) r.0 ≡ true
    by true e = absurd (ne (number_of r s (eqb-true r.0 s.0 e)))
    by false e = ap not e

no_another : (r s : RowNo) → s ≡ r → is_another (Some s) r.0 ≡ true → ⊥
no_another r s e h = both_ways (eqb r.0 s.0) (not-true (eqb r.0 s.0) h) (eq-eqb r.0 s.0 (ap (λ (x : RowNo). x.0) (sym e)))

valued_by : (places : List ℕ) (key : List Value) (o : Option (List Value)) → option_map (key_of places) o ≡ Some key → (v : List Value) × (o ≡ Some v)
valued_by places key None e = cc
valued_by places key (Some v) e = (v, refl)

some_same : (a b : List Value) → Some a ≡ Some b → a ≡ b
some_same a b e = cc

none_is : (o : Option Change) → false ≡ is_some o → o ≡ None
none_is None e = refl
none_is (Some c) e = cc

module _ (commits : List (List Change)) (tables : List Table) (changes : List Change) where
  abbrev Shares : RowId → Bool
  Shares row = shares_key commits tables changes row

  -- a transaction with these changes
  abbrev its : Transaction
  its = record (not_begun (named_at (record { 0 = 0 }) 0)) { changes = changes }

  abbrev others : RowId → List Value → Bool
  others row values =
      another_has row.table (Some row.row) (key_places tables row.table) (key_of (key_places tables row.table) values) (λ r. row_behind commits changes r) (row_numbers row.table (changes_in commits ++ changes))

  abbrev its_change : RowId → List Value → Change
  its_change row values = record { row = row; values = Some values }

  -- a key that no other row has is free
  free_of : (row : RowId) (values : List Value) → row_behind commits changes row ≡ Some values → Shares row ≡ false → IsFreeKey commits tables changes (its_change row values)
  free_of row values at none = by (length (key_places tables row.table) == 0) refl (ap (shares commits changes row (key_places tables row.table)) (sym at) ∙ none)
    where
      by : (b : Bool) → (length (key_places tables row.table) == 0) ≡ b → cond b false (others row values) ≡ false → IsFreeKey commits tables changes (its_change row values)
      by true e h = λ key r some gives_it other had.
          let same : key_of (key_places tables row.table) values ≡ key = some_same (key_of (key_places tables row.table) values) key gives_it in
          let as_many : length key ≡ length (key_places tables row.table) = ap length (sym same) ∙ length-map (key_places tables row.table) (value_at values) in
          let none : length (key_places tables row.table) ≡ 0 = eqb-true (length (key_places tables row.table)) 0 e in
          absurd (omega (arith, some, as_many, none))
      by false e h =
          free_if_not_taken commits tables [] (named_at (record { 0 = 0 }) 0) its row values (Some row.row) (λ r. another_number r row.row) h

  behind_it : (t : TableId) (a : RowNo) (key : List Value) → option_map (key_of (key_places tables t)) (Latest (commits ++ changes ∷ []) (row_in t a)) ≡ Some key → key_with commits tables changes (row_in t a) ≡ Some key
  behind_it t a key e = ap (option_map (key_of (key_places tables t))) (sym (latest_over commits changes (row_in t a))) ∙ e

  module _ (keys : KeysDiffer commits tables) (none : (row : RowId) → changes_row row changes ≡ true → Shares row ≡ false) where
    one : (t : TableId) (a b : RowNo) (key : List Value) → 0 < length key → changes_row (row_in t a) changes ≡ true
        → key_with commits tables changes (row_in t a) ≡ Some key → key_with commits tables changes (row_in t b) ≡ Some key → a ≡ b
    one t a b key some changed at_a at_b = by (eqb b.0 a.0) refl
      where
        by : (p : Bool) → eqb b.0 a.0 ≡ p → a ≡ b
        by true e = sym (number_of b a (eqb-true b.0 a.0 e))
        by false e =
            let v = valued_by (key_places tables t) key (row_behind commits changes (row_in t a)) at_a in
            let free : IsFreeKey commits tables changes (its_change (row_in t a) v.0) = free_of (row_in t a) v.0 v.1 (none (row_in t a) changed) in
            absurd (free key b some (ap (option_map (key_of (key_places tables t))) (sym v.1) ∙ at_a) (λ is. eqb-false b.0 a.0 e (ap (λ (x : RowNo). x.0) is)) at_b)

    untouched : (t : TableId) (a : RowNo) (key : List Value) → changes_row (row_in t a) changes ≡ false → key_with commits tables changes (row_in t a) ≡ Some key
        → option_map (key_of (key_places tables t)) (Latest commits (row_in t a)) ≡ Some key
    untouched t a key e at =
        let last : last_change (row_in t a) changes ≡ None = none_is (last_change (row_in t a) changes) (sym e ∙ changes_row_is (row_in t a) changes) in
        ap (λ o. option_map (key_of (key_places tables t)) (over o (Latest commits (row_in t a)))) (sym last) ∙ at

    pub differ_behind : KeysDiffer (commits ++ changes ∷ []) tables
    differ_behind t a b key some at_a at_b = by (changes_row (row_in t a) changes) (changes_row (row_in t b) changes) refl refl
      where
        h_a : key_with commits tables changes (row_in t a) ≡ Some key
        h_a = behind_it t a key at_a

        h_b : key_with commits tables changes (row_in t b) ≡ Some key
        h_b = behind_it t b key at_b

        by : (p q : Bool) → changes_row (row_in t a) changes ≡ p → changes_row (row_in t b) changes ≡ q → a ≡ b
        by true q e f = one t a b key some e h_a h_b
        by false true e f = sym (one t b a key some f h_b h_a)
        by false false e f = keys t a b key some (untouched t a key e h_a) (untouched t b key f h_b)

  abbrev places_of : RowId → List ℕ
  places_of row = key_places tables row.table

  -- where keys differ behind the changes, no row shares its key
  none_shares : KeysDiffer (commits ++ changes ∷ []) tables → (row : RowId) → Shares row ≡ false
  none_shares keys row = false_from_ne_true (Shares row) (λ e. by (row_behind commits changes row) refl e)
    where
      by : (o : Option (List Value)) → row_behind commits changes row ≡ o → shares commits changes row (key_places tables row.table) o ≡ true → ⊥
      by None is h = false≢true h
      by (Some values) is h = by2 (length (places_of row) == 0) refl h
        where
          by2 : (b : Bool) → (length (places_of row) == 0) ≡ b → cond b false (others row values) ≡ true → ⊥
          by2 true e k = false≢true k
          by2 false e k =
              let found = any_one (λ n. is_another (Some row.row) n && has_key (places_of row) (key_of (places_of row) values) (row_behind commits changes (row_at row.table n))) (row_numbers row.table (changes_in commits ++ changes)) k in
              let n : ℕ = found.0 in
              let parts = and_parts (is_another (Some row.row) n) (has_key (places_of row) (key_of (places_of row) values) (row_behind commits changes (row_at row.table n))) found.1 in
              let had : option_map (key_of (places_of row)) (row_behind commits changes (row_at row.table n)) ≡ Some (key_of (places_of row) values) =
              has_key-true (places_of row) (key_of (places_of row) values) (row_behind commits changes (row_at row.table n)) parts.1
              in
              let mine : option_map (key_of (places_of row)) (row_behind commits changes row) ≡ Some (key_of (places_of row) values) = ap (option_map (key_of (places_of row))) is in
              let some : length (places_of row) ≡ 0 → ⊥ = eqb-false (length (places_of row)) 0 e in
              let long : 0 < length (key_of (places_of row) values) = longer (length (places_of row)) (length (key_of (places_of row) values)) (length-map (places_of row) (value_at values)) some in
              let same : row.row ≡ row_no n =
              keys row.table row.row (row_no n) (key_of (places_of row) values) long
              (ap (option_map (key_of (places_of row))) (latest_over commits changes row) ∙ mine)
              (ap (option_map (key_of (places_of row))) (latest_over commits changes (row_at row.table n)) ∙ had)
              in
              no_another (row_no n) row.row same parts.0
            where
              longer : (m k : ℕ) → k ≡ m → (m ≡ 0 → ⊥) → 0 < k
              longer zero k e ne = absurd (ne refl)
              longer (suc m) k e ne = omega (arith, e)

  abbrev Size : Bool
  Size = nat_lt 0 (length changes) && nat_le (length changes) max_changes

  abbrev IsAllowed : Type 0
  IsAllowed = IsAllowedOf IsNumbered tables commits changes

  pub not_sized : Size ≡ false → IsTrue false ↔ IsAllowed
  not_sized e = (λ f. absurd (false≢true f), λ a. absurd (both_ways Size e (and_from (nat_lt 0 (length changes)) (nat_le (length changes) max_changes) (lt-ltb 0 (length changes) a.some) (le-leb (length changes) max_changes a.few))))

  pub not_following : all_follow commits [] changes ≡ false → IsTrue false ↔ IsAllowed
  not_following e = (λ f. absurd (false≢true f), λ a. absurd (both_ways (all_follow commits [] changes) e (follow_from commits [] changes a.each a.there)))

  pub allowed_if : Size ≡ true → all_follow commits [] changes ≡ true → KeysDiffer commits tables → (rows : List RowId) → AreRowsOf changes rows
      → (differ : Bool) → differ ≡ not (list_any Shares rows) → IsTrue differ ↔ IsAllowed
  allowed_if size follow keys rows of differ is = (
    λ t.
        let sized = and_parts (nat_lt 0 (length changes)) (nat_le (length changes) max_changes) size in
        let followed = follow_to commits [] changes follow in
        let none : list_any Shares rows ≡ false = not-true (list_any Shares rows) (sym is ∙ t) in
        record {
          some = ltb-true 0 (length changes) sized.0;
          few = leb-true (length changes) max_changes sized.1;
          each = followed.0;
          there = followed.1;
          keys = differ_behind keys (λ row changed. none_in Shares rows row none (of row ∙ changed));
        },
    λ a. is ∙ ap not (none_of Shares rows (none_shares a.keys)),
  )
