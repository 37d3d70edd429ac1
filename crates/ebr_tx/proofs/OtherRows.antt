-- "Another row has the key", in two parts: the rows that a transaction changed, and the committed ones that it left alone.
use Rattle.std.proofs.Common.{◌≡◌, ℕ, ◌⊎◌, inl, inr, ⊎_elim, Bool, true, false, not, cond, ◌&&◌, ◌||◌, List, [], ◌∷◌, ◌++◌, Option, Some, None, map, refl, sym, ap, subst, ◌∙◌, eqb}
use Rattle.std.specs.Prelude.{All, filter, option_map, is_some}
use Rattle.std.specs.List.{list_any}
use Rattle.std.proofs.lemmas.Bool.{both_ways, true≢false, and_parts, and_from, or_cases, or_left, or_right, not-true, eqb-true, eq-eqb}
use Rattle.std.proofs.lemmas.Bool.Decides.{same_from_decides}
use Rattle.std.proofs.lemmas.Option.{same_Some}
use Rattle.std.proofs.lemmas.List.{map-append, take-append-drop}
use Rattle.std.proofs.lemmas.List.Concat.{flat_map-append}
use Rattle.std.specs.Prelude.{take, drop}
use Rattle.std.proofs.lemmas.List.Elements.{filter-append, recursion_from_All}
use Rattle.std.proofs.lemmas.List.Folds.{list_any-append, list_any_at}
use Rattle.ebr_base.specs.declared.numbers.TableId.{TableId}
use Rattle.ebr_base.specs.declared.numbers.RowNo.{RowNo}
use Rattle.ebr_base.specs.declared.row.RowId.{RowId}
use Rattle.ebr_base.specs.declared.row.Change.{Change}
use Rattle.ebr_base.specs.declared.value.Value.{Value}
use Rattle.ebr_versions.specs.declared.table.Table.{Table}
use Rattle.ebr_versions.specs.Data.{is_of, is_in, is_row, is_table, last_change, values_by, changes_row, changes_in, row_numbers, row_no, Latest, At}
use Rattle.ebr_versions.specs.Keys.{key_of, key_places, row_in, HasKey}
use Rattle.ebr_versions.proofs.LawLemmas.{changes_row_is}
use Rattle.ebr_versions.proofs.KeyLemmas.{is_row-true, last_change-of}
use Rattle.ebr_tx.specs.Reads.{row_at, over}
use Rattle.ebr_tx.specs.Conflicts.{has_key, gives_key, another_has, is_another}
use Rattle.ebr_tx.specs.inside.Keys.{gives_at_last, own_has, has_untouched, committed_has}
use Rattle.ebr_tx.proofs.SameValues.{has_key-true, true-has_key}

-- two answers that follow from one another are one
pub same_bool : (a b : Bool) → (a ≡ true → b ≡ true) → (b ≡ true → a ≡ true) → a ≡ b
same_bool a b to from = same_from_decides a b (to, from) (λ e. e, λ e. e)

-- some element passes, and here is one
pub any_one : {X : Type 0} (p : X → Bool) (xs : List X) → list_any p xs ≡ true → (x : X) × (p x ≡ true)
any_one p [] e = absurd (true≢false (sym e))
any_one p (x ∷ xs) e =
    ⊎_elim (λ (h : p x ≡ true). (x, h)) (λ (h : list_any p xs ≡ true). any_one p xs h) (or_cases (p x) (list_any p xs) e)

is_row-itself : (row : RowId) → is_row row row ≡ true
is_row-itself row = and_from (is_table row.table row.table) (eqb row.row.0 row.row.0) (eq-eqb row.table.0 row.table.0 refl) (eq-eqb row.row.0 row.row.0 refl)

-- a row that some change is of is among the rows of its table
pub among_numbers : (p : ℕ → Bool) (table : TableId) (n : ℕ) (changes : List Change) → p n ≡ true → changes_row (row_at table n) changes ≡ true
    → list_any p (row_numbers table changes) ≡ true
among_numbers p table n [] passes e = absurd (true≢false (sym e))
among_numbers p table n (c ∷ cs) passes e = by (is_in table c) refl (among_numbers p table n cs passes) (or_cases (is_of (row_at table n) c) (changes_row (row_at table n) cs) e)
  where
    by : (b : Bool) → is_in table c ≡ b → (changes_row (row_at table n) cs ≡ true → list_any p (row_numbers table cs) ≡ true)
        → ((is_of (row_at table n) c ≡ true) ⊎ (changes_row (row_at table n) cs ≡ true))
        → list_any p (map (λ (d : Change). d.row.row.0) (cond b (c ∷ filter (is_in table) cs) (filter (is_in table) cs))) ≡ true
    by true is rest (inl here) =
        let parts = and_parts (is_table c.row.table table) (eqb c.row.row.0 n) here in
        let same : c.row.row.0 ≡ n = eqb-true c.row.row.0 n parts.1 in
        or_left (p c.row.row.0) (list_any p (row_numbers table cs)) (ap p same ∙ passes)
    by true is rest (inr there) = or_right (p c.row.row.0) (list_any p (row_numbers table cs)) (rest there)
    by false is rest (inl here) = absurd (both_ways (is_in table c) is (and_parts (is_table c.row.table table) (eqb c.row.row.0 n) here).0)
    by false is rest (inr there) = rest there

-- the same of a row that has a last change
pub last_among : (p : ℕ → Bool) (table : TableId) (n : ℕ) (changes : List Change) (c : Change) → p n ≡ true → last_change (row_at table n) changes ≡ Some c
    → list_any p (row_numbers table changes) ≡ true
last_among p table n changes c passes e = among_numbers p table n changes passes (changes_row_is (row_at table n) changes ∙ ap is_some e)

-- a row that has values is one that some commit changed
pub valued : (places : List ℕ) (key : List Value) (o : Option Change) → has_key places key (values_by o) ≡ true → (c : Change) × (o ≡ Some c)
valued places key None e = absurd (true≢false (sym e))
valued places key (Some c) e = (c, refl)

pub committed_among : (commits : List (List Change)) (places : List ℕ) (key : List Value) (p : ℕ → Bool) (table : TableId) (n : ℕ) → p n ≡ true
    → has_key places key (Latest commits (row_at table n)) ≡ true → list_any p (row_numbers table (changes_in commits)) ≡ true
committed_among commits places key p table n passes e =
    let last = valued places key (last_change (row_at table n) (changes_in commits)) e in
    last_among p table n (changes_in commits) last.0 passes last.1

abbrev no_row : Option RowNo
no_row = None

-- `find_key` tells whether an untouched row has the key
module _ (commits : List (List Change)) (tables : List Table) (own : List Change) (table : TableId) (this : Option RowNo) (places : List ℕ) (key : List Value)
    (same : key_places tables table ≡ places) where
  abbrev untouched : ℕ → Bool
  untouched = has_untouched own table this places key (Latest commits)

  has : (r : RowNo) → HasKey commits tables table r key → has_key places key (Latest commits (row_in table r)) ≡ true
  has r h = true-has_key places key (Latest commits (row_in table r)) (subst (λ ps. option_map (key_of ps) (Latest commits (row_in table r)) ≡ Some key) same h)

  has_back : (n : ℕ) → has_key places key (Latest commits (row_at table n)) ≡ true → HasKey commits tables table (row_no n) key
  has_back n h = subst (λ ps. option_map (key_of ps) (Latest commits (row_at table n)) ≡ Some key) (sym same) (has_key-true places key (Latest commits (row_at table n)) h)

  pub last_has_found : (r : RowNo) → HasKey commits tables table r key → ((s : RowNo) → HasKey commits tables table s key → Some r ≡ Some s)
      → (is_another this r.0 && not (changes_row (row_in table r) own)) ≡ committed_has commits own table this places key (Latest commits)
  last_has_found r h only = same_bool (is_another this r.0 && not (changes_row (row_in table r) own)) (committed_has commits own table this places key (Latest commits)) to from
    where
      to : (is_another this r.0 && not (changes_row (row_in table r) own)) ≡ true → committed_has commits own table this places key (Latest commits) ≡ true
      to e =
          let parts = and_parts (is_another this r.0) (not (changes_row (row_in table r) own)) e in
          committed_among commits places key untouched table r.0
          (and_from (is_another this r.0) (not (changes_row (row_in table r) own) && has_key places key (Latest commits (row_in table r))) parts.0
          (and_from (not (changes_row (row_in table r) own)) (has_key places key (Latest commits (row_in table r))) parts.1 (has r h)))
          (has r h)

      from : committed_has commits own table this places key (Latest commits) ≡ true → (is_another this r.0 && not (changes_row (row_in table r) own)) ≡ true
      from e =
          let one = any_one untouched (row_numbers table (changes_in commits)) e in
          let n : ℕ = one.0 in
          let outer = and_parts (is_another this n) (not (changes_row (row_at table n) own) && has_key places key (Latest commits (row_at table n))) one.1 in
          let inner = and_parts (not (changes_row (row_at table n) own)) (has_key places key (Latest commits (row_at table n))) outer.1 in
          let is : r ≡ row_no n = same_Some r (row_no n) (only (row_no n) (has_back n inner.1)) in
          subst (λ (s : RowNo). (is_another this s.0 && not (changes_row (row_in table s) own)) ≡ true) (sym is)
          (and_from (is_another this n) (not (changes_row (row_at table n) own)) outer.0 inner.0)

  pub last_has_none : ((s : RowNo) → HasKey commits tables table s key → no_row ≡ Some s) → false ≡ committed_has commits own table this places key (Latest commits)
  last_has_none only = same_bool false (committed_has commits own table this places key (Latest commits)) (λ e. absurd (true≢false (sym e))) from
    where
      none_some : (s : RowNo) → no_row ≡ Some s → ⊥
      none_some s e = cc

      from : committed_has commits own table this places key (Latest commits) ≡ true → false ≡ true
      from e =
          let one = any_one untouched (row_numbers table (changes_in commits)) e in
          let n : ℕ = one.0 in
          let outer = and_parts (is_another this n) (not (changes_row (row_at table n) own) && has_key places key (Latest commits (row_at table n))) one.1 in
          let inner = and_parts (not (changes_row (row_at table n) own)) (has_key places key (Latest commits (row_at table n))) outer.1 in
          absurd (none_some (row_no n) (only (row_no n) (has_back n inner.1)))

-- one of some changes passes, and here it is
any_change : (p : Change → Bool) (changes : List Change) → list_any p changes ≡ true → (c : Change) × (p c ≡ true) × (changes_row c.row changes ≡ true)
any_change p [] e = absurd (true≢false (sym e))
any_change p (c ∷ cs) e =
    ⊎_elim (λ (h : p c ≡ true). (c, h, or_left (is_of c.row c) (changes_row c.row cs) (is_row-itself c.row)))
    (λ (h : list_any p cs ≡ true). let d = any_change p cs h in (d.0, d.1, or_right (is_of d.0.row c) (changes_row d.0.row cs) d.2))
    (or_cases (p c) (list_any p cs) e)

numbers_any : (q : ℕ → Bool) (table : TableId) (changes : List Change) → list_any q (row_numbers table changes) ≡ list_any (λ (c : Change). is_in table c && q c.row.row.0) changes
numbers_any q table [] = refl
numbers_any q table (c ∷ cs) = by (is_in table c) (numbers_any q table cs)
  where
    by : (b : Bool) → list_any q (row_numbers table cs) ≡ list_any (λ (d : Change). is_in table d && q d.row.row.0) cs
        → list_any q (map (λ (d : Change). d.row.row.0) (cond b (c ∷ filter (is_in table) cs) (filter (is_in table) cs)))
        ≡ ((b && q c.row.row.0) || list_any (λ (d : Change). is_in table d && q d.row.row.0) cs)
    by true rest = ap (λ x. q c.row.row.0 || x) rest
    by false rest = rest

any_weaker : (p q : ℕ → Bool) → ((n : ℕ) → p n ≡ true → q n ≡ true) → (ns : List ℕ) → list_any p ns ≡ true → list_any q ns ≡ true
any_weaker p q each [] e = e
any_weaker p q each (n ∷ ns) e =
    ⊎_elim (λ (h : p n ≡ true). or_left (q n) (list_any q ns) (each n h)) (λ (h : list_any p ns ≡ true). or_right (q n) (list_any q ns) (any_weaker p q each ns h))
    (or_cases (p n) (list_any p ns) e)

any_either : (b : Bool) (p q : ℕ → Bool) → ((n : ℕ) → p n ≡ true → (b ≡ true) ⊎ (q n ≡ true)) → (ns : List ℕ) → list_any p ns ≡ true → (b ≡ true) ⊎ (list_any q ns ≡ true)
any_either b p q each [] e = absurd (true≢false (sym e))
any_either b p q each (n ∷ ns) e =
    ⊎_elim
    (λ (h : p n ≡ true). ⊎_elim (λ (k : b ≡ true). inl k) (λ (k : q n ≡ true). inr (or_left (q n) (list_any q ns) k)) (each n h))
    (λ (h : list_any p ns ≡ true). ⊎_elim (λ (k : b ≡ true). inl k) (λ (k : list_any q ns ≡ true). inr (or_right (q n) (list_any q ns) k)) (any_either b p q each ns h))
    (or_cases (p n) (list_any p ns) e)

-- the last change of a row is one of the changes
last_in : (p : Change → Bool) (row : RowId) (changes : List Change) (c : Change) → last_change row changes ≡ Some c → (is_of row c ≡ true → p c ≡ true) → list_any p changes ≡ true
last_in p row changes c e passes =
    let each : All (λ (d : Change). p d ≡ true → list_any p changes ≡ true) changes = λ k d h. list_any_at p changes k d h in
    let facts = last_change-of (λ (d : Change). p d ≡ true → list_any p changes ≡ true) row changes c (recursion_from_All (λ (d : Change). p d ≡ true → list_any p changes ≡ true) changes each) e in
    facts.0 (passes facts.1)

row_numbers-append : (table : TableId) (xs ys : List Change) → row_numbers table (xs ++ ys) ≡ row_numbers table xs ++ row_numbers table ys
row_numbers-append table xs ys =
    ap (map (λ (c : Change). c.row.row.0)) (filter-append (is_in table) xs ys) ∙ map-append (λ (c : Change). c.row.row.0) (filter (is_in table) xs) (filter (is_in table) ys)

module _ (commits : List (List Change)) (own : List Change) (table : TableId) (this : Option RowNo) (places : List ℕ) (key : List Value) (base : RowId → Option (List Value)) where
  abbrev kept : RowId → Option (List Value)
  kept r = over (last_change r own) (base r)

  abbrev passes : ℕ → Bool
  passes n = is_another this n && has_key places key (kept (row_at table n))

  abbrev lasts : Change → Bool
  lasts c = gives_at_last own table this places key c

  -- where a row that has the key was changed, a last change gives it
  by_own : (n : ℕ) (c : Change) → last_change (row_at table n) own ≡ Some c → passes n ≡ true → own_has own table this places key ≡ true
  by_own n c e h =
      last_in lasts (row_at table n) own c e
      (λ of.
      let same : c.row ≡ row_at table n = is_row-true c.row (row_at table n) of in
      let parts = and_parts (is_another this n) (has_key places key (kept (row_at table n))) h in
      let other : is_another this c.row.row.0 ≡ true = ap (λ (r : RowId). is_another this r.row.0) same ∙ parts.0 in
      let inside : is_in table c ≡ true = ap (λ (r : RowId). is_table r.table table) same ∙ eq-eqb table.0 table.0 refl in
      let gives : has_key places key c.values ≡ true = ap (λ (o : Option Change). has_key places key (over o (base (row_at table n)))) (sym e) ∙ parts.1 in
      let now : has_key places key (values_by (last_change c.row own)) ≡ true =
      ap (λ (r : RowId). has_key places key (values_by (last_change r own))) same ∙ ap (λ (o : Option Change). has_key places key (values_by o)) e ∙ gives
      in
      and_from (is_another this c.row.row.0) (gives_key table places key c && has_key places key (values_by (last_change c.row own))) other
      (and_from (gives_key table places key c) (has_key places key (values_by (last_change c.row own)))
      (and_from (is_in table c) (has_key places key c.values) inside gives) now))

  abbrev untouched_has : ℕ → Bool
  untouched_has n = has_untouched own table this places key base n

  pub each_passes : (n : ℕ) → passes n ≡ true → (own_has own table this places key ≡ true) ⊎ (untouched_has n ≡ true)
  each_passes n h = by (last_change (row_at table n) own) refl
    where
      by : (o : Option Change) → last_change (row_at table n) own ≡ o → (own_has own table this places key ≡ true) ⊎ (untouched_has n ≡ true)
      by (Some c) e = inl (by_own n c e h)
      by None e =
          let parts = and_parts (is_another this n) (has_key places key (kept (row_at table n))) h in
          let free : not (changes_row (row_at table n) own) ≡ true = ap not (changes_row_is (row_at table n) own ∙ ap is_some e) in
          let still : has_key places key (base (row_at table n)) ≡ true = ap (λ (o : Option Change). has_key places key (over o (base (row_at table n)))) (sym e) ∙ parts.1 in
          inr (and_from (is_another this n) (not (changes_row (row_at table n) own) && has_key places key (base (row_at table n))) parts.0
          (and_from (not (changes_row (row_at table n) own)) (has_key places key (base (row_at table n))) free still))

  untouched_passes : (n : ℕ) → untouched_has n ≡ true → passes n ≡ true
  untouched_passes n h =
      let outer = and_parts (is_another this n) (not (changes_row (row_at table n) own) && has_key places key (base (row_at table n))) h in
      let inner = and_parts (not (changes_row (row_at table n) own)) (has_key places key (base (row_at table n))) outer.1 in
      by (last_change (row_at table n) own) refl outer.0 inner.0 inner.1
    where
      by : (o : Option Change) → last_change (row_at table n) own ≡ o → is_another this n ≡ true → not (changes_row (row_at table n) own) ≡ true
          → has_key places key (base (row_at table n)) ≡ true → passes n ≡ true
      by None e other free still =
          and_from (is_another this n) (has_key places key (kept (row_at table n))) other
          (ap (λ (o : Option Change). has_key places key (over o (base (row_at table n)))) e ∙ still)
      by (Some c) e other free still =
          absurd (both_ways (changes_row (row_at table n) own) (not-true (changes_row (row_at table n) own) free) (changes_row_is (row_at table n) own ∙ ap is_some e))

  some_last : (n : ℕ) → changes_row (row_at table n) own ≡ true → passes n ≡ true → own_has own table this places key ≡ true
  some_last n e h = by (last_change (row_at table n) own) refl
    where
      by : (o : Option Change) → last_change (row_at table n) own ≡ o → own_has own table this places key ≡ true
      by (Some c) is = by_own n c is h
      by None is = absurd (true≢false (sym e ∙ changes_row_is (row_at table n) own ∙ ap is_some is))

  in_table : (c : Change) → is_in table c ≡ true → c.row ≡ row_at table c.row.row.0
  in_table c e = is_row-true c.row (row_at table c.row.row.0) (and_from (is_table c.row.table table) (eqb c.row.row.0 c.row.row.0) e (eq-eqb c.row.row.0 c.row.row.0 refl))

  own_passes : own_has own table this places key ≡ true → list_any passes (row_numbers table own) ≡ true
  own_passes e =
      let one = any_change lasts own e in
      let c : Change = one.0 in
      let outer = and_parts (is_another this c.row.row.0) (gives_key table places key c && has_key places key (values_by (last_change c.row own))) one.1 in
      let inner = and_parts (gives_key table places key c) (has_key places key (values_by (last_change c.row own))) outer.1 in
      let gives = and_parts (is_in table c) (has_key places key c.values) inner.0 in
      let same : c.row ≡ row_at table c.row.row.0 = in_table c gives.0 in
      among_numbers passes table c.row.row.0 own
      (and_from (is_another this c.row.row.0) (has_key places key (kept (row_at table c.row.row.0))) outer.0
      (subst (λ (r : RowId). has_key places key (kept r) ≡ true) same (over_last c.row (last_change c.row own) inner.1)))
      (subst (λ (r : RowId). changes_row r own ≡ true) same one.2)
    where
      over_last : (r : RowId) (o : Option Change) → has_key places key (values_by o) ≡ true → has_key places key (over o (base r)) ≡ true
      over_last r None h = absurd (true≢false (sym h))
      over_last r (Some d) h = h

  -- another row has the key just where one that was changed has it, or one that was left alone
  pub another_is : another_has table this places key kept (row_numbers table (changes_in commits ++ own)) ≡ (own_has own table this places key || committed_has commits own table this places key base)
  another_is =
      ap (list_any passes) (row_numbers-append table (changes_in commits) own)
      ∙ list_any-append passes (row_numbers table (changes_in commits)) (row_numbers table own)
      ∙ same_bool (list_any passes (row_numbers table (changes_in commits)) || list_any passes (row_numbers table own))
      (own_has own table this places key || committed_has commits own table this places key base) to from
    where
      to : (list_any passes (row_numbers table (changes_in commits)) || list_any passes (row_numbers table own)) ≡ true → (own_has own table this places key || committed_has commits own table this places key base) ≡ true
      to e =
          ⊎_elim
          (λ (h : list_any passes (row_numbers table (changes_in commits)) ≡ true).
          ⊎_elim (λ (k : own_has own table this places key ≡ true). or_left (own_has own table this places key) (committed_has commits own table this places key base) k)
          (λ (k : list_any untouched_has (row_numbers table (changes_in commits)) ≡ true). or_right (own_has own table this places key) (committed_has commits own table this places key base) k)
          (any_either (own_has own table this places key) passes untouched_has each_passes (row_numbers table (changes_in commits)) h))
          (λ (h : list_any passes (row_numbers table own) ≡ true).
          let one = any_change (λ (c : Change). is_in table c && passes c.row.row.0) own (sym (numbers_any passes table own) ∙ h) in
          let c : Change = one.0 in
          let parts = and_parts (is_in table c) (passes c.row.row.0) one.1 in
          or_left (own_has own table this places key) (committed_has commits own table this places key base)
          (some_last c.row.row.0 (subst (λ (r : RowId). changes_row r own ≡ true) (in_table c parts.0) one.2) parts.1))
          (or_cases (list_any passes (row_numbers table (changes_in commits))) (list_any passes (row_numbers table own)) e)

      from : (own_has own table this places key || committed_has commits own table this places key base) ≡ true → (list_any passes (row_numbers table (changes_in commits)) || list_any passes (row_numbers table own)) ≡ true
      from e =
          ⊎_elim
          (λ (h : own_has own table this places key ≡ true). or_right (list_any passes (row_numbers table (changes_in commits))) (list_any passes (row_numbers table own)) (own_passes h))
          (λ (h : committed_has commits own table this places key base ≡ true).
          or_left (list_any passes (row_numbers table (changes_in commits))) (list_any passes (row_numbers table own))
          (any_weaker untouched_has passes untouched_passes (row_numbers table (changes_in commits)) h))
          (or_cases (own_has own table this places key) (committed_has commits own table this places key base) e)

-- what is answered where a changed row has it, and where none does
pub if_own : (commits : List (List Change)) (own : List Change) (table : TableId) (this : Option RowNo) (places : List ℕ) (key : List Value) (base : RowId → Option (List Value)) (a : Bool)
    → a ≡ own_has own table this places key → a ≡ true → a ≡ another_has table this places key (λ r. over (last_change r own) (base r)) (row_numbers table (changes_in commits ++ own))
if_own commits own table this places key base a is holds =
    holds ∙ sym (or_left (own_has own table this places key) (committed_has commits own table this places key base) (sym is ∙ holds)) ∙ sym (another_is commits own table this places key base)

pub if_not_own : (commits : List (List Change)) (own : List Change) (table : TableId) (this : Option RowNo) (places : List ℕ) (key : List Value) (base : RowId → Option (List Value)) (a r : Bool)
    → a ≡ own_has own table this places key → a ≡ false → r ≡ committed_has commits own table this places key base
    → r ≡ another_has table this places key (λ q. over (last_change q own) (base q)) (row_numbers table (changes_in commits ++ own))
if_not_own commits own table this places key base a r is fails rest =
    rest ∙ ap (λ b. b || committed_has commits own table this places key base) (sym fails ∙ is) ∙ sym (another_is commits own table this places key base)

-- rows that had the key after the first n commits, among the rows of all commits
pub committed_then : (commits : List (List Change)) (n : ℕ) (own : List Change) (table : TableId) (this : Option RowNo) (places : List ℕ) (key : List Value)
    → committed_has (take n commits) own table this places key (Latest (take n commits)) ≡ committed_has commits own table this places key (At commits n)
committed_then commits n own table this places key = same_bool (committed_has (take n commits) own table this places key (Latest (take n commits))) (committed_has commits own table this places key (At commits n)) to from
  where
    to : list_any (has_untouched own table this places key (At commits n)) (row_numbers table (changes_in (take n commits))) ≡ true → committed_has commits own table this places key (At commits n) ≡ true
    to early =
        ap (λ cs. list_any (has_untouched own table this places key (At commits n)) (row_numbers table (changes_in cs))) (sym (take-append-drop n commits))
        ∙ ap (λ cs. list_any (has_untouched own table this places key (At commits n)) (row_numbers table cs)) (flat_map-append (λ (cs : List Change). cs) (take n commits) (drop n commits))
        ∙ ap (list_any (has_untouched own table this places key (At commits n))) (row_numbers-append table (changes_in (take n commits)) (changes_in (drop n commits)))
        ∙ list_any-append (has_untouched own table this places key (At commits n)) (row_numbers table (changes_in (take n commits))) (row_numbers table (changes_in (drop n commits)))
        ∙ or_left (list_any (has_untouched own table this places key (At commits n)) (row_numbers table (changes_in (take n commits)))) (list_any (has_untouched own table this places key (At commits n)) (row_numbers table (changes_in (drop n commits)))) early

    from : committed_has commits own table this places key (At commits n) ≡ true → list_any (has_untouched own table this places key (At commits n)) (row_numbers table (changes_in (take n commits))) ≡ true
    from e =
        let one = any_one (has_untouched own table this places key (At commits n)) (row_numbers table (changes_in commits)) e in
        let outer = and_parts (is_another this one.0) (not (changes_row (row_at table one.0) own) && has_key places key (At commits n (row_at table one.0))) one.1 in
        let inner = and_parts (not (changes_row (row_at table one.0) own)) (has_key places key (At commits n (row_at table one.0))) outer.1 in
        committed_among (take n commits) places key (has_untouched own table this places key (At commits n)) table one.0 one.1 inner.1
