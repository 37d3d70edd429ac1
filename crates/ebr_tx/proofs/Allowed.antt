-- What nothing refuses may be added.
use Rattle.std.proofs.Common.{◌≡◌, ◌≢◌, ℕ, ◌<◌, ◌≤◌, ⊎_elim, Bool, true, false, not, cond, ◌||◌, ◌==◌, List, [], ◌∷◌, ◌++◌, Option, Some, None, length, refl, ap, ◌∙◌, arith}
use Rattle.std.specs.Prelude.{find, is_some, nat_le, nat_lt}
use Rattle.std.specs.Option.{option_or}
use Rattle.std.proofs.lemmas.Bool.{both_ways, or_parts, eqb-true, ne_eqb, lt-ltb, cases_lt}
use Rattle.std.proofs.lemmas.Bool.Decides.{leb_tells}
use Rattle.std.proofs.lemmas.List.{length-map}
use Rattle.ebr_base.specs.declared.code.Code.{Code}
use Rattle.ebr_base.specs.declared.numbers.RowNo.{RowNo}
use Rattle.ebr_base.specs.declared.numbers.TableId.{TableId}
use Rattle.ebr_base.specs.declared.row.Change.{Change}
use Rattle.ebr_base.specs.declared.row.RowId.{RowId}
use Rattle.ebr_base.specs.declared.row.TxId.{TxId}
use Rattle.ebr_base.specs.declared.value.Value.{Value}
use Rattle.ebr_versions.specs.Keys.{key_of, key_places, value_at, is_added, KeysDiffer}
use Rattle.ebr_locks.specs.Locks.{holder_of}
use Rattle.ebr_tx.specs.Data.{Transaction, Data, is_named, own, some_other, IsLive}
use Rattle.ebr_tx.specs.Reads.{Sees}
use Rattle.ebr_tx.specs.Conflicts.{has_key, KeyTest, KeyInUse, KeyTaken, HeldBy, Late, touch_refusal, is_other, is_another, changes_row_by}
use Rattle.ebr_tx.specs.Limits.{is_full, limit_refusal, record_length, max_changes, max_record, max_row}
use Rattle.ebr_tx.specs.Calls.{change_refusal, key_refusal, new_key_refusal, insert_refusal, insertion, new_row, new_number}
use Rattle.ebr_tx.specs.inside.Sound.{Among, key_by, IsFreeKey, GiveOtherKeys, IsSound, MayAdd}
use Rattle.ebr_tx.proofs.MayChange.{others_give_other, free_if_not_taken, has_it_now, free_if_kept, others_if_kept}
use Rattle.ebr_tx.proofs.SoundLemmas.{own_found}

or_none : (a b : Option Code) → option_or a b ≡ None → (a ≡ None) × (b ≡ None)
or_none None b e = (refl, e)
or_none (Some c) b e = cc

passed : (b : Bool) (code : Code) (rest : Option Code) → cond b (Some code) rest ≡ None → (b ≡ false) × (rest ≡ None)
passed true code rest e = cc
passed false code rest e = (refl, e)

not_full : (full : Bool) → limit_refusal full ≡ None → full ≡ false
not_full true e = cc
not_full false e = refl

below : (n : ℕ) → nat_le 200000 n ≡ false → n < 200000
below n e = ⊎_elim (λ (h : (nat_le 200000 n ≡ true) × (200000 ≤ n)). absurd (both_ways (nat_le 200000 n) e h.0)) (λ (h : (nat_le 200000 n ≡ false) × (n < 200000)). h.1) (leb_tells 200000 n)

at_most : (n : ℕ) → nat_lt max_record n ≡ false → n ≤ max_record
at_most n e = ⊎_elim (λ (h : max_record < n). absurd (both_ways (nat_lt max_record n) e (lt-ltb max_record n h))) (λ (h : n ≤ max_record). h) (cases_lt max_record n)

room : (changes : List Change) (c : Change) → is_full changes c ≡ false → (nat_le max_changes (length changes) ≡ false) × (nat_lt max_record (record_length (changes ++ c ∷ [])) ≡ false)
room changes c e = or_parts (nat_le max_changes (length changes)) (nat_lt max_record (record_length (changes ++ c ∷ []))) e

has_begun : (b : Option ℕ) → is_some b ≡ true → b ≢ None
has_begun None e h = cc
has_begun (Some n) e h = cc

none_key : (key : List Value) → None ≡ Some key → ⊥
none_key key h = cc

module _ (d : Data) (t : TxId) (there : IsLive d t) (sound : IsSound d.commits d.tables d.live) (keys : KeysDiffer d.commits d.tables) where
  abbrev mine : Transaction
  mine = own d t

  abbrev made : RowId → List Value → Change
  made row values = record { row = row; values = Some values }

  abbrev Others : Change → Type 0
  Others c = (u : TxId) (y : Transaction) → t ≢ u → find (is_named u) d.live ≡ Some y → (e : Change) → Among y.changes e → GiveOtherKeys d.tables c e

  -- a table without a key is free
  no_key : (row : RowId) (values : List Value) → length (key_places d.tables row.table) ≡ 0 → (key : List Value) → 0 < length key → key_by d.tables (made row values) ≡ Some key → ⊥
  no_key row values none key some of_c =
      let long : length (key_of (key_places d.tables row.table) values) ≡ 0 = length-map (key_places d.tables row.table) (value_at values) ∙ none in
      let same : length (key_of (key_places d.tables row.table) values) ≡ length key = ap length (same_key of_c) in
      absurd (omega arith)
    where
      same_key : Some (key_of (key_places d.tables row.table) values) ≡ Some key → key_of (key_places d.tables row.table) values ≡ key
      same_key e = cc

  new_key : (row : RowId) (this : Option RowNo) (values : List Value) → ((r : RowNo) → r ≢ row.row → is_another this r.0 ≡ true) → new_key_refusal d t row.table this values ≡ None
      → IsFreeKey d.commits d.tables mine.changes (made row values) × Others (made row values)
  new_key row this values apart e = by (length (key_places d.tables row.table) == 0) refl e
    where
      by : (b : Bool) → (length (key_places d.tables row.table) == 0) ≡ b → cond b None (KeyTest d t row.table this (key_of (key_places d.tables row.table) values)) ≡ None
          → IsFreeKey d.commits d.tables mine.changes (made row values) × Others (made row values)
      by true is h =
          let none : length (key_places d.tables row.table) ≡ 0 = eqb-true (length (key_places d.tables row.table)) 0 is in
          (λ key r some of_c other at. no_key row values none key some of_c, λ u y ne found f a same key some of_c of_f. no_key row values none key some of_c)
      by false is h =
          let key = key_of (key_places d.tables row.table) values in
          let first = passed (KeyInUse d t row.table key) _ _ h in
          let second = passed (KeyTaken d t row.table this key) _ _ first.1 in
          (free_if_not_taken d.commits d.tables d.live t mine row values this apart second.0, others_give_other d.commits d.tables d.live t mine row values first.0)

  -- a key that stays, or passed the test
  key_free : (row : RowId) (values : Option (List Value)) → Late d t row ≡ false → some_other t (changes_row_by row) d.live ≡ false → key_refusal d t row values ≡ None
      → IsFreeKey d.commits d.tables mine.changes (record { row = row; values = values }) × Others (record { row = row; values = values })
  key_free row None late held e = (λ key r some of_c other at. none_key key of_c, λ u y ne found f a same key some of_c of_f. none_key key of_c)
  key_free row (Some values) late held e = by (has_key (key_places d.tables row.table) (key_of (key_places d.tables row.table) values) (Sees d t row)) refl e
    where
      by : (b : Bool) → has_key (key_places d.tables row.table) (key_of (key_places d.tables row.table) values) (Sees d t row) ≡ b → cond b None (new_key_refusal d t row.table (Some row.row) values) ≡ None
          → IsFreeKey d.commits d.tables mine.changes (made row values) × Others (made row values)
      by true is h =
          let has = has_it_now d.commits d.tables d.live t mine row values late is in
          let found = own_found t d.live there in
          (free_if_kept d.commits d.tables d.live t mine row values sound found has keys, others_if_kept d.commits d.tables d.live t mine row values sound found has held)
      by false is h = new_key row (Some row.row) values (λ r other. ap not (ne_eqb r.0 row.row.0 (λ e. other (ap (λ (n : ℕ). let q : RowNo = record { 0 = n } in q) e)))) h

  pub may_change : (c : Change) → is_some mine.begun ≡ true → is_added d.tables c.row.table ≡ true → change_refusal d t c ≡ None → MayAdd d.commits d.tables d.live t mine c
  may_change c begun added e =
      let touch = or_none (touch_refusal d t c.row) _ e in
      let rest = or_none (key_refusal d t c.row c.values) _ touch.1 in
      let held = passed (HeldBy d c.row t) _ _ touch.0 in
      let late = passed (Late d t c.row) _ _ held.1 in
      let key = key_free c.row c.values late.0 (or_parts (is_other t (holder_of c.row d.locks)) (some_other t (changes_row_by c.row) d.live) held.0).1 rest.0 in
      record {
        free = key.0;
        apart = key.1;
        added = added;
        few = below (length mine.changes) (room mine.changes c (not_full (is_full mine.changes c) rest.1)).0;
        short = at_most (record_length (mine.changes ++ c ∷ [])) (room mine.changes c (not_full (is_full mine.changes c) rest.1)).1;
        begun = has_begun mine.begun begun;
      }

  pub may_insert : (table : TableId) (values : List Value) → is_some mine.begun ≡ true → is_added d.tables table ≡ true → insert_refusal d t table values ≡ None
      → MayAdd d.commits d.tables d.live t mine (insertion d table values)
  may_insert table values begun added e =
      let both = or_none (new_key_refusal d t table None values) _ e in
      let key = new_key (new_row d table) None values (λ r other. refl) both.0 in
      let full = or_parts (nat_lt max_row (new_number d table)) (is_full mine.changes (insertion d table values)) (not_full (nat_lt max_row (new_number d table) || is_full mine.changes (insertion d table values)) both.1) in
      record {
        free = key.0;
        apart = key.1;
        added = added;
        few = below (length mine.changes) (room mine.changes (insertion d table values) full.1).0;
        short = at_most (record_length (mine.changes ++ insertion d table values ∷ [])) (room mine.changes (insertion d table values) full.1).1;
        begun = has_begun mine.begun begun;
      }
