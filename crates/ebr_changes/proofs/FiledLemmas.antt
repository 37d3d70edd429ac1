-- The changes of a transaction are the one list of an index.
use Rattle.std.proofs.Common.{◌≡◌, ℕ, zero, suc, ◌<◌, ◌≤◌, Bool, true, false, ◌&&◌, eqb, List, [], ◌∷◌, ◌++◌, Option, Some, None, length, take, refl, sym, ap, ◌∙◌, subst, arith}
use Rattle.std.specs.Prelude.{slice_get, option_and_then, is_some, IfSome, IfNone}
use Rattle.std.proofs.lemmas.List.{append-nil}
use Rattle.std.proofs.lemmas.Option.{same_Some}
use Rattle.std.specs.List.{list_any}
use Rattle.std.proofs.Common.{⊎_elim}
use Rattle.std.proofs.lemmas.Bool.{cases_lt, false≢true, and_parts, eqb-true, eq-eqb, or_left, or_right}
use Rattle.ebr_base.specs.declared.numbers.TableId.{TableId}
use Rattle.ebr_base.specs.declared.row.RowId.{RowId}
use Rattle.ebr_base.specs.declared.row.Change.{Change}
use Rattle.ebr_spots.specs.declared.spot.Spot.{Spot}
use Rattle.ebr_spots.specs.Spots.{has, IsLastBefore, IsNoneBefore, IsNextNumber, IsNoNextNumber, IsLastNumber, IsNoLastNumber}
use Rattle.ebr_spots.specs.Filed.{found, is_mark_of}
use Rattle.ebr_versions.specs.declared.index.Entry.{Entry}
use Rattle.ebr_versions.specs.Data.{last_change, is_in, changes_in, next_number_in, greatest_number_in}
use Rattle.ebr_versions.specs.inside.Index.{Indexed, IsRowIndex, row_mark, key_mark, change_mark, Keeps}
use Rattle.ebr_versions.proofs.LastChanges.{last_by_index, none_by_index}
use Rattle.ebr_versions.proofs.Numbers.{found_in, next_found, next_none, passed_itself, within_all, greatest_found, greatest_none}
use Rattle.ebr_changes.specs.Filed.{AreOf, AreFiled, IsLastFiled, IsNoneFiledBefore}

-- some element passes where one at a place does, and none does where none at a place does
any_at : {X : Type 0} (p : X → Bool) (xs : List X) (n : ℕ) (x : X) → slice_get xs n ≡ Some x → p x ≡ true → list_any p xs ≡ true
any_at p [] n x e passes = cc
any_at p (y ∷ ys) zero x e passes = or_left (p y) (list_any p ys) (ap p (same_Some y x e) ∙ passes)
any_at p (y ∷ ys) (suc n) x e passes = or_right (p y) (list_any p ys) (any_at p ys n x e passes)

none_at : {X : Type 0} (p : X → Bool) (xs : List X) → ((n : ℕ) (x : X) → slice_get xs n ≡ Some x → p x ≡ false) → list_any p xs ≡ false
none_at p [] fails = refl
none_at p (y ∷ ys) fails = let here : p y ≡ false = fails 0 y refl in rw here (none_at p ys (λ n x e. fails (suc n) x e))

marks : (cs : List Change) (es : List Entry) → AreOf cs es → (p : ℕ) → option_and_then row_mark (slice_get es p) ≡ option_and_then change_mark (slice_get cs p)
marks [] [] h p = refl
marks [] (e ∷ es) h p = absurd h
marks (c ∷ cs) [] h p = absurd h
marks (c ∷ cs) (e ∷ es) h zero = ap (λ (r : RowId). Some (r.table.0, r.row.0)) h.0
marks (c ∷ cs) (e ∷ es) h (suc p) = marks cs es h.1 p

pub same_length : (cs : List Change) (es : List Entry) → AreOf cs es → length cs ≡ length es
same_length [] [] h = refl
same_length [] (e ∷ es) h = absurd h
same_length (c ∷ cs) [] h = absurd h
same_length (c ∷ cs) (e ∷ es) h = ap suc (same_length cs es h.1)

pub own_index : (cs : List Change) (x : Indexed) → AreFiled cs x → IsRowIndex x.rows (cs ∷ [])
own_index cs x h q l = h.indexed.rows q ∙ ap (is_mark_of q) (by q.list l)
  where
    by : (i : ℕ) → i < 1 → option_and_then row_mark (found ([] ++ x.pending ∷ []) i q.place) ≡ option_and_then change_mark (found (cs ∷ []) i q.place)
    by zero l = marks cs x.pending h.rows q.place
    by (suc i) l = absurd (omega (arith, l))

are_of_push : (cs : List Change) (es : List Entry) (c : Change) (e : Entry) → e.row ≡ c.row → AreOf cs es → AreOf (cs ++ c ∷ []) (es ++ e ∷ [])
are_of_push [] [] c e r h = (r, tt)
are_of_push [] (f ∷ es) c e r h = absurd h
are_of_push (d ∷ cs) [] c e r h = absurd h
are_of_push (d ∷ cs) (f ∷ es) c e r h = (h.0, are_of_push cs es c e r h.1)

pub own_more : (cs more : List Change) (x y : Indexed) (c : Change) (e : Entry) → e.row ≡ c.row → AreFiled cs x → Keeps 0 x y → y.pending ≡ x.pending ++ e ∷ [] → more ≡ cs ++ c ∷ [] → AreFiled more y
own_more cs more x y c e r h k p m = record {
  rows = subst (λ (ds : List Change). AreOf ds y.pending) (sym m) (subst (AreOf (cs ++ c ∷ [])) (sym p) (are_of_push cs x.pending c e r h.rows));
  indexed = k [] refl h.indexed;
}

pub own_same : (cs same : List Change) (x y : Indexed) → AreFiled cs x → Keeps 0 x y → y.pending ≡ x.pending → same ≡ cs → AreFiled same y
own_same cs same x y h k p m = record {
  rows = subst (λ (ds : List Change). AreOf ds y.pending) (sym m) (subst (AreOf cs) (sym p) h.rows);
  indexed = k [] refl h.indexed;
}

are_of_take : (n : ℕ) (cs : List Change) (es : List Entry) → AreOf cs es → AreOf (take n cs) (take n es)
are_of_take zero cs es h = tt
are_of_take (suc n) [] [] h = tt
are_of_take (suc n) [] (e ∷ es) h = absurd h
are_of_take (suc n) (c ∷ cs) [] h = absurd h
are_of_take (suc n) (c ∷ cs) (e ∷ es) h = (h.0, are_of_take n cs es h.1)

pub own_less : (cs less : List Change) (x y : Indexed) (n : ℕ) → AreFiled cs x → Keeps 0 x y → y.pending ≡ take n x.pending → less ≡ take n cs → AreFiled less y
own_less cs less x y n h k p m = record {
  rows = subst (λ (ds : List Change). AreOf ds y.pending) (sym m) (subst (AreOf (take n cs)) (sym p) (are_of_take n cs x.pending h.rows));
  indexed = k [] refl h.indexed;
}

one_list : (cs : List Change) → changes_in (cs ∷ []) ≡ cs
one_list cs = append-nil cs

found_one : (cs : List Change) (i p : ℕ) → i < 1 → found (cs ∷ []) i p ≡ slice_get cs p
found_one cs zero p l = refl
found_one cs (suc i) p l = absurd (omega (arith, l))

module _ (cs : List Change) (x : Indexed) (h : AreFiled cs x) where
  pub own_last : (row : RowId) (k end : Spot) → end ≡ record { table = row.table.0; number = row.row.0; list = 1; place = 0 } → IsLastBefore x.rows end k → slice_get cs k.place ≡ last_change row cs
  own_last row k end e last =
      let at : IsLastBefore x.rows (record { table = row.table.0; number = row.row.0; list = 1; place = 0 }) k = subst (λ (s : Spot). IsLastBefore x.rows s k) e last in
      let l : k.list < 1 = ⊎_elim (λ (a : k.list < 1). a) (λ (b : 1 ≤ k.list). let c : k.list ≡ 1 = omega (arith, b, at.before.list) in absurd (omega (arith, at.before.place c))) (cases_lt k.list 1) in
      sym (found_one cs k.list k.place l) ∙ sym (last_by_index (cs ∷ []) x.rows (own_index cs x h) row 1 (omega arith) k at) ∙ ap (last_change row) (one_list cs)

  pub own_no_last : (row : RowId) (end : Spot) → end ≡ record { table = row.table.0; number = row.row.0; list = 1; place = 0 } → IsNoneBefore x.rows end → last_change row cs ≡ None
  own_no_last row end e none =
      sym (ap (last_change row) (one_list cs)) ∙ none_by_index (cs ∷ []) x.rows (own_index cs x h) row 1 (omega arith) (subst (IsNoneBefore x.rows) e none)

  -- each own change stands in the one list
  own_list : (k : Spot) → has x.rows k ≡ true → k.list < 1
  own_list k here = by (found ([] ++ x.pending ∷ []) k.list k.place) refl (sym (h.indexed.rows k) ∙ here)
    where
      by : (o : Option Entry) → found ([] ++ x.pending ∷ []) k.list k.place ≡ o → is_mark_of k (option_and_then row_mark o) ≡ true → k.list < 1
      by None e m = absurd (false≢true m)
      by (Some y) e m = found_in ([] ++ x.pending ∷ []) k.list k.place y e

  pub own_next : (t : TableId) (after : ℕ) (k : Spot) → IsNextNumber x.rows t.0 after k → next_number_in cs t after ≡ Some k.number
  own_next t after k next =
      sym (ap (λ ds. next_number_in ds t after) (one_list cs)) ∙ next_found (cs ∷ []) x.rows (own_index cs x h) t after after k (omega arith) (passed_itself (cs ∷ []) t after) next (own_list k next.here)

  pub own_no_next : (t : TableId) (after : ℕ) → IsNoNextNumber x.rows t.0 after → next_number_in cs t after ≡ None
  own_no_next t after none =
      sym (ap (λ ds. next_number_in ds t after) (one_list cs)) ∙ next_none (cs ∷ []) x.rows (own_index cs x h) t after after (passed_itself (cs ∷ []) t after) none

  pub own_greatest : (t : TableId) (most : ℕ) (k : Spot) → ((q : Spot) → has x.rows q ≡ true → q.number ≤ most) → IsLastNumber x.rows t.0 most k → greatest_number_in cs t ≡ k.number
  own_greatest t most k fit last =
      sym (ap (λ ds. greatest_number_in ds t) (one_list cs))
      ∙ greatest_found (cs ∷ []) x.rows (own_index cs x h) t most k (within_all (cs ∷ []) x.rows (own_index cs x h) t most fit) last (k, last.here, last.table_is, refl, own_list k last.here)

  pub own_no_greatest : (t : TableId) (most : ℕ) → ((q : Spot) → has x.rows q ≡ true → q.number ≤ most) → IsNoLastNumber x.rows t.0 most → greatest_number_in cs t ≡ 0
  own_no_greatest t most fit none =
      sym (ap (λ ds. greatest_number_in ds t) (one_list cs)) ∙ greatest_none (cs ∷ []) x.rows (own_index cs x h) t most (within_all (cs ∷ []) x.rows (own_index cs x h) t most fit) none

  -- a change in a table, by the index
  some_in_table : (t : TableId) (most : ℕ) (k : Spot) → IsLastNumber x.rows t.0 most k → true ≡ list_any (is_in t) cs
  some_in_table t most k last = by (slice_get cs k.place) refl
      (ap (λ o. is_mark_of k (option_and_then change_mark o)) (sym (found_one cs k.list k.place within)) ∙ sym (own_index cs x h k within) ∙ last.here)
    where
      within : k.list < 1
      within = own_list k last.here

      by : (o : Option Change) → slice_get cs k.place ≡ o → is_mark_of k (option_and_then change_mark o) ≡ true → true ≡ list_any (is_in t) cs
      by None e m = absurd (false≢true m)
      by (Some c) e m = sym (any_at (is_in t) cs k.place c e (ap (eqb c.row.table.0) (sym last.table_is) ∙ (and_parts (eqb c.row.table.0 k.table) (eqb c.row.row.0 k.number) m).0))

  none_in_table : (t : TableId) (most : ℕ) → ((q : Spot) → has x.rows q ≡ true → q.number ≤ most) → IsNoLastNumber x.rows t.0 most → false ≡ list_any (is_in t) cs
  none_in_table t most fit none = sym (none_at (is_in t) cs fails)
    where
      fails : (p : ℕ) (c : Change) → slice_get cs p ≡ Some c → is_in t c ≡ false
      fails p c e = by (is_in t c) refl
        where
          k : Spot
          k = record { table = c.row.table.0; number = c.row.row.0; list = 0; place = p }

          here : has x.rows k ≡ true
          here = own_index cs x h k (omega arith) ∙ ap (λ o. is_mark_of k (option_and_then change_mark o)) e
              ∙ ap (λ b. b && eqb c.row.row.0 c.row.row.0) (eq-eqb c.row.table.0 c.row.table.0 refl) ∙ eq-eqb c.row.row.0 c.row.row.0 refl

          by : (b : Bool) → is_in t c ≡ b → is_in t c ≡ false
          by false i = i
          by true i = absurd (false≢true (sym (none k (eqb-true c.row.table.0 t.0 i) (fit k here)) ∙ here))

  pub in_table : (t : TableId) (most : ℕ) → ((q : Spot) → has x.rows q ≡ true → q.number ≤ most) → (o : Option Spot) → IfSome o (IsLastNumber x.rows t.0 most) → IfNone o (IsNoLastNumber x.rows t.0 most)
      → is_some o ≡ list_any (is_in t) cs
  in_table t most fit None some none = none_in_table t most fit none
  in_table t most fit (Some k) some none = some_in_table t most k some

-- the last place before one that is filed under a key, by the index
module _ (cs : List Change) (x : Indexed) (h : AreFiled cs x) (t : TableId) (print stop : ℕ) where
  abbrev at_place : ℕ → Spot
  at_place p = record { table = t.0; number = print; list = 0; place = p }

  has_filed : (p : ℕ) → has x.keys (at_place p) ≡ is_mark_of (at_place p) (option_and_then key_mark (slice_get x.pending p))
  has_filed p = h.indexed.keys (at_place p)

  pub last_by_keys : (k end : Spot) → end ≡ at_place stop → IsLastBefore x.keys end k → IsLastFiled x.pending t print stop k.place
  last_by_keys k end e last =
      let at : IsLastBefore x.keys (at_place stop) k = subst (λ (s : Spot). IsLastBefore x.keys s k) e last in
      let zero_list : k.list ≡ 0 = omega (arith, at.before.list) in
      let same : k ≡ at_place k.place = λ i. record { table = at.table i; number = at.number i; list = zero_list i; place = k.place } in
      record {
        before = at.before.place zero_list;
        here = sym (has_filed k.place) ∙ ap (has x.keys) (sym same) ∙ at.here;
        last = λ q l filed. (at.last 0 q (record { list = omega arith; place = λ _. l }) (has_filed q ∙ filed)).place (sym zero_list);
      }

  pub none_before_by_keys : (end : Spot) → end ≡ at_place stop → IsNoneBefore x.keys end → IsNoneFiledBefore x.pending t print stop
  none_before_by_keys end e none q l filed =
      let at : IsNoneBefore x.keys (at_place stop) = subst (λ (s : Spot). IsNoneBefore x.keys s) e none in
      false≢true (sym (at 0 q (record { list = omega arith; place = λ _. l })) ∙ has_filed q ∙ filed)
