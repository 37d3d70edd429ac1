-- The test of keys, by the changes that are filed under a key.
use Rattle.std.proofs.Common.{◌≡◌, ℕ, zero, suc, ◌<◌, ◌≤◌, ⊎_elim, Bool, true, false, ◌&&◌, eqb, List, [], ◌∷◌, ◌++◌, Option, Some, None, option_map, map, take, length, refl, sym, ap, ◌∙◌, subst, arith, append_assoc}
use Rattle.std.proofs.lemmas.List.{append-nil}
use Rattle.std.specs.Prelude.{slice_get, option_and_then, find, is_some, unwrap_or, IfSome, IfNone, All}
use Rattle.std.specs.List.{list_any}
use Rattle.std.proofs.lemmas.Bool.{both_ways, false≢true, and_parts, and_from, cases_lt, eqb-true, eq-eqb, false_from_ne_true, or_left, or_right}
use Rattle.std.proofs.lemmas.Option.{same_Some, slice_get_past, slice_get-map}
use Rattle.std.proofs.lemmas.List.Elements.{All-weaker}
use Rattle.ebr_base.specs.declared.numbers.RowNo.{RowNo}
use Rattle.ebr_base.specs.declared.numbers.TableId.{TableId}
use Rattle.ebr_base.specs.declared.row.Change.{Change}
use Rattle.ebr_base.specs.declared.row.RowId.{RowId}
use Rattle.ebr_base.specs.declared.row.TxId.{TxId}
use Rattle.ebr_base.specs.declared.value.Value.{Value}
use Rattle.ebr_spots.specs.declared.spot.Spot.{Spot}
use Rattle.ebr_spots.specs.Filed.{is_mark_of}
use Rattle.ebr_versions.specs.declared.index.Entry.{Entry}
use Rattle.ebr_versions.specs.declared.table.Table.{Table}
use Rattle.ebr_versions.specs.Data.{is_in, is_row, last_change, values_by, Latest}
use Rattle.ebr_versions.specs.Keys.{key_of, key_places, row_in}
use Rattle.ebr_versions.specs.inside.Index.{entry_of, print_of, key_mark}
use Rattle.ebr_versions.specs.inside.Print.{key_number}
use Rattle.ebr_versions.proofs.KeyLemmas.{is_row-true}
use Rattle.ebr_versions.proofs.LastChanges.{last_in_list}
use Rattle.ebr_versions.proofs.Givers.{last_out_list}
use Rattle.ebr_changes.specs.Filed.{IsFiledAt, IsLastFiled, IsNoneFiledBefore}
use Rattle.ebr_tx.specs.Conflicts.{has_key, gives_key, is_another}
use Rattle.ebr_tx.specs.Reads.{over}
use Rattle.ebr_tx.specs.inside.Keys.{gives_at_last, own_has}
use Rattle.ebr_tx.specs.inside.Sound.{key_by, IsFreeKey, TakesFreeKeys}
use Rattle.ebr_tx.specs.Data.{Transaction, is_named, names_of, not_begun, IsIn}
use Rattle.ebr_tx.specs.inside.Filed.{FiledTransaction, transactions_of, IsKept, passes, passes_at, IsFiledBy, AreFiledBy, FindsKey, FindsKeyBy, TakesFree, IsLastGiver, NoneGives}
use Rattle.ebr_tx.proofs.SameValues.{has_key-true}
use Rattle.ebr_tx.proofs.OtherRows.{valued}
use Rattle.ebr_tx.proofs.SoundLemmas.{own_found}

-- an element passes where one at a place does, and none does where none at a place does
pub any_at : {X : Type 0} (p : X → Bool) (xs : List X) (n : ℕ) → passes_at p xs n ≡ true → list_any p xs ≡ true
any_at p [] n e = absurd (false≢true e)
any_at p (x ∷ xs) zero e = or_left (p x) (list_any p xs) e
any_at p (x ∷ xs) (suc n) e = or_right (p x) (list_any p xs) (any_at p xs n e)

pub none_at : {X : Type 0} (p : X → Bool) (xs : List X) → ((n : ℕ) → passes_at p xs n ≡ false) → list_any p xs ≡ false
none_at p [] fails = refl
none_at p (x ∷ xs) fails = let here : p x ≡ false = fails 0 in rw here (none_at p xs (λ n. fails (suc n)))

-- none passes behind the end
pub none_behind : {X : Type 0} (p : X → Bool) (xs : List X) (n : ℕ) → length xs ≤ n → passes_at p xs n ≡ false
none_behind p xs n h = ap (passes p) (slice_get_past xs n h)

-- what passes at a place
pub there : {X : Type 0} (p : X → Bool) (o : Option X) → passes p o ≡ true → (x : X) × (o ≡ Some x) × (p x ≡ true)
there p None e = absurd (false≢true e)
there p (Some x) e = (x, refl, e)

module _ (tables : List Table) (changes : List Change) (entries : List Entry) (filed : entries ≡ map (entry_of tables) changes) (t : TableId) (places : List ℕ) (key : List Value)
    (same : key_places tables t ≡ places) (some : 0 < length key) (as_many : length places ≡ length key) where
  print_given : (ps : List ℕ) (values : Option (List Value)) → 0 < length ps → option_map (key_of ps) values ≡ Some key → print_of ps values ≡ Some (key_number key)
  print_given [] values l e = absurd (omega (arith, l))
  print_given (p ∷ ps) None l e = cc
  print_given (p ∷ ps) (Some vs) l e = ap (λ k. Some (key_number k)) (same_Some (key_of (p ∷ ps) vs) key e)

  -- a change that gives the key is filed under its number
  pub finds_key : FindsKey t places key changes entries
  finds_key n e =
      let h : (x : Change) × (slice_get changes n ≡ Some x) × (gives_key t places key x ≡ true) = there (gives_key t places key) (slice_get changes n) e in
      let c : Change = h.0 in
      let parts = and_parts (is_in t c) (has_key places key c.values) h.2 in
      let at : slice_get entries n ≡ Some (entry_of tables c) = ap (λ (es : List Entry). slice_get es n) filed ∙ slice_get-map (entry_of tables) changes n ∙ ap (option_map (entry_of tables)) h.1 in
      let k : Spot = record { table = t.0; number = key_number key; list = 0; place = n } in
      let table : c.row.table ≡ t = λ i. record { 0 = eqb-true c.row.table.0 t.0 parts.0 i } in
      let long : 0 < length places = omega (arith, some, as_many) in
      let mark : key_mark (entry_of tables c) ≡ Some (t.0, key_number key) =
      ap (λ (u : TableId). option_map (λ n. (u.0, n)) (print_of (key_places tables u) c.values)) table
      ∙ ap (λ ps. option_map (λ n. (t.0, n)) (print_of ps c.values)) same
      ∙ ap (option_map (λ n. (t.0, n))) (print_given places c.values long (has_key-true places key c.values parts.1))
      in
      ap (λ o. is_mark_of k (option_and_then key_mark o)) at ∙ ap (is_mark_of k) mark
      ∙ ap (λ b. b && eqb (key_number key) (key_number key)) (eq-eqb t.0 t.0 refl) ∙ eq-eqb (key_number key) (key_number key) refl

pub all_find : (tables : List Table) (live : List FiledTransaction) (t : TableId) (places : List ℕ) (key : List Value) → key_places tables t ≡ places → 0 < length key → length places ≡ length key
    → AreFiledBy tables live → All (FindsKeyBy t places key) live
all_find tables live t places key same some as_many filed =
    All-weaker (IsFiledBy tables) (FindsKeyBy t places key) (λ x f. finds_key tables x.transaction.changes x.entries f.entries t places key same some as_many) live filed

-- the changes before one of those that take free keys
free_before : (commits : List (List Change)) (tables : List Table) (before changes : List Change) (n : ℕ) (c : Change) → TakesFreeKeys commits tables before changes → slice_get changes n ≡ Some c
    → IsFreeKey commits tables (before ++ take n changes) c
free_before commits tables before [] n c free e = cc
free_before commits tables before (d ∷ ds) zero c free e =
    subst (λ (x : Change). IsFreeKey commits tables (before ++ []) x) (same_Some d c e) (subst (λ xs. IsFreeKey commits tables xs d) (sym (append-nil before)) free.0)
free_before commits tables before (d ∷ ds) (suc n) c free e =
    subst (λ xs. IsFreeKey commits tables xs c) (append_assoc before (d ∷ []) (take n ds)) (free_before commits tables (before ++ d ∷ []) ds n c free.1 e)

pub takes_free : (commits : List (List Change)) (tables : List Table) (changes : List Change) (t : TableId) (places : List ℕ) (key : List Value) → key_places tables t ≡ places → 0 < length key
    → TakesFreeKeys commits tables [] changes → TakesFree t places key changes
takes_free commits tables changes t places key same some free n c e gives row apart table had =
    let parts = and_parts (is_in t c) (has_key places key c.values) gives in
    let inside : c.row.table ≡ t = λ i. record { 0 = eqb-true c.row.table.0 t.0 parts.0 i } in
    let at : key_places tables c.row.table ≡ places = ap (key_places tables) inside ∙ same in
    let its : key_by tables c ≡ Some key = ap (λ ps. option_map (key_of ps) c.values) at ∙ has_key-true places key c.values parts.1 in
    let is : row_in c.row.table row.row ≡ row = λ i. record { table = (inside ∙ sym table) i; row = row.row } in
    let other : row.row ≡ c.row.row → ⊥ = λ r. apart (λ i. record { table = (table ∙ sym inside) i; row = r i }) in
    free_before commits tables [] changes n c free e key row.row some its other
    (ap (λ ps. option_map (key_of ps) (over (last_change (row_in c.row.table row.row) (take n changes)) (Latest commits (row_in c.row.table row.row)))) at
    ∙ ap (λ r. option_map (key_of places) (over (last_change r (take n changes)) (Latest commits r))) is
    ∙ by (last_change row (take n changes)) (Latest commits row) had)
  where
    by : (o : Option Change) (l : Option (List Value)) → option_map (key_of places) (values_by o) ≡ Some key → option_map (key_of places) (over o l) ≡ Some key
    by None l h = cc
    by (Some d) l h = h

-- the last change that gives the key
module _ (t : TableId) (places : List ℕ) (key : List Value) (changes : List Change) where
  abbrev Fails : ℕ → Type 0
  Fails q = passes_at (gives_key t places key) changes q ≡ false

  module _ (entries : List Entry) (filed : FindsKey t places key changes entries) (print end : ℕ) (is : print ≡ key_number key) (behind : (q : ℕ) → end ≤ q → Fails q) where
    filed_there : (q : ℕ) → passes_at (gives_key t places key) changes q ≡ true → IsFiledAt entries t print q
    filed_there q e = subst (λ n. IsFiledAt entries t n q) (sym is) (filed q e)

    pub fails_from : (p : ℕ) → IsLastFiled entries t print end p → passes_at (gives_key t places key) changes p ≡ false → (q : ℕ) → p ≤ q → Fails q
    fails_from p last fails q le = ⊎_elim
        (λ (a : q < end). false_from_ne_true (passes_at (gives_key t places key) changes q) (λ e.
        let up : q ≤ p = last.last q a (filed_there q e) in
        let one : p ≡ q = omega (arith, up, le) in
        both_ways (passes_at (gives_key t places key) changes q) (subst Fails one fails) e))
        (λ (b : end ≤ q). behind q b) (cases_lt q end)

    pub is_last : (p : ℕ) → IsLastFiled entries t print end p → passes_at (gives_key t places key) changes p ≡ true → IsLastGiver t places key changes p
    is_last p last here = record {
      here = here;
      last = λ q l. ⊎_elim
          (λ (a : q < end). false_from_ne_true (passes_at (gives_key t places key) changes q) (λ e.
          let up : q ≤ p = last.last q a (filed_there q e) in
          absurd (omega (arith, up, l))))
          (λ (b : end ≤ q). behind q b) (cases_lt q end);
    }

    pub none_gives : IsNoneFiledBefore entries t print end → NoneGives t places key changes
    none_gives none q = ⊎_elim
        (λ (a : q < end). false_from_ne_true (passes_at (gives_key t places key) changes q) (λ e. none q a (filed_there q e)))
        (λ (b : end ≤ q). behind q b) (cases_lt q end)

  pub some_gives : (o : Option ℕ) → IfSome o (IsLastGiver t places key changes) → IfNone o (NoneGives t places key changes) → is_some o ≡ list_any (gives_key t places key) changes
  some_gives None some none = sym (none_at (gives_key t places key) changes none)
  some_gives (Some p) some none = sym (any_at (gives_key t places key) changes p some.here)

  module _ (this : Option RowNo) where
    abbrev lasts : Change → Bool
    lasts = gives_at_last changes t this places key

    -- what gives the key at last gives it
    pub gives_last : (c : Change) → gives_at_last changes t this places key c ≡ true → (is_another this c.row.row.0 ≡ true) × (gives_key t places key c ≡ true) × (has_key places key (values_by (last_change c.row changes)) ≡ true)
    gives_last c e =
        let outer = and_parts (is_another this c.row.row.0) (gives_key t places key c && has_key places key (values_by (last_change c.row changes))) e in
        let inner = and_parts (gives_key t places key c) (has_key places key (values_by (last_change c.row changes))) outer.1 in
        (outer.0, inner.0, inner.1)

    pub none_has : NoneGives t places key changes → false ≡ own_has changes t this places key
    none_has none = sym (none_at lasts changes (λ q. false_from_ne_true (passes_at lasts changes q) (λ e.
        let x = there lasts (slice_get changes q) e in
        both_ways (passes_at (gives_key t places key) changes q) (none q) (ap (passes (gives_key t places key)) x.1 ∙ (gives_last x.0 x.2).1))))

    taken_from : (xs : List Change) (n q : ℕ) (x : Change) → slice_get (take n xs) q ≡ Some x → slice_get xs q ≡ Some x
    taken_from xs zero q x e = cc
    taken_from [] (suc n) q x e = cc
    taken_from (y ∷ ys) (suc n) zero x e = e
    taken_from (y ∷ ys) (suc n) (suc q) x e = taken_from ys n q x e

    taken_to : (xs : List Change) (n q : ℕ) (x : Change) → slice_get xs q ≡ Some x → q < n → slice_get (take n xs) q ≡ Some x
    taken_to xs zero q x e l = absurd (omega (arith, l))
    taken_to [] (suc n) q x e l = cc
    taken_to (y ∷ ys) (suc n) zero x e l = e
    taken_to (y ∷ ys) (suc n) (suc q) x e l = taken_to ys n q x e (omega (arith, l))

    row-itself : (r : RowId) → is_row r r ≡ true
    row-itself r = and_from (eqb r.table.0 r.table.0) (eqb r.row.0 r.row.0) (eq-eqb r.table.0 r.table.0 refl) (eq-eqb r.row.0 r.row.0 refl)

    -- The last change that gives the key decides: where it doesn't have it now, another row that has it would have got it
    -- before, and then the key wasn't free.
    module _ (free : TakesFree t places key changes) (p : ℕ) (giver : IsLastGiver t places key changes p) where
      decided : passes_at (gives_at_last changes t this places key) changes p ≡ false → (q : ℕ) → passes_at (gives_at_last changes t this places key) changes q ≡ true → ⊥
      decided fails q e =
          let x : (d : Change) × (slice_get changes q ≡ Some d) × (gives_at_last changes t this places key d ≡ true) = there lasts (slice_get changes q) e in
          let facts = gives_last x.0 x.2 in
          let last : (g : Change) × (last_change x.0.row changes ≡ Some g) = valued places key (last_change x.0.row changes) facts.2 in
          let g : Change = last.0 in
          let at = last_out_list x.0.row changes g last.1 in
          let row : g.row ≡ x.0.row = is_row-true g.row x.0.row at.2 in
          let table : eqb x.0.row.table.0 t.0 ≡ true = (and_parts (is_in t x.0) (has_key places key x.0.values) facts.1).0 in
          let has : has_key places key g.values ≡ true = ap (λ o. has_key places key (values_by o)) (sym last.1) ∙ facts.2 in
          let gives : gives_key t places key g ≡ true = and_from (is_in t g) (has_key places key g.values) (ap (λ (r : RowId). eqb r.table.0 t.0) row ∙ table) has in
          let up : at.0 ≤ p = ⊎_elim (λ (l : p < at.0). absurd (both_ways (passes_at (gives_key t places key) changes at.0) (giver.last at.0 l) (ap (passes (gives_key t places key)) at.1 ∙ gives))) (λ (l : at.0 ≤ p). l) (cases_lt p at.0) in
          ⊎_elim
          (λ (less : at.0 < p).
          let c : (d : Change) × (slice_get changes p ≡ Some d) × (gives_key t places key d ≡ true) = there (gives_key t places key) (slice_get changes p) giver.here in
          let before : last_change x.0.row (take p changes) ≡ Some g =
          last_in_list x.0.row (take p changes) at.0 g (taken_to changes p at.0 g at.1 less) at.2 (λ i y h k. at.3 i y (taken_from changes p i y h) k) in
          let apart : x.0.row ≡ c.0.row → ⊥ = λ one.
          let k : p ≤ at.0 = at.3 p c.0 c.1 (ap (λ (r : RowId). is_row r x.0.row) (sym one) ∙ row-itself x.0.row) in absurd (omega (arith, k, less)) in
          free p c.0 c.1 c.2 x.0.row apart (λ i. record { 0 = eqb-true x.0.row.table.0 t.0 table i }) (ap (λ o. option_map (key_of places) (values_by o)) before ∙ has_key-true places key g.values has))
          (λ (more : p ≤ at.0).
          let one : at.0 ≡ p = omega (arith, more, up) in
          both_ways (passes_at lasts changes p) fails
          (ap (λ n. passes_at lasts changes n) (sym one) ∙ ap (passes lasts) at.1
          ∙ and_from (is_another this g.row.row.0) (gives_key t places key g && has_key places key (values_by (last_change g.row changes))) (ap (λ (r : RowId). is_another this r.row.0) row ∙ facts.0)
          (and_from (gives_key t places key g) (has_key places key (values_by (last_change g.row changes))) gives (ap (λ (r : RowId). has_key places key (values_by (last_change r changes))) row ∙ facts.2))))
          (cases_lt at.0 p)

      pub last_decides : passes_at (gives_at_last changes t this places key) changes p ≡ own_has changes t this places key
      last_decides = by (passes_at lasts changes p) refl
        where
          by : (b : Bool) → passes_at (gives_at_last changes t this places key) changes p ≡ b → passes_at (gives_at_last changes t this places key) changes p ≡ own_has changes t this places key
          by true e = e ∙ sym (any_at lasts changes p e)
          by false e = e ∙ sym (none_at lasts changes (λ q. false_from_ne_true (passes_at lasts changes q) (decided e q)))

-- what the test of keys asks of a transaction that is there
pub own_keys : (commits : List (List Change)) (tables : List Table) (live seen : List FiledTransaction) (u : TxId) (x : FiledTransaction) (t : TableId) (places : List ℕ) (key : List Value) → IsKept commits tables live → seen ≡ live
    → IsIn (names_of (transactions_of live)) u → x.transaction ≡ unwrap_or (find (is_named u) (transactions_of seen)) (not_begun u) → (AreFiledBy tables seen → IsFiledBy tables x)
    → key_places tables t ≡ places → 0 < length key → length places ≡ length key → FindsKey t places key x.transaction.changes x.entries × TakesFree t places key x.transaction.changes
own_keys commits tables live seen u x t places key kept same there is filed at some as_many =
    let mine : Transaction = unwrap_or (find (is_named u) (transactions_of live)) (not_begun u) in
    let own : x.transaction ≡ mine = is ∙ ap (λ xs. unwrap_or (find (is_named u) (transactions_of xs)) (not_begun u)) same in (
      finds_key tables x.transaction.changes x.entries (filed (subst (AreFiledBy tables) (sym same) kept.filed)).entries t places key at some as_many,
      takes_free commits tables x.transaction.changes t places key at some
          (subst (λ (y : Transaction). TakesFreeKeys commits tables [] y.changes) (sym own) (kept.sound.free u mine (own_found u (transactions_of live) there))),
    )
