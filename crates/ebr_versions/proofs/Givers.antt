-- The row that has a key, by the places of the changes that give it.
use Rattle.std.proofs.Common.{◌≡◌, ◌≢◌, ℕ, zero, suc, ◌+◌, ◌<◌, ◌≤◌, ◌⊎◌, inl, inr, ⊎_elim, Bool, true, false, cond, eqb, List, [], ◌∷◌, Option, Some, None, option_map, take, length, refl, sym, ap, ◌∙◌, subst, arith}
use Rattle.std.specs.Prelude.{slice_get, option_and_then}
use Rattle.std.proofs.lemmas.Bool.{false≢true, false_from_ne_true, cases_lt, cases_eq, eqb-true, eq-eqb}
use Rattle.std.proofs.lemmas.Option.{same_Some}
use Rattle.ebr_base.specs.declared.numbers.TableId.{TableId}
use Rattle.ebr_base.specs.declared.numbers.RowNo.{RowNo}
use Rattle.ebr_base.specs.declared.row.RowId.{RowId}
use Rattle.ebr_base.specs.declared.row.Change.{Change}
use Rattle.ebr_base.specs.declared.value.Value.{Value}
use Rattle.ebr_spots.specs.declared.spot.Spot.{Spot}
use Rattle.ebr_spots.specs.Spots.{has, at, IsEarlier, IsNoLater, IsLastBefore, IsNoneBefore}
use Rattle.ebr_spots.specs.Filed.{found, is_mark_of}
use Rattle.ebr_versions.specs.Data.{is_of, is_in, is_row, last_change, changes_in, values_by}
use Rattle.ebr_versions.specs.Keys.{key_of, key_at, row_in}
use Rattle.ebr_versions.specs.inside.Index.{IsRowIndex, print_of, change_mark}
use Rattle.ebr_versions.specs.inside.Keys.{Gives, IsGiver, StandsLast, IsKeyIndex, KeysDifferThen}
use Rattle.ebr_versions.specs.inside.Print.{key_number}
use Rattle.ebr_versions.proofs.DataLemmas.{or_else, last_change-append}
use Rattle.ebr_versions.proofs.KeyLemmas.{is_row-true, is_row-itself, has_change}
use Rattle.ebr_versions.proofs.LastChanges.{last_cons, last_in}
use Rattle.ebr_versions.proofs.Numbers.{found_in}

-- d is the last change of the row in the first n lists, at j and q
pub record IsLastAt (row : RowId) (xss : List (List Change)) (n : ℕ) (d : Change) (j q : ℕ) : Type 0 where
  pub within : j < n
  pub here : found xss j q ≡ Some d
  pub of : is_of row d ≡ true
  pub last : (i p : ℕ) (c : Change) → i < n → found xss i p ≡ Some c → is_of row c ≡ true → (i ≤ j) × (i ≡ j → p ≤ q)

none_both : {X : Type 0} (a b : Option X) → or_else a b ≡ None → (a ≡ None) × (b ≡ None)
none_both None b e = (refl, e)
none_both (Some x) b e = cc

none_cond : (b : Bool) (x : Change) → cond b (Some x) None ≡ None → b ≡ false
none_cond true x e = cc
none_cond false x e = refl

module _ (row : RowId) where
  none_out_list : (xs : List Change) → last_change row xs ≡ None → (p : ℕ) (c : Change) → slice_get xs p ≡ Some c → is_of row c ≡ false
  none_out_list [] e p c f = cc
  none_out_list (x ∷ xs) e zero c f =
      let parts = none_both (last_change row xs) (cond (is_of row x) (Some x) None) (sym (last_cons row x xs) ∙ e) in
      sym (ap (is_of row) (same_Some x c f)) ∙ none_cond (is_of row x) x parts.1
  none_out_list (x ∷ xs) e (suc p) c f =
      let parts = none_both (last_change row xs) (cond (is_of row x) (Some x) None) (sym (last_cons row x xs) ∙ e) in
      none_out_list xs parts.0 p c f

  pub none_out : (xss : List (List Change)) (n : ℕ) → last_change row (changes_in (take n xss)) ≡ None → (i p : ℕ) (c : Change) → i < n → found xss i p ≡ Some c → is_of row c ≡ false
  none_out xss zero e i p c l f = absurd (omega (arith, l))
  none_out [] (suc n) e i p c l f = cc
  none_out (xs ∷ xss) (suc n) e zero p c l f =
      let parts = none_both (last_change row (changes_in (take n xss))) (last_change row xs) (sym (last_change-append row xs (changes_in (take n xss))) ∙ e) in
      none_out_list xs parts.1 p c f
  none_out (xs ∷ xss) (suc n) e (suc i) p c l f =
      let parts = none_both (last_change row (changes_in (take n xss))) (last_change row xs) (sym (last_change-append row xs (changes_in (take n xss))) ∙ e) in
      none_out xss n parts.0 i p c (omega (arith, l)) f

  abbrev pub LastInList : List Change → Change → Type 0
  LastInList xs d = (q : ℕ) × (slice_get xs q ≡ Some d) × (is_of row d ≡ true) × ((p : ℕ) (c : Change) → slice_get xs p ≡ Some c → is_of row c ≡ true → p ≤ q)

  pub last_out_list : (xs : List Change) (d : Change) → last_change row xs ≡ Some d → LastInList xs d
  last_out_list [] d e = cc
  last_out_list (x ∷ xs) d e = by (last_change row xs) refl (last_out_list xs) (sym (last_cons row x xs) ∙ e)
    where
      here : (b : Bool) → is_of row x ≡ b → last_change row xs ≡ None → cond b (Some x) None ≡ Some d → LastInList (x ∷ xs) d
      here true o none e =
          let same : x ≡ d = same_Some x d e in
          (zero, ap Some same, sym (ap (is_of row) same) ∙ o, λ p c f g. first p c none f g)
        where
          first : (p : ℕ) (c : Change) → last_change row xs ≡ None → slice_get (x ∷ xs) p ≡ Some c → is_of row c ≡ true → p ≤ 0
          first zero c none f g = omega arith
          first (suc p) c none f g = absurd (false≢true (sym (none_out_list xs none p c f) ∙ g))
      here false o none e = cc

      by : (o : Option Change) → last_change row xs ≡ o → ((d : Change) → last_change row xs ≡ Some d → LastInList xs d) → or_else o (cond (is_of row x) (Some x) None) ≡ Some d → LastInList (x ∷ xs) d
      by None none rest e = here (is_of row x) refl none e
      by (Some y) some rest e =
          let r = rest d (some ∙ e) in
          (suc r.0, r.1, r.2, later r.0 r.3)
        where
          later : (q : ℕ) → ((p : ℕ) (c : Change) → slice_get xs p ≡ Some c → is_of row c ≡ true → p ≤ q) → (p : ℕ) (c : Change) → slice_get (x ∷ xs) p ≡ Some c → is_of row c ≡ true → p ≤ suc q
          later q h zero c f g = omega arith
          later q h (suc p) c f g = let k : p ≤ q = h p c f g in omega (arith, k)

  pub last_out : (xss : List (List Change)) (n : ℕ) (d : Change) → last_change row (changes_in (take n xss)) ≡ Some d → (j q : ℕ) × IsLastAt row xss n d j q
  last_out xss zero d e = cc
  last_out [] (suc n) d e = cc
  last_out (xs ∷ xss) (suc n) d e = by (last_change row (changes_in (take n xss))) refl (last_out xss n) (sym (last_change-append row xs (changes_in (take n xss))) ∙ e)
    where
      first : last_change row (changes_in (take n xss)) ≡ None → LastInList xs d → (j q : ℕ) × IsLastAt row (xs ∷ xss) (suc n) d j q
      first none r = (zero, r.0, record { within = omega arith; here = r.1; of = r.2; last = after })
        where
          after : (i p : ℕ) (c : Change) → i < suc n → found (xs ∷ xss) i p ≡ Some c → is_of row c ≡ true → (i ≤ 0) × (i ≡ 0 → p ≤ r.0)
          after zero p c l f g = (omega arith, λ _. r.3 p c f g)
          after (suc i) p c l f g = absurd (false≢true (sym (none_out xss n none i p c (omega (arith, l)) f) ∙ g))

      later : (j q : ℕ) × IsLastAt row xss n d j q → (j q : ℕ) × IsLastAt row (xs ∷ xss) (suc n) d j q
      later r = (suc r.0, r.1, record { within = omega (arith, r.2.within); here = r.2.here; of = r.2.of; last = after })
        where
          after : (i p : ℕ) (c : Change) → i < suc n → found (xs ∷ xss) i p ≡ Some c → is_of row c ≡ true → (i ≤ suc r.0) × (i ≡ suc r.0 → p ≤ r.1)
          after zero p c l f g = (omega arith, λ e. absurd (omega (arith, e)))
          after (suc i) p c l f g =
              let k = r.2.last i p c (omega (arith, l)) f g in
              let a : i ≤ r.0 = k.0 in
              (omega (arith, a), λ e. k.1 (omega (arith, e)))

      by : (o : Option Change) → last_change row (changes_in (take n xss)) ≡ o → ((d : Change) → last_change row (changes_in (take n xss)) ≡ Some d → (j q : ℕ) × IsLastAt row xss n d j q)
          → or_else o (last_change row xs) ≡ Some d → (j q : ℕ) × IsLastAt row (xs ∷ xss) (suc n) d j q
      by None none rest e = first none (last_out_list xs d e)
      by (Some y) some rest e = later (rest d (some ∙ e))

abbrev pub IsEndOf : TableId → List Value → Spot → Type 0
IsEndOf t key end = (end.table ≡ t.0) × (end.number ≡ key_number key)

-- the last changes of the rows that have the key after the first n commits come before an end
abbrev pub HoldersBefore : List (List Change) → List ℕ → TableId → List Value → ℕ → Spot → Type 0
HoldersBefore commits places t key n end =
    (r : RowNo) (d : Change) (j q : ℕ) → key_at (take n commits) places (row_in t r) ≡ Some key → IsLastAt (row_in t r) commits n d j q → IsEarlier (at end j q) end

-- the table's key, at places of which there is one
module _ (commits : List (List Change)) (rows keys : List Spot) (places : List ℕ) (t : TableId) (key : List Value) (n : ℕ)
    (row_index : IsRowIndex rows commits) (key_index : IsKeyIndex places t keys commits) (differ : KeysDifferThen places t commits) (within : n ≤ length commits) (some : 0 < length key) (as_many : length places ≡ length key) where
  abbrev Holds : RowId → Type 0
  Holds row = key_at (take n commits) places row ≡ Some key

  abbrev IsEnd : Spot → Type 0
  IsEnd end = IsEndOf t key end

  abbrev AllBefore : Spot → Type 0
  AllBefore end = HoldersBefore commits places t key n end

  -- a row that has the key has a last change, which gives it
  holder : (row : RowId) → Holds row → (d : Change) × ((j q : ℕ) × IsLastAt row commits n d j q) × Gives places key d
  holder row h =
      let c = has_change places key (last_change row (changes_in (take n commits))) h in
      (c.0, last_out row commits n c.0 c.1, subst (λ (o : Option Change). option_map (key_of places) (values_by o) ≡ Some key) c.1 h)

  -- a change that gives the key is filed under its number
  print_given : (ps : List ℕ) (values : Option (List Value)) → 0 < length ps → option_map (key_of ps) values ≡ Some key → print_of ps values ≡ Some (key_number key)
  print_given [] values l e = absurd (omega (arith, l))
  print_given (p ∷ ps) None l e = cc
  print_given (p ∷ ps) (Some vs) l e = ap (λ k. Some (key_number k)) (same_Some (key_of (p ∷ ps) vs) key e)

  in_table : (r : RowNo) (d : Change) → is_of (row_in t r) d ≡ true → is_in t d ≡ true
  in_table r d o = ap (λ (row : RowId). eqb row.table.0 t.0) (is_row-true d.row (row_in t r) o) ∙ eq-eqb t.0 t.0 refl

  filed : (r : RowNo) (d : Change) (j q : ℕ) → IsLastAt (row_in t r) commits n d j q → Gives places key d → has keys (record { table = t.0; number = key_number key; list = j; place = q }) ≡ true
  filed r d j q last gives =
      key_index.last j q (key_number key) d last.here (in_table r d last.of)
      (λ p e l f. false_from_ne_true _ (λ o.
      let same : is_of (row_in t r) e ≡ true = subst (λ (row : RowId). is_of row e ≡ true) (is_row-true d.row (row_in t r) last.of) o in
      let up : p ≤ q = (last.last j p e last.within f same).1 refl in omega (arith, up, l)))
      (print_given places d.values (omega (arith, some, as_many)) gives)

  pub starts_before : AllBefore (record { table = t.0; number = key_number key; list = n; place = 0 })
  starts_before r d j q h last = record { list = omega (arith, last.within); place = λ e. absurd (omega (arith, last.within, e)) }

  -- no spot is left
  pub none_left : (end : Spot) → IsEnd end → AllBefore end → IsNoneBefore keys end → (r : RowNo) → Holds (row_in t r) → ⊥
  none_left end is before none r h =
      let d = holder (row_in t r) h in
      let here = filed r d.0 d.1.0 d.1.1 d.1.2 d.2 in
      let same : at end d.1.0 d.1.1 ≡ record { table = t.0; number = key_number key; list = d.1.0; place = d.1.1 } = λ i. record { table = is.0 i; number = is.1 i; list = d.1.0; place = d.1.1 } in
      false≢true (sym (none d.1.0 d.1.1 (before r d.0 d.1.0 d.1.1 h d.1.2)) ∙ ap (has keys) same ∙ here)

  -- each last change of a row that has the key comes no later than the last spot before the end
  up_to : (end k : Spot) → IsEnd end → AllBefore end → IsLastBefore keys end k → (r : RowNo) (d : Change) (j q : ℕ) → Holds (row_in t r) → IsLastAt (row_in t r) commits n d j q → Gives places key d → IsNoLater (at end j q) k
  up_to end k is before last r d j q h at_d gives =
      let here = filed r d j q at_d gives in
      let same : at end j q ≡ record { table = t.0; number = key_number key; list = j; place = q } = λ i. record { table = is.0 i; number = is.1 i; list = j; place = q } in
      last.last j q (before r d j q h at_d) (ap (has keys) same ∙ here)

  -- the row of the change at the spot doesn't have the key, so all others come before it
  pub goes_back : (end k : Spot) → IsEnd end → AllBefore end → IsLastBefore keys end k → ((row : RowId) → IsGiver commits k places key row → Holds row → ⊥) → AllBefore k
  goes_back end k is before last none r d j q h at_d =
      let e : d ≡ (holder (row_in t r) h).0 = same_last at_d (holder (row_in t r) h).1.2 in
      let gives : Gives places key d = subst (λ (x : Change). Gives places key x) (sym e) (holder (row_in t r) h).2 in
      let up = up_to end k is before last r d j q h at_d gives in
      record { list = up.list; place = λ l. strict l (up.place l) (cases_eq q k.place) gives }
    where
      same_last : {x : Change} {i p : ℕ} → IsLastAt (row_in t r) commits n d j q → IsLastAt (row_in t r) commits n x i p → d ≡ x
      same_last {x = x} {i = i} {p = p} a b =
          let u = a.last i p x b.within b.here b.of in
          let v = b.last j q d a.within a.here a.of in
          let l : j ≡ i = omega (arith, u.0, v.0) in
          let m : q ≡ p = omega (arith, u.1 (sym l), v.1 l) in
          same_Some d x (sym a.here ∙ ap (λ i. found commits i q) l ∙ ap (found commits i) m ∙ b.here)

      strict : j ≡ k.list → q ≤ k.place → (q ≡ k.place) ⊎ (q ≢ k.place) → Gives places key d → q < k.place
      strict l m (inl e) gives =
          let row = is_row-true d.row (row_in t r) at_d.of in
          absurd (none (row_in t r) (d, ap (λ i. found commits i k.place) (sym l) ∙ ap (found commits j) (sym e) ∙ at_d.here, row, gives) h)
      strict l m (inr e) gives = lt_from q k.place m e
        where
          lt_from : (a b : ℕ) → a ≤ b → a ≢ b → a < b
          lt_from a b h n = ⊎_elim (λ (l : a < b). l) (λ (l : b ≤ a). let e : a ≡ b = omega (arith, h, l) in absurd (n e)) (cases_lt a b)

  -- the row of the change at the spot is one of the table
  pub giver_is : (end k : Spot) (row : RowId) → IsEnd end → IsLastBefore keys end k → k.list < n → IsGiver commits k places key row → row ≡ row_in t row.row
  giver_is end k row is last l giver =
      let inside = key_index.within k giver.0 (omega (arith, l, within)) (last.table ∙ is.0) last.here giver.1 in
      let table : row.table ≡ t = λ i. (ap (λ (x : RowId). x.table) (sym giver.2) ∙ λ j. record { 0 = eqb-true giver.0.row.table.0 t.0 inside j }) i in
      λ i. record { table = table i; row = row.row }

  -- the row of the change at the spot had the key after that commit, so no other row that has it can stand before
  pub nobody : (end k : Spot) (row : RowId) → IsEnd end → AllBefore end → IsLastBefore keys end k → k.list < n → IsGiver commits k places key row → (Holds row → ⊥) → StandsLast rows row k → (r : RowNo) → Holds (row_in t r) → ⊥
  nobody end k row is before last l giver not stands r h =
      let d = holder (row_in t r) h in
      let up = up_to end k is before last r d.0 d.1.0 d.1.1 h d.1.2 d.2 in
      let m : k.list < length commits = omega (arith, l, within) in
      let inside = key_index.within k giver.0 m (last.table ∙ is.0) last.here giver.1 in
      let table : row ≡ row_in t row.row = λ i. record { table = same_table giver.0 (ap (λ (x : RowId). x.table) (sym giver.2)) inside i; row = row.row } in
      let r_had : key_at (take (k.list + 1) commits) places (row_in t r) ≡ Some key =
      ap (λ o. option_map (key_of places) (values_by o)) (last_in (row_in t r) commits (k.list + 1) d.1.0 d.1.1 d.0 (omega (arith, up.list)) d.1.2.here d.1.2.of (λ i p c a f g. d.1.2.last i p c (omega (arith, a, l)) f g)) ∙ d.2 in
      let row_had : key_at (take (k.list + 1) commits) places row ≡ Some key =
      ap (λ o. option_map (key_of places) (values_by o)) (last_in row commits (k.list + 1) k.list k.place giver.0 (omega arith) giver.1 (of_row giver.0 giver.2)
      (λ i p c a f g. let b : i ≤ k.list = omega (arith, a) in stands i p b (filed_row i p c f g))) ∙ giver.3 in
      let same : r ≡ row.row = differ (k.list + 1) r row.row key some r_had (subst (λ (x : RowId). key_at (take (k.list + 1) commits) places x ≡ Some key) table row_had) in
      not (subst Holds (sym (table ∙ ap (λ (x : RowNo). row_in t x) (sym same))) h)
    where
      same_table : (c : Change) → row.table ≡ c.row.table → is_in t c ≡ true → row.table ≡ t
      same_table c e i = e ∙ λ j. record { 0 = eqb-true c.row.table.0 t.0 i j }

      of_row : (c : Change) → c.row ≡ row → is_of row c ≡ true
      of_row c e = ap (λ (x : RowId). is_row x row) e ∙ is_row-itself row

      filed_row : (i p : ℕ) (c : Change) → found commits i p ≡ Some c → is_of row c ≡ true → has rows (record { table = row.table.0; number = row.row.0; list = i; place = p }) ≡ true
      filed_row i p c f g =
          row_index (record { table = row.table.0; number = row.row.0; list = i; place = p }) (found_in commits i p c f)
          ∙ ap (λ o. is_mark_of (record { table = row.table.0; number = row.row.0; list = i; place = p }) (option_and_then change_mark o)) f ∙ g
