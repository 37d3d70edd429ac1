-- How filing and withdrawing one change keep the index.
use Rattle.std.proofs.Common.{◌≡◌, ◌≢◌, ℕ, zero, suc, ◌⊎◌, inl, inr, Bool, true, false, cond, eqb, List, [], ◌∷◌, ◌++◌, Option, Some, None, option_map, map, length, refl, sym, ap, ◌∙◌, subst}
use Rattle.std.specs.Prelude.{set, slice_get, option_and_then}
use Rattle.std.proofs.lemmas.Bool.{false≢true, eqb-true, and_parts, cases_eq, false_from_ne_true}
use Rattle.std.proofs.lemmas.List.{map-append}
use Rattle.std.proofs.lemmas.Option.{same_Some}
use Rattle.ebr_base.specs.declared.row.RowId.{RowId}
use Rattle.ebr_spots.specs.declared.spot.Spot.{Spot}
use Rattle.ebr_spots.specs.Spots.{has, is_spot}
use Rattle.ebr_spots.specs.Filed.{Mark, found, is_mark_of, is_filed, IsIndexOf}
use Rattle.ebr_spots.proofs.Filing.{filed_none, found_map, index_more, index_less}
use Rattle.ebr_spots.proofs.Order.{is_spot-true, is_spot-same}
use Rattle.ebr_versions.specs.declared.index.Entry.{Entry}
use Rattle.ebr_versions.specs.inside.Index.{row_mark, key_mark, Files, Withdraws, Stays, Keeps, AreOvertaken, FollowsKeys, LosesKey}

module _ (mark : Entry → Option Mark) (e : Entry) (table number list place : ℕ) (marked : mark e ≡ Some (table, number)) where
  abbrev s : Spot
  s = record { table = table; number = number; list = list; place = place }

  files_at : (old new : List Spot) → ((q : Spot) → has new q ≡ cond (is_spot s q) true (has old q)) → Files mark list place e old new
  files_at old new added front pending l p index = index_more mark front pending e s (sym l) (sym p) marked old new added index

  pub files : (t : Spot) → t ≡ s → (old new : List Spot) → ((q : Spot) → has new q ≡ cond (is_spot t q) true (has old q)) → Files mark list place e old new
  files t is old new added = files_at old new (subst (λ (t : Spot). (q : Spot) → has new q ≡ cond (is_spot t q) true (has old q)) is added)

  withdraws_at : (old new : List Spot) → ((q : Spot) → has new q ≡ cond (is_spot s q) false (has old q)) → Withdraws mark list place e old new
  withdraws_at old new removed front pending l p index = index_less mark front pending e s (sym l) (sym p) marked old new removed index

  pub withdraws : (t : Spot) → t ≡ s → (old new : List Spot) → ((q : Spot) → has new q ≡ cond (is_spot t q) false (has old q)) → Withdraws mark list place e old new
  withdraws t is old new removed = withdraws_at old new (subst (λ (t : Spot). (q : Spot) → has new q ≡ cond (is_spot t q) false (has old q)) is removed)

module _ (mark : Entry → Option Mark) (e : Entry) (list place : ℕ) (none : mark e ≡ None) where
  pub files_none : (xs : List Spot) → Files mark list place e xs xs
  files_none xs front pending l p index q = index q ∙ sym (filed_none mark front pending e none q)

  pub withdraws_none : (xs : List Spot) → Withdraws mark list place e xs xs
  withdraws_none xs front pending l p index q = index q ∙ filed_none mark front pending e none q

pub stays : (mark : Entry → Option Mark) (e : Entry) (list place : ℕ) (old mid new : List Spot) → Files mark list place e old mid → Withdraws mark list place e mid new → Stays mark list place old new
stays mark e list place old mid new f w front pending l p index = w front pending l p (f front pending l p index)

-- the whole index, after one more change, after none, and after one fewer
module _ (e : Entry) (list place : ℕ) (rows keys rows' keys' : List Spot) (pending more : List Entry) (at : length pending ≡ place) (push : more ≡ pending ++ e ∷ []) where
  pub keeps_more : Files row_mark list place e rows rows' → Files key_mark list place e keys keys'
      → Keeps list (record { rows = rows; keys = keys; pending = pending }) (record { rows = rows'; keys = keys'; pending = more })
  keeps_more r k front l x = record {
    rows = subst (λ ps. IsIndexOf row_mark rows' (front ++ ps ∷ [])) (sym push) (r front pending l at x.rows);
    keys = subst (λ ps. IsIndexOf key_mark keys' (front ++ ps ∷ [])) (sym push) (k front pending l at x.keys);
  }

  pub keeps_less : Withdraws row_mark list place e rows rows' → Withdraws key_mark list place e keys keys'
      → Keeps list (record { rows = rows; keys = keys; pending = more }) (record { rows = rows'; keys = keys'; pending = pending })
  keeps_less r k front l x = record {
    rows = r front pending l at (subst (λ ps. IsIndexOf row_mark rows (front ++ ps ∷ [])) push x.rows);
    keys = k front pending l at (subst (λ ps. IsIndexOf key_mark keys (front ++ ps ∷ [])) push x.keys);
  }

pub keeps_same : (list place : ℕ) (rows keys rows' keys' : List Spot) (pending same : List Entry) → length pending ≡ place → same ≡ pending → Stays row_mark list place rows rows' → keys' ≡ keys
    → Keeps list (record { rows = rows; keys = keys; pending = pending }) (record { rows = rows'; keys = keys'; pending = same })
keeps_same list place rows keys rows' keys' pending same at is r k front l x = record {
  rows = subst (λ ps. IsIndexOf row_mark rows' (front ++ ps ∷ [])) (sym is) (r front pending l at x.rows);
  keys = subst (λ ks. IsIndexOf key_mark ks (front ++ same ∷ [])) (sym k) (subst (λ ps. IsIndexOf key_mark keys (front ++ ps ∷ [])) (sym is) x.keys);
}

-- a change of the list to come isn't filed under its key any more
module _ (e : Entry) (list place : ℕ) where
  abbrev key_spot : ℕ → Spot
  key_spot print = record { table = e.row.table.0; number = print; list = list; place = place }

  spot_is : (print : ℕ) → e.print ≡ Some print → (q : Spot) → q.list ≡ list → q.place ≡ place → is_mark_of q (key_mark e) ≡ true → key_spot print ≡ q
  spot_is print p q l o m =
      let marked : is_mark_of q (Some (e.row.table.0, print)) ≡ true = sym (ap (λ (x : Option ℕ). is_mark_of q (option_map (λ n. (e.row.table.0, n)) x)) p) ∙ m in
      let parts = and_parts (eqb e.row.table.0 q.table) (eqb print q.number) marked in
      let t : e.row.table.0 ≡ q.table = eqb-true e.row.table.0 q.table parts.0 in
      let n : print ≡ q.number = eqb-true print q.number parts.1 in
      λ i. record { table = t i; number = n i; list = sym l i; place = sym o i }

  loses_at : (print : ℕ) → e.print ≡ Some print → (old new : List Spot) → ((q : Spot) → has new q ≡ cond (is_spot (key_spot print) q) false (has old q)) → LosesKey list place e old new
  loses_at print p old new removed = record {
    here = λ q l o m. removed q ∙ ap (λ b. cond b false (has old q)) (subst (λ (x : Spot). is_spot (key_spot print) x ≡ true) (spot_is print p q l o m) (is_spot-same (key_spot print)));
    fewer = λ q h. kept q (is_spot (key_spot print) q) (sym (removed q) ∙ h);
    others = λ q n. removed q ∙ ap (λ b. cond b false (has old q)) (false_from_ne_true _ (λ same.
        let s : key_spot print ≡ q = is_spot-true (key_spot print) q same in n (sym (ap (λ (x : Spot). x.list) s)) (sym (ap (λ (x : Spot). x.place) s))));
  }
    where
      kept : (q : Spot) (b : Bool) → cond b false (has old q) ≡ true → has old q ≡ true
      kept q true h = absurd (false≢true h)
      kept q false h = h

  pub loses : (print : ℕ) → e.print ≡ Some print → (t : Spot) → t ≡ key_spot print → (old new : List Spot) → ((q : Spot) → has new q ≡ cond (is_spot t q) false (has old q)) → LosesKey list place e old new
  loses print p t is old new removed = loses_at print p old new (subst (λ (t : Spot). (q : Spot) → has new q ≡ cond (is_spot t q) false (has old q)) is removed)

  pub loses_none : e.print ≡ None → (xs : List Spot) → LosesKey list place e xs xs
  loses_none p xs = record {
    here = λ q l o m. absurd (false≢true (ap (λ (x : Option ℕ). is_mark_of q (option_map (λ n. (e.row.table.0, n)) x)) (sym p) ∙ m));
    fewer = λ q h. h;
    others = λ q n. refl;
  }

set_here : (xs : List Entry) (n : ℕ) (y x : Entry) → slice_get xs n ≡ Some x → slice_get (set xs n y) n ≡ Some y
set_here [] n y x e = cc
set_here (z ∷ zs) zero y x e = refl
set_here (z ∷ zs) (suc n) y x e = set_here zs n y x e

set_else : (xs : List Entry) (n p : ℕ) (y : Entry) → (p ≡ n → ⊥) → slice_get (set xs n y) p ≡ slice_get xs p
set_else [] n p y h = refl
set_else (z ∷ zs) zero zero y h = absurd (h refl)
set_else (z ∷ zs) zero (suc p) y h = refl
set_else (z ∷ zs) (suc n) zero y h = refl
set_else (z ∷ zs) (suc n) (suc p) y h = set_else zs n p y (λ e. h (ap suc e))

abbrev pub rows_of : List Entry → List RowId
rows_of entries = map (λ (e : Entry). e.row) entries

set_rows : (xs : List Entry) (n : ℕ) (y x : Entry) → slice_get xs n ≡ Some x → x.row ≡ y.row → rows_of (set xs n y) ≡ rows_of xs
set_rows [] n y x e r = cc
set_rows (z ∷ zs) zero y x e r = ap (λ (w : RowId). w ∷ rows_of zs) (sym (ap (λ (w : Entry). w.row) (same_Some z x e) ∙ r))
set_rows (z ∷ zs) (suc n) y x e r = ap (λ (ws : List RowId). z.row ∷ ws) (set_rows zs n y x e r)

found_last : (front : List (List Entry)) (xs : List Entry) (p : ℕ) → found (front ++ xs ∷ []) (length front) p ≡ slice_get xs p
found_last [] xs p = refl
found_last (y ∷ ys) xs p = found_last ys xs p

found_others : (front : List (List Entry)) (xs ys : List Entry) (i p : ℕ) → (i ≡ length front → ⊥) → found (front ++ xs ∷ []) i p ≡ found (front ++ ys ∷ []) i p
found_others [] xs ys zero p n = absurd (n refl)
found_others [] xs ys (suc i) p n = refl
found_others (z ∷ zs) xs ys zero p n = refl
found_others (z ∷ zs) xs ys (suc i) p n = found_others zs xs ys i p (λ e. n (ap suc e))

-- an entry of the row has lost its key
module _ (row : RowId) (place : ℕ) (e : Entry) (was now : List Entry) (here : slice_get was place ≡ Some e) (put : now ≡ set was place (record { row = row; print = None })) where
  abbrev lost : Entry
  lost = record { row = row; print = None }

  pub overtaken : e.row ≡ row → AreOvertaken row was now
  overtaken same = record {
    rows = ap rows_of put ∙ set_rows was place lost e here same;
    others = λ p f g n. ap (λ (xs : List Entry). slice_get xs p) put
        ∙ set_else was place p lost (λ at. n (ap (λ (x : Entry). x.row) (same_Some f e (sym g ∙ ap (slice_get was) at ∙ here)) ∙ same)) ∙ g;
  }

  pub follows : (list : ℕ) (old new : List Spot) → LosesKey list place e old new → FollowsKeys list was now old new
  follows list old new loses front l index q = by (cases_eq q.list list) (cases_eq q.place place)
    where
      was_here : q.list ≡ list → q.place ≡ place → is_filed key_mark (front ++ was ∷ []) q ≡ is_mark_of q (key_mark e)
      was_here a b =
          ap (λ o. is_mark_of q (option_and_then key_mark o)) (ap (λ i. found (front ++ was ∷ []) i q.place) (a ∙ sym l) ∙ found_last front was q.place ∙ ap (slice_get was) b ∙ here)

      is_here : q.list ≡ list → q.place ≡ place → is_filed key_mark (front ++ now ∷ []) q ≡ false
      is_here a b =
          ap (λ o. is_mark_of q (option_and_then key_mark o))
          (ap (λ i. found (front ++ now ∷ []) i q.place) (a ∙ sym l) ∙ found_last front now q.place ∙ ap (slice_get now) b ∙ ap (λ (xs : List Entry). slice_get xs place) put ∙ set_here was place lost e here)

      gone : q.list ≡ list → q.place ≡ place → (b : Bool) → is_mark_of q (key_mark e) ≡ b → has new q ≡ false
      gone a b true m = loses.here q a b m
      gone a b false m = false_from_ne_true _ (λ h. false≢true (sym (index q ∙ was_here a b ∙ m) ∙ loses.fewer q h))

      by : (q.list ≡ list) ⊎ (q.list ≢ list) → (q.place ≡ place) ⊎ (q.place ≢ place) → has new q ≡ is_filed key_mark (front ++ now ∷ []) q
      by (inl a) (inl b) = gone a b (is_mark_of q (key_mark e)) refl ∙ sym (is_here a b)
      by (inl a) (inr n) =
          loses.others q (λ _. n) ∙ index q
          ∙ ap (λ o. is_mark_of q (option_and_then key_mark o))
          (ap (λ i. found (front ++ was ∷ []) i q.place) (a ∙ sym l) ∙ found_last front was q.place
          ∙ sym (ap (λ i. found (front ++ now ∷ []) i q.place) (a ∙ sym l) ∙ found_last front now q.place ∙ ap (λ (xs : List Entry). slice_get xs q.place) put ∙ set_else was place q.place lost n))
      by (inr n) b =
          loses.others q (λ a _. n a) ∙ index q ∙ ap (λ o. is_mark_of q (option_and_then key_mark o)) (found_others front was now q.list q.place (λ a. n (a ∙ l)))

-- rows are filed as they were
rows_marked : (xss : List (List Entry)) (i p : ℕ) → option_and_then row_mark (found xss i p) ≡ option_and_then (λ (r : RowId). let m : Mark = (r.table.0, r.row.0) in Some m) (found (map rows_of xss) i p)
rows_marked xss i p = by (found xss i p) ∙ ap (option_and_then (λ (r : RowId). let m : Mark = (r.table.0, r.row.0) in Some m)) (sym (found_map (λ (e : Entry). e.row) xss i p))
  where
    by : (o : Option Entry) → option_and_then row_mark o ≡ option_and_then (λ (r : RowId). let m : Mark = (r.table.0, r.row.0) in Some m) (option_map (λ (e : Entry). e.row) o)
    by None = refl
    by (Some e) = refl

pub rows_kept : (rows : List Spot) (xss yss : List (List Entry)) → map rows_of yss ≡ map rows_of xss → IsIndexOf row_mark rows xss → IsIndexOf row_mark rows yss
rows_kept rows xss yss same index q =
    index q
    ∙ ap (is_mark_of q) (rows_marked xss q.list q.place ∙ ap (λ (rss : List (List RowId)). option_and_then (λ (r : RowId). let m : Mark = (r.table.0, r.row.0) in Some m) (found rss q.list q.place)) (sym same) ∙ sym (rows_marked yss q.list q.place))

pub keeps_overtaken : (row : RowId) (list : ℕ) (rows keys keys' : List Spot) (was now : List Entry) → AreOvertaken row was now → FollowsKeys list was now keys keys'
    → Keeps list (record { rows = rows; keys = keys; pending = was }) (record { rows = rows; keys = keys'; pending = now })
keeps_overtaken row list rows keys keys' was now o f front l x = record {
  rows = rows_kept rows (front ++ was ∷ []) (front ++ now ∷ [])
      (map-append rows_of front (now ∷ []) ∙ ap (λ (rs : List RowId). map rows_of front ++ rs ∷ []) o.rows ∙ sym (map-append rows_of front (was ∷ []))) x.rows;
  keys = f front l x.keys;
}
