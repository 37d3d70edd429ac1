-- Changes that take free keys leave no two rows of a table with one key.
use Rattle.std.proofs.Common.{◌≡◌, ◌≢◌, ℕ, zero, suc, ◌<◌, ◌⊎◌, inl, inr, ⊎_elim, Bool, true, false, List, [], ◌∷◌, ◌++◌, Option, Some, None, length, take, refl, sym, ap, subst, ◌∙◌, append_assoc}
use Rattle.std.specs.Prelude.{option_map, is_some}
use Rattle.std.specs.List.{AllByRecursion}
use Rattle.std.proofs.lemmas.Bool.{both_ways, or_parts}
use Rattle.std.proofs.lemmas.List.{append-nil}
use Rattle.std.proofs.lemmas.List.Concat.{flat_map-append}
use Rattle.ebr_base.specs.declared.numbers.RowNo.{RowNo}
use Rattle.ebr_base.specs.declared.numbers.TableId.{TableId}
use Rattle.ebr_base.specs.declared.row.Change.{Change}
use Rattle.ebr_base.specs.declared.row.RowId.{RowId}
use Rattle.ebr_base.specs.declared.value.Value.{Value}
use Rattle.ebr_versions.specs.declared.table.Table.{Table}
use Rattle.ebr_versions.specs.Data.{is_of, last_change, values_by, changes_row, changes_in, Latest}
use Rattle.ebr_versions.specs.Keys.{key_of, key_places, row_in, KeysDiffer}
use Rattle.ebr_versions.proofs.DataLemmas.{or_else, last_change-append}
use Rattle.ebr_versions.proofs.KeyLemmas.{is_row-true, last_change-of}
use Rattle.ebr_versions.proofs.LawLemmas.{changes_row_is}
use Rattle.ebr_tx.specs.Reads.{over}
use Rattle.ebr_tx.specs.inside.Sound.{Among, key_by, key_with, IsFreeKey, TakesFreeKeys, GiveOtherKeys, ShareNoKey}

all_among : (P : Change → Type 0) (xs : List Change) → ((c : Change) → Among xs c → P c) → AllByRecursion P xs
all_among P [] each = tt
all_among P (x ∷ xs) each = (each x (inl refl), all_among P xs (λ c a. each c (inr a)))

-- the last change of a row is one of the changes, and is of that row
pub last_is : (row : RowId) (changes : List Change) (c : Change) → last_change row changes ≡ Some c → Among changes c × (c.row ≡ row)
last_is row changes c e =
    let facts = last_change-of (Among changes) row changes c (all_among (Among changes) changes (λ d a. a)) e in
    (facts.0, is_row-true c.row row facts.1)

pub among_take : (n : ℕ) (xs : List Change) (c : Change) → Among (take n xs) c → Among xs c
among_take zero xs c a = absurd a
among_take (suc n) [] c a = absurd a
among_take (suc n) (x ∷ xs) c (inl e) = inl e
among_take (suc n) (x ∷ xs) c (inr a) = inr (among_take n xs c a)

pub among_push : (xs : List Change) (d c : Change) → Among (xs ++ d ∷ []) c → Among xs c ⊎ (d ≡ c)
among_push [] d c (inl e) = inr e
among_push [] d c (inr a) = absurd a
among_push (x ∷ xs) d c (inl e) = inl (inl e)
among_push (x ∷ xs) d c (inr a) = ⊎_elim (λ (b : Among xs c). inl (inr b)) (λ (e : d ≡ c). inr e) (among_push xs d c a)

pub share-sym : (tables : List Table) (xs ys : List Change) → ShareNoKey tables xs ys → ShareNoKey tables ys xs
share-sym tables xs ys h c d in_ys in_xs same key some of_c of_d = h d c in_xs in_ys (sym same) key some of_d of_c

pub share-take : (tables : List Table) (n : ℕ) (xs ys : List Change) → ShareNoKey tables xs ys → ShareNoKey tables (take n xs) ys
share-take tables n xs ys h c d a b = h c d (among_take n xs c a) b

pub share-push : (tables : List Table) (xs ys : List Change) (c : Change) → ShareNoKey tables xs ys → ((e : Change) → Among ys e → GiveOtherKeys tables c e) → ShareNoKey tables (xs ++ c ∷ []) ys
share-push tables xs ys c h new d e a b =
    ⊎_elim (λ (old : Among xs d). h d e old b) (λ (is : c ≡ d). subst (λ (x : Change). GiveOtherKeys tables x e) is (new e b)) (among_push xs c d a)

-- values after a commit
over_else : (l o : Option Change) → values_by (or_else l o) ≡ over l (values_by o)
over_else None o = refl
over_else (Some c) o = refl

pub latest_over : (commits : List (List Change)) (changes : List Change) (row : RowId) → Latest (commits ++ changes ∷ []) row ≡ over (last_change row changes) (Latest commits row)
latest_over commits changes row =
    ap (λ cs. values_by (last_change row cs)) (flat_map-append (λ (cs : List Change). cs) commits (changes ∷ []))
    ∙ ap (λ cs. values_by (last_change row (changes_in commits ++ cs))) (append-nil changes)
    ∙ ap values_by (last_change-append row (changes_in commits) changes)
    ∙ over_else (last_change row changes) (last_change row (changes_in commits))

module _ (commits : List (List Change)) (tables : List Table) where
  abbrev Differ : List Change → Type 0
  Differ changes = (t : TableId) (a b : RowNo) (key : List Value) → 0 < length key → key_with commits tables changes (row_in t a) ≡ Some key → key_with commits tables changes (row_in t b) ≡ Some key → a ≡ b

  keyed : RowId → Option (List Value) → Option (List Value)
  keyed row values = option_map (key_of (key_places tables row.table)) values

  -- a row's key after one more change
  key_of_it : (before : List Change) (c : Change) (row : RowId) → is_of row c ≡ true → key_with commits tables (before ++ c ∷ []) row ≡ option_map (key_of (key_places tables row.table)) c.values
  key_of_it before c row e =
      ap (λ l. option_map (key_of (key_places tables row.table)) (over l (Latest commits row))) (last_change-append row before (c ∷ []) ∙ ap (λ l. or_else l (last_change row before)) one)
    where
      one : last_change row (c ∷ []) ≡ Some c
      one = rw e refl

  key_of_other : (before : List Change) (c : Change) (row : RowId) → is_of row c ≡ false → key_with commits tables (before ++ c ∷ []) row ≡ key_with commits tables before row
  key_of_other before c row e =
      ap (λ l. option_map (key_of (key_places tables row.table)) (over l (Latest commits row))) (last_change-append row before (c ∷ []) ∙ ap (λ l. or_else l (last_change row before)) none)
    where
      none : last_change row (c ∷ []) ≡ None
      none = rw e refl

  row_number : (c : Change) (t : TableId) (a : RowNo) → is_of (row_in t a) c ≡ true → c.row ≡ row_in t a
  row_number c t a e = is_row-true c.row (row_in t a) e

  -- one row has the change's key, another one had it before: so it wasn't free
  clash : (before : List Change) (c : Change) → IsFreeKey commits tables before c → (t : TableId) (a b : RowNo) (key : List Value) → 0 < length key → is_of (row_in t a) c ≡ true → is_of (row_in t b) c ≡ false
      → key_with commits tables (before ++ c ∷ []) (row_in t a) ≡ Some key → key_with commits tables (before ++ c ∷ []) (row_in t b) ≡ Some key → ⊥
  clash before c free t a b key some of_a of_b at_a at_b =
      let same : c.row ≡ row_in t a = row_number c t a of_a in
      let gives : key_by tables c ≡ Some key = ap (λ (r : RowId). option_map (key_of (key_places tables r.table)) c.values) same ∙ sym (key_of_it before c (row_in t a) of_a) ∙ at_a in
      let other : b ≢ c.row.row = λ (is : b ≡ c.row.row). both_ways (is_of (row_in t b) c) of_b (ap (λ (r : RowNo). is_of (row_in t r) c) (is ∙ ap (λ (r : RowId). r.row) same) ∙ of_a) in
      free key b some gives other (ap (λ (r : RowId). key_with commits tables before (row_in r.table b)) same ∙ sym (key_of_other before c (row_in t b) of_b) ∙ at_b)

  differ_more : (before : List Change) (c : Change) → Differ before → IsFreeKey commits tables before c → Differ (before ++ c ∷ [])
  differ_more before c differ free t a b key some at_a at_b = by (is_of (row_in t a) c) (is_of (row_in t b) c) refl refl
    where
      by : (p q : Bool) → is_of (row_in t a) c ≡ p → is_of (row_in t b) c ≡ q → a ≡ b
      by true true e f = ap (λ (r : RowId). r.row) (sym (row_number c t a e) ∙ row_number c t b f)
      by true false e f = absurd (clash before c free t a b key some e f at_a at_b)
      by false true e f = absurd (clash before c free t b a key some f e at_b at_a)
      by false false e f = differ t a b key some (sym (key_of_other before c (row_in t a) e) ∙ at_a) (sym (key_of_other before c (row_in t b) f) ∙ at_b)

  differ_all : (before cs : List Change) → Differ before → TakesFreeKeys commits tables before cs → Differ (before ++ cs)
  differ_all before [] differ free = subst Differ (sym (append-nil before)) differ
  differ_all before (c ∷ cs) differ free =
      subst Differ (append_assoc before (c ∷ []) cs) (differ_all (before ++ c ∷ []) cs (differ_more before c differ free.0) free.1)

  -- a transaction's rows have different keys
  pub own_keys_differ : (changes : List Change) → KeysDiffer commits tables → TakesFreeKeys commits tables [] changes → Differ changes
  own_keys_differ changes keys free = differ_all [] changes keys free

  -- so they do after its commit
  pub keys_differ : (changes : List Change) → KeysDiffer commits tables → TakesFreeKeys commits tables [] changes → KeysDiffer (commits ++ changes ∷ []) tables
  keys_differ changes keys free t a b key some at_a at_b =
      own_keys_differ changes keys free t a b key some
      (ap (option_map (key_of (key_places tables t))) (sym (latest_over commits changes (row_in t a))) ∙ at_a)
      (ap (option_map (key_of (key_places tables t))) (sym (latest_over commits changes (row_in t b))) ∙ at_b)

  pub free-take : (n : ℕ) (before cs : List Change) → TakesFreeKeys commits tables before cs → TakesFreeKeys commits tables before (take n cs)
  free-take zero before cs free = tt
  free-take (suc n) before [] free = tt
  free-take (suc n) before (c ∷ cs) free = (free.0, free-take n (before ++ c ∷ []) cs free.1)

  pub free-push : (before cs : List Change) (c : Change) → TakesFreeKeys commits tables before cs → IsFreeKey commits tables (before ++ cs) c → TakesFreeKeys commits tables before (cs ++ c ∷ [])
  free-push before [] c free new = (subst (λ xs. IsFreeKey commits tables xs c) (append-nil before) new, tt)
  free-push before (d ∷ ds) c free new =
      (free.0, free-push (before ++ d ∷ []) ds c free.1 (subst (λ xs. IsFreeKey commits tables xs c) (sym (append_assoc before (d ∷ []) ds)) new))

  -- the key of one of the changes was free when it was made, after some of the changes before it
  pub free_at : (before cs : List Change) (e : Change) → TakesFreeKeys commits tables before cs → Among cs e
      → (pre : List Change) × IsFreeKey commits tables pre e × ((row : RowId) → changes_row row before ≡ false → changes_row row cs ≡ false → last_change row pre ≡ None)
  free_at before [] e free a = absurd a
  free_at before (c ∷ cs) e free (inl is) =
      (before, subst (λ (x : Change). IsFreeKey commits tables before x) is free.0, λ row h k. untouched row before h)
    where
      untouched : (row : RowId) (xs : List Change) → changes_row row xs ≡ false → last_change row xs ≡ None
      untouched row xs h = by (last_change row xs) refl
        where
          by : (o : Option Change) → last_change row xs ≡ o → o ≡ None
          by None i = refl
          by (Some d) i = absurd (both_ways (changes_row row xs) h (changes_row_is row xs ∙ ap is_some i))
  free_at before (c ∷ cs) e free (inr a) =
      let rest = free_at (before ++ c ∷ []) cs e free.1 a in (
        rest.0,
        rest.1,
        λ row h k.
            let parts = or_parts (is_of row c) (changes_row row cs) k in
            rest.2 row (any-push row before c h parts.0) parts.1,
      )
    where
      any-push : (row : RowId) (xs : List Change) (d : Change) → changes_row row xs ≡ false → is_of row d ≡ false → changes_row row (xs ++ d ∷ []) ≡ false
      any-push row [] d h k = rw k refl
      any-push row (x ∷ xs) d h k = let parts = or_parts (is_of row x) (changes_row row xs) h in rw parts.0 (any-push row xs d parts.1 k)

  -- another transaction's commit leaves free keys free
  free_after : (u before : List Change) (c : Change) → IsFreeKey commits tables before c → ((e : Change) → Among u e → GiveOtherKeys tables e c) → IsFreeKey (commits ++ u ∷ []) tables before c
  free_after u before c free apart key r some gives other at = by (last_change (row_in c.row.table r) before) refl
    where
      row : RowId
      row = row_in c.row.table r

      abbrev_at : key_with (commits ++ u ∷ []) tables before (row_in c.row.table r) ≡ option_map (key_of (key_places tables c.row.table)) (over (last_change (row_in c.row.table r) before) (over (last_change (row_in c.row.table r) u) (Latest commits (row_in c.row.table r))))
      abbrev_at = ap (λ o. option_map (key_of (key_places tables c.row.table)) (over (last_change (row_in c.row.table r) before) o)) (latest_over commits u (row_in c.row.table r))

      same : over (last_change (row_in c.row.table r) before) (over (last_change (row_in c.row.table r) u) (Latest commits (row_in c.row.table r))) ≡ over (last_change (row_in c.row.table r) before) (Latest commits (row_in c.row.table r)) → ⊥
      same e = free key r some gives other (ap (option_map (key_of (key_places tables c.row.table))) (sym e) ∙ sym abbrev_at ∙ at)

      by : (o : Option Change) → last_change (row_in c.row.table r) before ≡ o → ⊥
      by (Some d) e = same (rw e refl)
      by None e = by2 (last_change (row_in c.row.table r) u) refl
        where
          by2 : (o : Option Change) → last_change (row_in c.row.table r) u ≡ o → ⊥
          by2 None f = same (rw (e, f) refl)
          by2 (Some d) f =
              let is = last_is (row_in c.row.table r) u d f in
              let its : key_by tables d ≡ Some key =
              ap (λ (x : RowId). option_map (key_of (key_places tables x.table)) d.values) is.1
              ∙ ap (λ o. option_map (key_of (key_places tables c.row.table)) (over o (over (Some d) (Latest commits (row_in c.row.table r))))) (sym e)
              ∙ ap (λ o. option_map (key_of (key_places tables c.row.table)) (over (last_change (row_in c.row.table r) before) (over o (Latest commits (row_in c.row.table r))))) (sym f)
              ∙ sym abbrev_at ∙ at
              in
              apart d is.0 (ap (λ (x : RowId). x.table) is.1) key some its gives

  pub free-commit : (u before cs : List Change) → TakesFreeKeys commits tables before cs → ShareNoKey tables u cs → TakesFreeKeys (commits ++ u ∷ []) tables before cs
  free-commit u before [] free apart = tt
  free-commit u before (c ∷ cs) free apart =
      (free_after u before c free.0 (λ e a. apart e c a (inl refl)), free-commit u (before ++ c ∷ []) cs free.1 (λ d e a b. apart d e a (inr b)))
