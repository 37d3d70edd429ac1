-- What the index says of the commits, and how it stays through a commit and a new table.
use Rattle.std.proofs.Common.{◌≡◌, ℕ, zero, suc, ◌+◌, ◌<◌, ◌≤◌, ◌⊎◌, inl, inr, ⊎_elim, true, false, List, [], ◌∷◌, ◌++◌, Option, Some, None, option_map, map, take, get_or, length, length-append, min, ◌&&◌, eqb, arith, refl, sym, ap, ◌∙◌, subst}
use Rattle.std.specs.Prelude.{IfSome, IfNone, option_and_then, slice_get, All}
use Rattle.std.proofs.lemmas.List.{length-map, map-append, take_min, take_all, take_more, take-append-le}
use Rattle.std.proofs.lemmas.List.Elements.{All-nil, All-head, All-tail, All-push, All-take}
use Rattle.std.proofs.lemmas.Bool.{cases_lt, and_parts, eqb-true, eq-eqb, false≢true}
use Rattle.std.proofs.lemmas.Option.{same_Some, slice_get_within}
use Rattle.ebr_base.specs.declared.numbers.TableId.{TableId}
use Rattle.ebr_base.specs.declared.numbers.RowNo.{RowNo}
use Rattle.ebr_base.specs.declared.value.Value.{Value}
use Rattle.ebr_base.specs.declared.row.RowId.{RowId}
use Rattle.ebr_versions.specs.Data.{is_in, is_row}
use Rattle.ebr_versions.specs.inside.Keys.{IsLastIn, IsKeyIndex, KeysDifferThen}
use Rattle.ebr_base.specs.declared.numbers.TheConstants.{MAX_COUNT}
use Rattle.ebr_base.specs.declared.row.Change.{Change}
use Rattle.ebr_spots.specs.declared.spot.Spot.{Spot}
use Rattle.ebr_spots.specs.Spots.{has}
use Rattle.ebr_spots.specs.Filed.{Mark, found, is_mark_of, is_filed, IsIndexOf}
use Rattle.ebr_spots.proofs.Filing.{found_empty, found_front, found_map}
use Rattle.ebr_versions.specs.declared.index.Entry.{Entry}
use Rattle.ebr_versions.specs.declared.table.Table.{Table}
use Rattle.ebr_versions.specs.Keys.{is_added, key_places, key_at, row_in, HasKey, KeysDiffer}
use Rattle.ebr_versions.specs.Store.{OfAdded, IsStored}
use Rattle.ebr_versions.specs.inside.Index.{Indexed, IsRowIndex, row_mark, key_mark, change_mark, print_of, entry_of, IsLastOf, AreEntriesOf, AreAllEntriesOf, AreFiled, AreOvertaken, Keeps}
use Rattle.ebr_versions.proofs.Numbers.{found_in}
use Rattle.ebr_versions.proofs.Placing.{rows_of}
use Rattle.ebr_versions.proofs.KeyLemmas.{is_row-itself, key_places-append, IsSound-add_table, KeysDiffer-append}

length_all : (tables : List Table) (commits : List (List Change)) (ess : List (List Entry)) → AreAllEntriesOf tables commits ess → length ess ≡ length commits
length_all tables [] [] are = refl
length_all tables [] (es ∷ ess) are = absurd are
length_all tables (cs ∷ commits) [] are = absurd are
length_all tables (cs ∷ commits) (es ∷ ess) are = ap suc (length_all tables commits ess are.1)

abbrev rows_in : List Change → List RowId
rows_in changes = map (λ (c : Change). c.row) changes

rows_all : (tables : List Table) (commits : List (List Change)) (ess : List (List Entry)) → AreAllEntriesOf tables commits ess → map rows_of ess ≡ map rows_in commits
rows_all tables [] [] are = refl
rows_all tables [] (es ∷ ess) are = absurd are
rows_all tables (cs ∷ commits) [] are = absurd are
rows_all tables (cs ∷ commits) (es ∷ ess) are = λ i. are.0.rows i ∷ rows_all tables commits ess are.1 i

-- what is found at a place is of one row
rows_found : (tables : List Table) (commits : List (List Change)) (ess : List (List Entry)) → AreAllEntriesOf tables commits ess → (i p : ℕ)
    → option_map (λ (e : Entry). e.row) (found ess i p) ≡ option_map (λ (c : Change). c.row) (found commits i p)
rows_found tables commits ess are i p =
    sym (found_map (λ (e : Entry). e.row) ess i p) ∙ ap (λ (rss : List (List RowId)). found rss i p) (rows_all tables commits ess are) ∙ found_map (λ (c : Change). c.row) commits i p

-- the last change of a row in its commit is found with its key
entry_found : (tables : List Table) (commits : List (List Change)) (ess : List (List Entry)) → AreAllEntriesOf tables commits ess → (i p : ℕ) (c : Change) → found commits i p ≡ Some c → IsLastIn commits i p c.row
    → found ess i p ≡ Some (entry_of tables c)
entry_found tables [] ess are i p c f last = cc
entry_found tables (cs ∷ commits) [] are i p c f last = absurd are
entry_found tables (cs ∷ commits) (es ∷ ess) are zero p c f last = are.0.last p c f last
entry_found tables (cs ∷ commits) (es ∷ ess) are (suc i) p c f last = entry_found tables commits ess are.1 i p c f last

-- a spot of the lists that there are, the list to come left out
in_front : (mark : Entry → Option Mark) (ess : List (List Entry)) (pending : List Entry) (q : Spot) → q.list < length ess → is_filed mark (ess ++ pending ∷ []) q ≡ is_filed mark ess q
in_front mark ess pending q l = ap (λ o. is_mark_of q (option_and_then mark o)) (found_front ess (pending ∷ []) q.list q.place l)

module _ (commits : List (List Change)) (tables : List Table) (x : Indexed) (h : IsStored commits tables x) where
  before_length : (n : ℕ) → n < length commits → n < length h.filed.entries
  before_length n l = subst (λ k. n < k) (sym (length_all tables commits h.filed.entries h.filed.are)) l

  pub row_index : IsRowIndex x.rows commits
  row_index q l =
      h.filed.indexed.rows q ∙ in_front row_mark h.filed.entries x.pending q (before_length q.list l)
      ∙ ap (is_mark_of q) (by (found h.filed.entries q.list q.place) (found commits q.list q.place) (rows_found tables commits h.filed.entries h.filed.are q.list q.place))
    where
      by : (o : Option Entry) (p : Option Change) → option_map (λ (e : Entry). e.row) o ≡ option_map (λ (c : Change). c.row) p → option_and_then row_mark o ≡ option_and_then change_mark p
      by None None e = refl
      by None (Some c) e = cc
      by (Some d) None e = cc
      by (Some d) (Some c) e = ap (λ (r : RowId). let m : Mark = (r.table.0, r.row.0) in Some m) (same_Some d.row c.row e)

  -- the spots of a table, by the keys that its changes give
  pub key_index : (t : TableId) → IsKeyIndex (key_places tables t) t x.keys commits
  key_index t = record { within = within; last = last }
    where
      of_table : (k : Spot) (c : Change) (o : Option Entry) → k.table ≡ t.0 → option_map (λ (e : Entry). e.row) o ≡ Some c.row → is_mark_of k (option_and_then key_mark o) ≡ true → is_in t c ≡ true
      of_table k c None e r m = cc
      of_table k c (Some d) e r m = by d.print m
        where
          by : (print : Option ℕ) → is_mark_of k (option_map (λ n. (d.row.table.0, n)) print) ≡ true → is_in t c ≡ true
          by None m = absurd (false≢true m)
          by (Some n) m =
              let parts = and_parts (eqb d.row.table.0 k.table) (eqb n k.number) m in
              ap (λ (row : RowId). eqb row.table.0 t.0) (sym (same_Some d.row c.row r)) ∙ ap (eqb d.row.table.0) (sym e) ∙ parts.0

      within : (k : Spot) (c : Change) → k.list < length commits → k.table ≡ t.0 → has x.keys k ≡ true → found commits k.list k.place ≡ Some c → is_in t c ≡ true
      within k c l e here f =
          of_table k c (found h.filed.entries k.list k.place) e (rows_found tables commits h.filed.entries h.filed.are k.list k.place ∙ ap (option_map (λ (c : Change). c.row)) f)
          (sym (h.filed.indexed.keys k ∙ in_front key_mark h.filed.entries x.pending k (before_length k.list l)) ∙ here)

      last : (i p n : ℕ) (c : Change) → found commits i p ≡ Some c → is_in t c ≡ true → IsLastIn commits i p c.row → print_of (key_places tables t) c.values ≡ Some n
          → has x.keys (record { table = t.0; number = n; list = i; place = p }) ≡ true
      last i p n c f inside end print =
          let k : Spot = record { table = t.0; number = n; list = i; place = p } in
          let same : c.row.table ≡ t = λ j. record { 0 = eqb-true c.row.table.0 t.0 inside j } in
          let mark : key_mark (entry_of tables c) ≡ Some (t.0, n) =
          ap (λ (u : TableId). option_map (λ n. (u.0, n)) (print_of (key_places tables u) c.values)) same ∙ ap (option_map (λ n. (t.0, n))) print in
          h.filed.indexed.keys k ∙ in_front key_mark h.filed.entries x.pending k (before_length i (found_in commits i p c f))
          ∙ ap (λ o. is_mark_of k (option_and_then key_mark o)) (entry_found tables commits h.filed.entries h.filed.are i p c f end) ∙ ap (is_mark_of k) mark
          ∙ ap (λ b. b && eqb n n) (eq-eqb t.0 t.0 refl) ∙ eq-eqb n n refl

-- an empty list to come makes no difference
published : (mark : Entry → Option Mark) (spots : List Spot) (lists : List (List Entry)) → IsIndexOf mark spots lists → IsIndexOf mark spots (lists ++ [] ∷ [])
published mark spots lists h q = h q ∙ ap (λ o. is_mark_of q (option_and_then mark o)) (sym (found_empty lists q.list q.place))

all_more : (tables : List Table) (commits : List (List Change)) (ess : List (List Entry)) (cs : List Change) (es : List Entry) → AreAllEntriesOf tables commits ess → AreEntriesOf tables cs es
    → AreAllEntriesOf tables (commits ++ cs ∷ []) (ess ++ es ∷ [])
all_more tables [] [] cs es are new = (new, tt)
all_more tables [] (fs ∷ ess) cs es are new = absurd are
all_more tables (ds ∷ commits) [] cs es are new = absurd are
all_more tables (ds ∷ commits) (fs ∷ ess) cs es are new = (are.0, all_more tables commits ess cs es are.1 new)

index_committed : (commits : List (List Change)) (tables : List Table) (changes : List Change) (x : Indexed) → AreEntriesOf tables changes x.pending → AreFiled tables commits x
    → AreFiled tables (commits ++ changes ∷ []) (record x { pending = [] })
index_committed commits tables changes x new h = record {
  entries = h.entries ++ x.pending ∷ [];
  are = all_more tables commits h.entries changes x.pending h.are new;
  indexed = record {
    rows = published row_mark x.rows (h.entries ++ x.pending ∷ []) h.indexed.rows;
    keys = published key_mark x.keys (h.entries ++ x.pending ∷ []) h.indexed.keys;
  };
}

-- no commit
pub stored_first : (commits : List (List Change)) (tables : List Table) (x : Indexed) → commits ≡ [] → tables ≡ [] → x ≡ record { rows = []; keys = []; pending = [] } → IsStored commits tables x
stored_first commits tables x c t e =
    subst (λ (cs : List (List Change)). IsStored cs tables x) (sym c) (subst (λ (ts : List Table). IsStored [] ts x) (sym t) (subst (IsStored [] []) (sym e) (record {
      sound = record { few = omega arith; added = All-nil (OfAdded []); apart = λ i j d a b. absurd (omega (arith, b)); keys = differ };
      keys_then = λ n. subst (λ (cs : List (List Change)). KeysDiffer cs []) (sym (take_all n [] (omega arith))) differ;
      filed = record { entries = []; are = tt; indexed = record { rows = λ q. none row_mark q.list q.place q; keys = λ q. none key_mark q.list q.place q } };
    })))
  where
    differ : KeysDiffer [] []
    differ u a b key some at_a at_b = cc

    none : (mark : Entry → Option Mark) (i p : ℕ) (q : Spot) → false ≡ is_mark_of q (option_and_then mark (found ([] ∷ []) i p))
    none mark zero p q = refl
    none mark (suc i) p q = refl

-- the same for what the calls give of the fields
pub row_index_as : (commits : List (List Change)) (tables : List Table) (x : Indexed) → IsStored commits tables x → (cs : List (List Change)) → cs ≡ commits → (rows : List Spot) → rows ≡ x.rows → IsRowIndex rows cs
row_index_as commits tables x h cs c rows r = subst (λ (cs : List (List Change)). IsRowIndex rows cs) (sym c) (subst (λ (rows : List Spot). IsRowIndex rows commits) (sym r) (row_index commits tables x h))

keys_then_more : (commits : List (List Change)) (tables : List Table) (changes : List Change) → ((n : ℕ) → KeysDiffer (take n commits) tables) → KeysDiffer (commits ++ changes ∷ []) tables
    → (n : ℕ) → KeysDiffer (take n (commits ++ changes ∷ [])) tables
keys_then_more commits tables changes h keys n = ⊎_elim (λ (a : length commits < n).
    let whole : length (commits ++ changes ∷ []) ≤ n = rw length-append (omega (arith, a)) in
    subst (λ (cs : List (List Change)). KeysDiffer cs tables) (sym (take_all n (commits ++ changes ∷ []) whole)) keys)
    (λ (b : n ≤ length commits). subst (λ (cs : List (List Change)). KeysDiffer cs tables) (sym (take-append-le n commits (changes ∷ []) b)) (h n)) (cases_lt (length commits) n)

-- a commit in its room
pub stored_committed : (commits : List (List Change)) (tables : List Table) (changes : List Change) (x : Indexed) (more : List (List Change)) (y : Indexed) → IsStored commits tables x
    → AreEntriesOf tables changes x.pending → length commits < MAX_COUNT → OfAdded tables changes → KeysDiffer (commits ++ changes ∷ []) tables
    → more ≡ commits ++ changes ∷ [] → y ≡ record x { pending = [] } → IsStored more tables y
stored_committed commits tables changes x more y h p few added keys m e =
    subst (λ (cs : List (List Change)). IsStored cs tables y) (sym m) (subst (λ (z : Indexed). IsStored (commits ++ changes ∷ []) tables z) (sym e) (record {
      sound = record {
        few = rw length-append (omega (arith, few));
        added = All-push (OfAdded tables) commits changes h.sound.added added;
        apart = h.sound.apart;
        keys = keys;
      };
      keys_then = keys_then_more commits tables changes h.keys_then keys;
      filed = index_committed commits tables changes x p h.filed;
    }))

-- a new table leaves what is filed
same_entry : (tables : List Table) (t : Table) (c : Change) → is_added tables c.row.table ≡ true → entry_of (tables ++ t ∷ []) c ≡ entry_of tables c
same_entry tables t c added = let places = key_places-append c.row.table tables (t ∷ []) added in λ i. record { row = c.row; print = print_of (places i) c.values }

pub same_changes : (tables : List Table) (t : Table) (changes : List Change) → OfAdded tables changes → map (entry_of (tables ++ t ∷ [])) changes ≡ map (entry_of tables) changes
same_changes tables t [] h = refl
same_changes tables t (c ∷ cs) h =
    let e = same_entry tables t c (All-head (λ (c : Change). is_added tables c.row.table ≡ true) c cs h) in
    λ i. e i ∷ same_changes tables t cs (All-tail (λ (c : Change). is_added tables c.row.table ≡ true) c cs h) i

added_at : (tables : List Table) (cs : List Change) (p : ℕ) (c : Change) → OfAdded tables cs → slice_get cs p ≡ Some c → is_added tables c.row.table ≡ true
added_at tables [] p c h f = cc
added_at tables (d ∷ ds) zero c h f =
    subst (λ (x : Change). is_added tables x.row.table ≡ true) (same_Some d c f) (All-head (λ (x : Change). is_added tables x.row.table ≡ true) d ds h)
added_at tables (d ∷ ds) (suc p) c h f = added_at tables ds p c (All-tail (λ (x : Change). is_added tables x.row.table ≡ true) d ds h) f

all_same : (tables : List Table) (t : Table) (commits : List (List Change)) (ess : List (List Entry)) → All (OfAdded tables) commits → AreAllEntriesOf tables commits ess → AreAllEntriesOf (tables ++ t ∷ []) commits ess
all_same tables t [] [] h are = tt
all_same tables t [] (es ∷ ess) h are = absurd are
all_same tables t (cs ∷ commits) [] h are = absurd are
all_same tables t (cs ∷ commits) (es ∷ ess) h are =
    let here = All-head (OfAdded tables) cs commits h in (
      record { rows = are.0.rows; last = λ p c f l. are.0.last p c f l ∙ ap Some (sym (same_entry tables t c (added_at tables cs p c here f))) },
      all_same tables t commits ess (All-tail (OfAdded tables) cs commits h) are.1,
    )

pub stored_with_table : (commits : List (List Change)) (tables : List Table) (t : Table) (x : Indexed) (more : List Table) → IsStored commits tables x → is_added tables t.id ≡ false → more ≡ tables ++ t ∷ [] → IsStored commits more x
stored_with_table commits tables t x more h new m =
    subst (λ (ts : List Table). IsStored commits ts x) (sym m) (record {
      sound = IsSound-add_table commits tables t h.sound new;
      keys_then = λ n. KeysDiffer-append (take n commits) tables (t ∷ []) (All-take (OfAdded tables) n commits h.sound.added) (h.keys_then n);
      filed = record { entries = h.filed.entries; are = all_same tables t commits h.filed.entries h.sound.added h.filed.are; indexed = h.filed.indexed };
    })

-- with another list to come
pub stored_kept : (commits : List (List Change)) (tables : List Table) (x y : Indexed) (n : ℕ) → n ≡ length commits → IsStored commits tables x → Keeps n x y → IsStored commits tables y
stored_kept commits tables x y n l h k = record {
  sound = h.sound;
  keys_then = h.keys_then;
  filed = record { entries = h.filed.entries; are = h.filed.are; indexed = k h.filed.entries (length_all tables commits h.filed.entries h.filed.are ∙ sym l) h.filed.indexed };
}

pub keeps_twice : (n : ℕ) (x y z : Indexed) → Keeps n x y → Keeps n y z → Keeps n x z
keeps_twice n x y z f g front l h = g front l (f front l h)

pub key_index_as : (commits : List (List Change)) (tables : List Table) (x : Indexed) (t : TableId) → IsStored commits tables x → (cs : List (List Change)) → cs ≡ commits → (keys : List Spot) → keys ≡ x.keys
    → (places : List ℕ) → places ≡ key_places tables t → IsKeyIndex places t keys cs
key_index_as commits tables x t h cs c keys k places p =
    subst (λ (ps : List ℕ). IsKeyIndex ps t keys cs) (sym p) (subst (λ (cs : List (List Change)). IsKeyIndex (key_places tables t) t keys cs) (sym c) (subst (λ (ks : List Spot). IsKeyIndex (key_places tables t) t ks commits) (sym k) (key_index commits tables x h t)))

pub keys_then_as : (commits : List (List Change)) (tables : List Table) (x : Indexed) (t : TableId) → IsStored commits tables x → (cs : List (List Change)) → cs ≡ commits → (places : List ℕ) → places ≡ key_places tables t → KeysDifferThen places t cs
keys_then_as commits tables x t h cs c places p =
    subst (λ (ps : List ℕ). KeysDifferThen ps t cs) (sym p) (subst (λ (cs : List (List Change)). KeysDifferThen (key_places tables t) t cs) (sym c) (λ n a b key. h.keys_then n t a b key))

-- the row that was found is the only one
pub only_one : (commits : List (List Change)) (tables : List Table) (t : TableId) (key : List Value) (o : Option RowNo) → KeysDiffer commits tables → 0 < length key
    → IfSome o (λ r. HasKey commits tables t r key) → IfNone o ((r : RowNo) → HasKey commits tables t r key → ⊥) → (r : RowNo) → HasKey commits tables t r key → o ≡ Some r
only_one commits tables t key None d l f n r h = absurd (n r h)
only_one commits tables t key (Some s) d l f n r h = ap Some (d t s r key l f h)

-- what the search found, as the calls say it
pub found_as : (cs m : List (List Change)) (tables : List Table) (t : TableId) (key : List Value) (places : List ℕ) (n : ℕ) (o : Option RowNo) → take n cs ≡ m → places ≡ key_places tables t
    → IfSome o (λ r. key_at (take n cs) places (row_in t r) ≡ Some key) → IfSome o (λ r. HasKey m tables t r key)
found_as cs m tables t key places n o e p f =
    subst (λ (ps : List ℕ). IfSome o (λ r. key_at m ps (row_in t r) ≡ Some key)) p (subst (λ (xs : List (List Change)). IfSome o (λ r. key_at xs places (row_in t r) ≡ Some key)) e f)

pub none_as : (cs m : List (List Change)) (tables : List Table) (t : TableId) (key : List Value) (places : List ℕ) (n : ℕ) (o : Option RowNo) → take n cs ≡ m → places ≡ key_places tables t
    → IfNone o ((r : RowNo) → key_at (take n cs) places (row_in t r) ≡ Some key → ⊥) → IfNone o ((r : RowNo) → HasKey m tables t r key → ⊥)
none_as cs m tables t key places n o e p f =
    subst (λ (ps : List ℕ). IfNone o ((r : RowNo) → key_at m ps (row_in t r) ≡ Some key → ⊥)) p (subst (λ (xs : List (List Change)). IfNone o ((r : RowNo) → key_at xs places (row_in t r) ≡ Some key → ⊥)) e f)

pub take_as : (cs ds : List (List Change)) (n k l : ℕ) → cs ≡ ds → k ≡ min l n → l ≡ length cs → take k cs ≡ take n ds
take_as cs ds n k l e m is =
    let f : k ≡ min n (length cs) = omega (arith, m, is) in
    ap (λ k. take k cs) f ∙ take_min n cs ∙ ap (take n) e

slice_get-append : {X : Type 0} (xs ys : List X) (p : ℕ) (x : X) → slice_get xs p ≡ Some x → slice_get (xs ++ ys) p ≡ Some x
slice_get-append [] ys p x f = cc
slice_get-append (z ∷ zs) ys zero x f = f
slice_get-append (z ∷ zs) ys (suc p) x f = slice_get-append zs ys p x f

slice_get-end : {X : Type 0} (xs : List X) (x : X) → slice_get (xs ++ x ∷ []) (length xs) ≡ Some x
slice_get-end [] x = refl
slice_get-end (z ∷ zs) x = slice_get-end zs x

slice_get-push : {X : Type 0} (xs : List X) (y : X) (p : ℕ) (x : X) → slice_get (xs ++ y ∷ []) p ≡ Some x → (slice_get xs p ≡ Some x) ⊎ ((p ≡ length xs) × (y ≡ x))
slice_get-push [] y zero x f = inr (refl, same_Some y x f)
slice_get-push [] y (suc p) x f = cc
slice_get-push (z ∷ zs) y zero x f = inl f
slice_get-push (z ∷ zs) y (suc p) x f = by (slice_get-push zs y p x f)
  where
    by : (slice_get zs p ≡ Some x) ⊎ ((p ≡ length zs) × (y ≡ x)) → (slice_get zs p ≡ Some x) ⊎ ((suc p ≡ suc (length zs)) × (y ≡ x))
    by (inl g) = inl g
    by (inr e) = inr (ap suc e.0, e.1)

-- the entries of the list to come, before its first change and after one more
pub no_entries : (tables : List Table) (es : List Entry) → es ≡ [] → AreEntriesOf tables [] es
no_entries tables es e = subst (λ (es : List Entry). AreEntriesOf tables [] es) (sym e) (record { rows = refl; last = λ p c f l. none p c f })
  where
    none : (p : ℕ) (c : Change) → slice_get [] p ≡ Some c → slice_get [] p ≡ Some (entry_of tables c)
    none p c f = cc

module _ (tables : List Table) (cs : List Change) (c : Change) (es kept : List Entry) (are : AreEntriesOf tables cs es) (o : AreOvertaken c.row es kept) where
  long : length kept ≡ length cs
  long = sym (length-map kept (λ (e : Entry). e.row)) ∙ ap length (o.rows ∙ are.rows) ∙ length-map cs (λ (x : Change). x.row)

  -- a change that is the last one of its row with one more is so without it, and of another row
  pub entries_push : AreEntriesOf tables (cs ++ c ∷ []) (kept ++ entry_of tables c ∷ [])
  entries_push = record { rows = map-append (λ (e : Entry). e.row) kept (entry_of tables c ∷ []) ∙ ap (λ (rs : List RowId). rs ++ c.row ∷ []) (o.rows ∙ are.rows) ∙ sym (map-append (λ (x : Change). x.row) cs (c ∷ [])); last = last }
    where
      before : (p : ℕ) (x : Change) → slice_get cs p ≡ Some x → IsLastOf (cs ++ c ∷ []) p x.row → slice_get kept p ≡ Some (entry_of tables x)
      before p x f l =
          let within : p < length cs = slice_get_within cs p x f in
          o.others p (entry_of tables x) (are.last p x f (λ q d a g. l q d a (slice_get-append cs (c ∷ []) q d g)))
          (λ same. false≢true (sym (l (length cs) c within (slice_get-end cs c)) ∙ ap (λ (row : RowId). is_row c.row row) same ∙ is_row-itself c.row))

      last : (p : ℕ) (x : Change) → slice_get (cs ++ c ∷ []) p ≡ Some x → IsLastOf (cs ++ c ∷ []) p x.row → slice_get (kept ++ entry_of tables c ∷ []) p ≡ Some (entry_of tables x)
      last p x f l = by (slice_get-push cs c p x f)
        where
          by : (slice_get cs p ≡ Some x) ⊎ ((p ≡ length cs) × (c ≡ x)) → slice_get (kept ++ entry_of tables c ∷ []) p ≡ Some (entry_of tables x)
          by (inl g) = slice_get-append kept (entry_of tables c ∷ []) p (entry_of tables x) (before p x g l)
          by (inr e) = ap (slice_get (kept ++ entry_of tables c ∷ [])) (e.0 ∙ sym long) ∙ slice_get-end kept (entry_of tables c) ∙ ap (λ (y : Change). Some (entry_of tables y)) e.1

pub entries_more : (tables : List Table) (changes : List Change) (i : ℕ) (c : Change) (es kept more : List Entry) → i < length changes → get_or changes i c ≡ c → AreEntriesOf tables (take i changes) es → AreOvertaken c.row es kept
    → more ≡ kept ++ entry_of tables c ∷ [] → AreEntriesOf tables (take (i + 1) changes) more
entries_more tables changes i c es kept more l e are o m =
    subst (λ (cs : List Change). AreEntriesOf tables cs more) (ap (λ (x : Change). take i changes ++ x ∷ []) (sym e) ∙ sym (take_more changes i c l))
    (subst (λ (fs : List Entry). AreEntriesOf tables (take i changes ++ c ∷ []) fs) (sym m) (entries_push tables (take i changes) c es kept are o))
