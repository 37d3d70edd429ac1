-- Keys of rows, and of the rows that changes name.
use Rattle.std.proofs.Common.{◌≡◌, ◌≢◌, ℕ, Bool, true, false, cond, ◌&&◌, ◌||◌, List, [], ◌∷◌, ◌++◌, Option, Some, None, option_map, get_or, refl, ap, ◌∙◌, subst, eqb}
use Rattle.std.specs.Prelude.{All, filter, unwrap_or, find}
use Rattle.std.specs.List.{last_or, AllByRecursion}
use Rattle.std.proofs.lemmas.Option.{same_Some}
use Rattle.std.proofs.lemmas.Bool.{eqb-true, eqb-false, eq-eqb, and_parts, or_parts}
use Rattle.std.proofs.lemmas.List.Elements.{recursion_from_All, All-from_recursion, All-tail, All-head, All-weaker}
use Rattle.std.proofs.lemmas.List.Quantifiers.{all_pairs_push}
use Rattle.ebr_base.specs.declared.numbers.TableId.{TableId}
use Rattle.ebr_base.specs.declared.numbers.RowNo.{RowNo}
use Rattle.ebr_base.specs.declared.row.RowId.{RowId}
use Rattle.ebr_base.specs.declared.row.Change.{Change}
use Rattle.ebr_base.specs.declared.value.Value.{Value}
use Rattle.ebr_versions.specs.declared.table.Table.{Table}
use Rattle.ebr_versions.specs.Data.{is_of, is_row, is_table, last_change, changes_in, values_by}
use Rattle.ebr_versions.specs.Keys.{key_at, key_of, row_in, is_added, key_places, KeysDiffer}
use Rattle.ebr_versions.specs.Store.{OfAdded, IsSound}

-- equal by the test is equal
pub is_row-true : (a b : RowId) → is_row a b ≡ true → a ≡ b
is_row-true a b e =
    let parts = and_parts (is_table a.table b.table) (eqb a.row.0 b.row.0) e in
    let t : a.table.0 ≡ b.table.0 = eqb-true a.table.0 b.table.0 parts.0 in
    let r : a.row.0 ≡ b.row.0 = eqb-true a.row.0 b.row.0 parts.1 in
    ap (λ (n : ℕ). let x : RowId = record { table = record { 0 = n }; row = a.row } in x) t ∙ ap (λ (n : ℕ). let x : RowId = record { table = b.table; row = record { 0 = n } } in x) r

pub is_row-itself : (row : RowId) → is_row row row ≡ true
is_row-itself row = ap (λ b. b && eqb row.row.0 row.row.0) (eq-eqb row.table.0 row.table.0 refl) ∙ eq-eqb row.row.0 row.row.0 refl

-- each of the changes has the property, so the last one of a row has it, and is of the row
module _ (P : Change → Type 0) (row : RowId) where
  kept_one : (b : Bool) (c : Change) (cs : List Change) → is_of row c ≡ b → P c → AllByRecursion (λ d. P d × (is_of row d ≡ true)) cs → AllByRecursion (λ d. P d × (is_of row d ≡ true)) (cond b (c ∷ cs) cs)
  kept_one true c cs e p ps = ((p, e), ps)
  kept_one false c cs e p ps = ps

  kept_all : (cs : List Change) → AllByRecursion P cs → AllByRecursion (λ d. P d × (is_of row d ≡ true)) (filter (is_of row) cs)
  kept_all [] ps = tt
  kept_all (c ∷ cs) ps = kept_one (is_of row c) c (filter (is_of row) cs) refl ps.0 (kept_all cs ps.1)

  last_has : (x : Change) (xs : List Change) (c : Change) → P x × (is_of row x ≡ true) → AllByRecursion (λ d. P d × (is_of row d ≡ true)) xs → last_or (Some x) xs ≡ Some c → P c × (is_of row c ≡ true)
  last_has x [] c p ps e = subst (λ (d : Change). P d × (is_of row d ≡ true)) (same_Some x c e) p
  last_has x (y ∷ ys) c p ps e = last_has y ys c ps.0 ps.1 e

  last_among : (xs : List Change) (c : Change) → AllByRecursion (λ d. P d × (is_of row d ≡ true)) xs → last_or None xs ≡ Some c → P c × (is_of row c ≡ true)
  last_among [] c ps e = cc
  last_among (x ∷ xs) c ps e = last_has x xs c ps.0 ps.1 e

-- what holds of all changes holds of the last one of a row, which is of that row
pub last_change-of : (P : Change → Type 0) (row : RowId) (cs : List Change) (c : Change) → AllByRecursion P cs → last_change row cs ≡ Some c → P c × (is_of row c ≡ true)
last_change-of P row cs c ps e = last_among P row (filter (is_of row) cs) c (kept_all P row cs ps) e

-- what holds of all changes of all commits holds of them in a row
AllByRecursion-append : (P : Change → Type 0) (xs ys : List Change) → AllByRecursion P xs → AllByRecursion P ys → AllByRecursion P (xs ++ ys)
AllByRecursion-append P [] ys ps qs = qs
AllByRecursion-append P (x ∷ xs) ys ps qs = (ps.0, AllByRecursion-append P xs ys ps.1 qs)

pub all_changes : (P : Change → Type 0) (commits : List (List Change)) → All (All P) commits → AllByRecursion P (changes_in commits)
all_changes P [] all = tt
all_changes P (cs ∷ commits) all =
    AllByRecursion-append P cs (changes_in commits) (recursion_from_All P cs (All-head (All P) cs commits all)) (all_changes P commits (All-tail (All P) cs commits all))

-- a row that has a key has a last change
pub has_change : (places : List ℕ) (key : List Value) (o : Option Change) → option_map (key_of places) (values_by o) ≡ Some key → (c : Change) × (o ≡ Some c)
has_change places key None e = cc
has_change places key (Some c) e = (c, refl)

-- a table that has a row with a key was added
added_from_key : (commits : List (List Change)) (tables : List Table) (places : List ℕ) (t : TableId) (r : RowNo) (key : List Value) → All (OfAdded tables) commits → key_at commits places (row_in t r) ≡ Some key → is_added tables t ≡ true
added_from_key commits tables places t r key all e =
    let last = has_change places key (last_change (row_in t r) (changes_in commits)) e in
    let facts = last_change-of (λ (c : Change). is_added tables c.row.table ≡ true) (row_in t r) (changes_in commits) last.0 (all_changes (λ (c : Change). is_added tables c.row.table ≡ true) commits all) last.1 in
    let same : last.0.row ≡ row_in t r = is_row-true last.0.row (row_in t r) facts.1 in
    subst (λ (row : RowId). is_added tables row.table ≡ true) same facts.0

or_more : (b u v : Bool) → (u ≡ true → v ≡ true) → (b || u) ≡ true → (b || v) ≡ true
or_more true u v h e = refl
or_more false u v h e = h e

-- a table that was added is there with others too
pub is_added-append : (t : TableId) (xs ys : List Table) → is_added xs t ≡ true → is_added (xs ++ ys) t ≡ true
is_added-append t [] ys e = cc
is_added-append t (x ∷ xs) ys e = or_more (is_table x.id t) (is_added xs t) (is_added (xs ++ ys) t) (is_added-append t xs ys) e

pub OfAdded-append : (xs ys : List Table) (changes : List Change) → OfAdded xs changes → OfAdded (xs ++ ys) changes
OfAdded-append xs ys changes all =
    All-weaker (λ (c : Change). is_added xs c.row.table ≡ true) (λ (c : Change). is_added (xs ++ ys) c.row.table ≡ true) (λ c. is_added-append c.row.table xs ys) changes all

found_before : (b u : Bool) (y : Table) (o w : Option Table) → (u ≡ true → w ≡ o) → (b || u) ≡ true → cond b (Some y) w ≡ cond b (Some y) o
found_before true u y o w h e = refl
found_before false u y o w h e = h e

-- and is found before the others
find-append : (t : TableId) (xs ys : List Table) → is_added xs t ≡ true → find (λ (x : Table). is_table x.id t) (xs ++ ys) ≡ find (λ (x : Table). is_table x.id t) xs
find-append t [] ys e = cc
find-append t (x ∷ xs) ys e =
    found_before (is_table x.id t) (is_added xs t) x (find (λ (x : Table). is_table x.id t) xs) (find (λ (x : Table). is_table x.id t) (xs ++ ys)) (find-append t xs ys) e

pub key_places-append : (t : TableId) (xs ys : List Table) → is_added xs t ≡ true → key_places (xs ++ ys) t ≡ key_places xs t
key_places-append t xs ys e = ap (λ (o : Option Table). unwrap_or (option_map (λ (x : Table). x.key) o) []) (find-append t xs ys e)

-- keys differ with another table too, since no row is in that one
pub KeysDiffer-append : (commits : List (List Change)) (xs ys : List Table) → All (OfAdded xs) commits → KeysDiffer commits xs → KeysDiffer commits (xs ++ ys)
KeysDiffer-append commits xs ys all keys t a b key some at_a at_b =
    let old = added_from_key commits xs (key_places (xs ++ ys) t) t a key all at_a in
    let same = key_places-append t xs ys old in
    keys t a b key some (subst (λ places. key_at commits places (row_in t a) ≡ Some key) same at_a) (subst (λ places. key_at commits places (row_in t b) ≡ Some key) same at_b)

not_same : (x y : Table) → is_table x.id y.id ≡ false → x.id ≢ y.id
not_same x y e same = eqb-false x.id.0 y.id.0 e (ap (λ (t : TableId). t.0) same)

or_parts_at : (t : TableId) (xs : List Table) → is_added xs t ≡ false → AllByRecursion (λ (x : Table). is_table x.id t ≡ false) xs
or_parts_at t [] e = tt
or_parts_at t (x ∷ xs) e = let parts = or_parts (is_table x.id t) (is_added xs t) e in (parts.0, or_parts_at t xs parts.1)

-- what holds of the data holds with a new table
pub IsSound-add_table : (commits : List (List Change)) (tables : List Table) (x : Table) → IsSound commits tables → is_added tables x.id ≡ false → IsSound commits (tables ++ x ∷ [])
IsSound-add_table commits tables x sound new =
    let each = All-from_recursion (λ (y : Table). is_table y.id x.id ≡ false) tables (or_parts_at x.id tables new) in
    record {
      few = sound.few;
      added = All-weaker (OfAdded tables) (OfAdded (tables ++ x ∷ [])) (λ changes. OfAdded-append tables (x ∷ []) changes) commits sound.added;
      apart = all_pairs_push (λ (y z : Table). y.id ≢ z.id) tables x sound.apart (λ k d h. not_same (get_or tables k d) x (each k d h));
      keys = KeysDiffer-append commits tables (x ∷ []) sound.added sound.keys;
    }
