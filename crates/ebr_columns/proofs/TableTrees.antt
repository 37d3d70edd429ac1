-- A table that the tests on its tree let through is one that the tables let through.
use Rattle.std.proofs.Common.{◌≡◌, ◌<◌, ◌+◌, ℕ, suc, Bool, true, false, not, cond, ◌||◌, ◌&&◌, List, [], ◌∷◌, map, length, Some, None, is_some, nat_eq, nat_le, refl, sym, ap, ◌∙◌, arith}
use Rattle.std.specs.Option.{unwrap_or}
use Rattle.std.specs.List.{list_any, slice_get}
use Rattle.std.specs.Str.{bytes_eq}
use Rattle.std.specs.Cmp.Lexicographic.{bytes_decides}
use Rattle.std.proofs.lemmas.Bool.{or_parts, or_from}
use Rattle.std.proofs.lemmas.Bool.Decides.{nat_tests}
use borrow.Author.Tests.{eqb-true}
use Rattle.ebr_base.specs.declared.table.Column.{Column}
use Rattle.ebr_base.specs.declared.value.ColType.TheVariants.{Num, Text}
use Rattle.ebr_ast.specs.declared.definition.ColumnTree.{ColumnTree}
use Rattle.ebr_ast.specs.declared.statement.DeclaredType.{DeclaredType}
use Rattle.ebr_ast.specs.declared.statement.DeclaredType.TheVariants as declared
use Rattle.ebr_tables.specs.Definitions.{has_repetition, same_name, is_bad_size}
use Rattle.ebr_tables.specs.Definitions as tables
use Rattle.ebr_columns.specs.Columns.{column_type, is_bad_type, column_names, key_names, is_among, is_bad_key, has_bad_type, has_two_primary_keys, is_bad_table, place_of, column_of, table_of}

false_true : {P : Type 0} → false ≡ true → P
false_true h = absurd cc

module _ {A B : Type 0} (f : A → B) where
  any-map : (p : B → Bool) (xs : List A) → list_any p (map f xs) ≡ list_any (λ x. p (f x)) xs
  any-map p [] = refl
  any-map p (x ∷ xs) = ap (λ b. p (f x) || b) (any-map p xs)

  repeats-map : (e : B → B → Bool) (xs : List A) → has_repetition e (map f xs) ≡ has_repetition (λ x y. e (f x) (f y)) xs
  repeats-map e [] = refl
  repeats-map e (x ∷ xs) = ap (λ b. b || has_repetition e (map f xs)) (any-map (e (f x)) xs) ∙ ap (λ b. list_any (λ y. e (f x) (f y)) xs || b) (repeats-map e xs)

-- where one test fails for all, so does one that fails where it does
none-weaker : {A : Type 0} (p q : A → Bool) → ((x : A) → p x ≡ false → q x ≡ false) → (xs : List A) → list_any p xs ≡ false → list_any q xs ≡ false
none-weaker p q f [] h = refl
none-weaker p q f (x ∷ xs) h =
    let s = or_parts (p x) (list_any p xs) h in
    or_from (q x) (list_any q xs) (f x s.0) (none-weaker p q f xs s.1)

digits-good : (k : ℕ) (b : Bool) → (nat_le 1 k && nat_le k 18) ≡ b → not (is_some (cond b (Some (Num k)) None)) ≡ false → is_bad_size (unwrap_or (cond b (Some (Num k)) None) (Num 18)) ≡ false
digits-good k true e h = ap not e
digits-good k false e h = false_true (sym h)

bytes-good : (k : ℕ) (b : Bool) → (nat_le 1 k && nat_le k 4000) ≡ b → not (is_some (cond b (Some (Text k)) None)) ≡ false → is_bad_size (unwrap_or (cond b (Some (Text k)) None) (Num 18)) ≡ false
bytes-good k true e h = ap not e
bytes-good k false e h = false_true (sym h)

good-type : (ty : DeclaredType) → is_bad_type ty ≡ false → is_bad_size (unwrap_or (column_type ty) (Num 18)) ≡ false
good-type (declared.Number None) h = refl
good-type (declared.Number (Some k)) h = digits-good k (nat_le 1 k && nat_le k 18) refl h
good-type declared.Integer h = refl
good-type (declared.Varchar2 k) h = bytes-good k (nat_le 1 k && nat_le k 4000) refl h
good-type declared.Boolean h = false_true (sym h)
good-type (declared.OfColumn table column) h = false_true (sym h)

-- the place of a name that is there
there : (names : List (List ℕ)) (n : List ℕ) → is_among names n ≡ true → slice_get names (place_of names n) ≡ Some n
there [] n h = false_true h
there (m ∷ names) n h = by (bytes_eq n m) refl (there names n) h
  where
    by : (b : Bool) → bytes_eq n m ≡ b → (is_among names n ≡ true → slice_get names (place_of names n) ≡ Some n) → (b || is_among names n) ≡ true → slice_get (m ∷ names) (cond (not b) (1 + place_of names n) 0) ≡ Some n
    by true e f h = ap Some (sym ((bytes_decides n m).0 e))
    by false e f h =
        let next : 1 + place_of names n ≡ suc (place_of names n) = omega arith in
        ap (slice_get (m ∷ names)) next ∙ f h

below : (names : List (List ℕ)) (n : List ℕ) → is_among names n ≡ true → place_of names n < length names
below [] n h = false_true h
below (m ∷ names) n h = by (bytes_eq n m) (below names n) h
  where
    by : (b : Bool) → (is_among names n ≡ true → place_of names n < length names) → (b || is_among names n) ≡ true → cond (not b) (1 + place_of names n) 0 < suc (length names)
    by true f h = omega arith
    by false f h = let less : place_of names n < length names = f h in omega arith

not-false : (b : Bool) → not b ≡ false → b ≡ true
not-false true h = refl
not-false false h = false_true (sym h)

some_same : {X : Type 0} {x y : X} → Some x ≡ Some y → x ≡ y
some_same h = cc

-- different names have different places
apart : (names : List (List ℕ)) (n m : List ℕ) → is_among names n ≡ true → is_among names m ≡ true → bytes_eq n m ≡ false → nat_eq (place_of names n) (place_of names m) ≡ false
apart names n m a b h = by (nat_eq (place_of names n) (place_of names m)) refl
  where
    by : (t : Bool) → nat_eq (place_of names n) (place_of names m) ≡ t → t ≡ false
    by false e = refl
    by true e =
        let same : place_of names n ≡ place_of names m = eqb-true (place_of names n) (place_of names m) e in
        let equal : n ≡ m = some_same (sym (there names n a) ∙ (ap (slice_get names) same ∙ there names m b)) in
        false_true (sym h ∙ (bytes_decides n m).1 equal)

none-apart : (names : List (List ℕ)) (n : List ℕ) (ks : List (List ℕ)) → is_among names n ≡ true → list_any (λ k. not (is_among names k)) ks ≡ false → list_any (bytes_eq n) ks ≡ false
    → list_any (λ k. nat_eq (place_of names n) (place_of names k)) ks ≡ false
none-apart names n [] a all none = refl
none-apart names n (k ∷ ks) a all none =
    let s = or_parts (not (is_among names k)) (list_any (λ x. not (is_among names x)) ks) all in
    let t = or_parts (bytes_eq n k) (list_any (bytes_eq n) ks) none in
    or_from (nat_eq (place_of names n) (place_of names k)) (list_any (λ x. nat_eq (place_of names n) (place_of names x)) ks)
    (apart names n k a (not-false (is_among names k) s.0) t.0) (none-apart names n ks a s.1 t.1)

places-apart : (names ks : List (List ℕ)) → list_any (λ k. not (is_among names k)) ks ≡ false → has_repetition bytes_eq ks ≡ false → has_repetition (λ x y. nat_eq (place_of names x) (place_of names y)) ks ≡ false
places-apart names [] all apart_names = refl
places-apart names (k ∷ ks) all apart_names =
    let s = or_parts (not (is_among names k)) (list_any (λ x. not (is_among names x)) ks) all in
    let t = or_parts (list_any (bytes_eq k) ks) (has_repetition bytes_eq ks) apart_names in
    or_from (list_any (λ x. nat_eq (place_of names k) (place_of names x)) ks) (has_repetition (λ x y. nat_eq (place_of names x) (place_of names y)) ks)
    (none-apart names k ks (not-false (is_among names k) s.0) s.1 t.0) (places-apart names ks s.1 t.1)

less-not : (n m : ℕ) → m < n → nat_le n m ≡ false
less-not n m h = grind (arith, nat_tests)

inside : (names ks : List (List ℕ)) → list_any (λ k. not (is_among names k)) ks ≡ false → list_any (λ k. nat_le (length names) (place_of names k)) ks ≡ false
inside names ks h =
    none-weaker (λ k. not (is_among names k)) (λ k. nat_le (length names) (place_of names k))
    (λ k f. less-not (length names) (place_of names k) (below names k (not-false (is_among names k) f))) ks h

pub length-same : {A B : Type 0} (f : A → B) (xs : List A) → length (map f xs) ≡ length xs
length-same f [] = refl
length-same f (x ∷ xs) = ap suc (length-same f xs)

-- the three causes of the tables, each by one of the tree
names-good : (columns : List ColumnTree) → has_repetition bytes_eq (column_names columns) ≡ false → has_repetition same_name (map column_of columns) ≡ false
names-good columns h =
    repeats-map column_of same_name columns ∙ (sym (repeats-map (λ (c : ColumnTree). c.name) bytes_eq columns) ∙ h)

types-good : (columns : List ColumnTree) → has_bad_type columns ≡ false → list_any (λ (c : Column). is_bad_size c.ty) (map column_of columns) ≡ false
types-good columns h =
    any-map column_of (λ (c : Column). is_bad_size c.ty) columns
    ∙ none-weaker (λ (c : ColumnTree). is_bad_type c.ty) (λ (c : ColumnTree). is_bad_size (column_of c).ty) (λ c f. good-type c.ty f) columns h

key-good : (columns : List ColumnTree) (ks : List (List ℕ)) → is_bad_key (column_names columns) ks ≡ false → tables.is_bad_key (length (map column_of columns)) (map (place_of (column_names columns)) ks) ≡ false
key-good columns ks h =
    let names = column_names columns in
    let s = or_parts (has_repetition bytes_eq ks) (list_any (λ k. not (is_among names k)) ks) h in
    let count : length (map column_of columns) ≡ length names = length-same column_of columns ∙ sym (length-same (λ (c : ColumnTree). c.name) columns) in
    or_from (has_repetition nat_eq (map (place_of names) ks)) (list_any (nat_le (length (map column_of columns))) (map (place_of names) ks))
    (repeats-map (place_of names) nat_eq ks ∙ places-apart names ks s.1 s.0)
    (any-map (place_of names) (nat_le (length (map column_of columns))) ks
    ∙ (ap (λ n. list_any (λ k. nat_le n (place_of names k)) ks) count ∙ inside names ks s.1))

-- EBR-0029 has no other cause
pub allowed : (name : List ℕ) (columns : List ColumnTree) (key : List (List ℕ)) → is_bad_table columns key ≡ false → tables.is_bad_table (table_of name columns key) ≡ false
unfolding is_bad_table table_of
allowed name columns key h =
    let r = or_parts (has_repetition bytes_eq (column_names columns) || has_bad_type columns || has_two_primary_keys columns key) (is_bad_key (column_names columns) (key_names columns key)) h in
    let s = or_parts (has_repetition bytes_eq (column_names columns) || has_bad_type columns) (has_two_primary_keys columns key) r.0 in
    let t = or_parts (has_repetition bytes_eq (column_names columns)) (has_bad_type columns) s.0 in
    or_from (has_repetition same_name (map column_of columns) || list_any (λ (c : Column). is_bad_size c.ty) (map column_of columns)) _
    (or_from (has_repetition same_name (map column_of columns)) (list_any (λ (c : Column). is_bad_size c.ty) (map column_of columns)) (names-good columns t.0) (types-good columns t.1))
    (key-good columns (key_names columns key) r.1)
