-- What is kept of each table: a definition that nothing refuses is as tables are, in its kept form too, and stays so with
-- one more column that nothing refuses.
use Rattle.std.proofs.Common.{◌≡◌, ℕ, zero, suc, ◌+◌, ◌<◌, ◌≤◌, Bool, true, false, cond, ◌||◌, List, [], ◌∷◌, ◌++◌, length, refl, ap, subst, ◌∙◌, arith, nat_eq, nat_le, nat_lt}
use Rattle.std.specs.Prelude.{Option, Some, None, is_some, slice_get}
use Rattle.std.specs.List.{list_any}
use Rattle.std.proofs.lemmas.Bool.{or_parts, or_from}
use Rattle.std.proofs.lemmas.Bool.Decides.{nat_tests}
use Rattle.std.proofs.lemmas.Cmp.{nat_eq_equiv, nat_list_eq_equiv}
use Rattle.std.proofs.lemmas.List.{length_push}
use Rattle.std.proofs.lemmas.List.Elements.{All-weaker}
use Rattle.std.proofs.lemmas.List.Folds.{list_any-append}
use Rattle.std.proofs.lemmas.Map.Views.{All-from_any}
use Rattle.ebr_base.specs.declared.code.Code.{Code}
use Rattle.ebr_base.specs.declared.numbers.TableId.{TableId}
use Rattle.ebr_base.specs.declared.table.Column.{Column}
use Rattle.ebr_base.specs.declared.table.TableDef.{TableDef}
use Rattle.ebr_tables.specs.Definitions.{has_repetition, same_name, is_bad_size, is_bad_key, is_bad_table, is_bad_column, with_key_not_null}
use Rattle.ebr_base.specs.Keys.{table_named}
use Rattle.ebr_tables.specs.Tables.{AllTables, IsTable, is_not_null, create_refusal, add_refusal, kept_as, widened}
use Rattle.ebr_tables.proofs.Names.{once-push}

-- a cause that doesn't refuse
passed : (b : Bool) (code : Code) (rest : Option Code) → cond b (Some code) rest ≡ None → (b ≡ false) × (rest ≡ None)
passed true code rest e = absurd cc
passed false code rest e = (refl, e)

or_true : (a b : Bool) → b ≡ true → (a || b) ≡ true
or_true true b h = refl
or_true false b h = h

-- the columns of a kept definition
module _ (key : List ℕ) where
  marked : ℕ → Column → Column
  marked place c = record c { not_null = c.not_null || list_any (nat_eq place) key }

  any-kept : (p : Column → Bool) → ((place : ℕ) (c : Column) → p (marked place c) ≡ p c) → (k : ℕ) (cs : List Column) → list_any p (with_key_not_null key k cs) ≡ list_any p cs
  unfolding marked
  any-kept p same k [] = refl
  any-kept p same k (c ∷ cs) = ap (λ b. b || list_any p (with_key_not_null key (suc k) cs)) (same k c) ∙ ap (λ b. p c || b) (any-kept p same (suc k) cs)

  names-kept : (k : ℕ) (cs : List Column) → has_repetition same_name (with_key_not_null key k cs) ≡ has_repetition same_name cs
  unfolding marked
  names-kept k [] = refl
  names-kept k (c ∷ cs) =
      ap (λ b. b || has_repetition same_name (with_key_not_null key (suc k) cs)) (any-kept (same_name c) (λ place d. refl) (suc k) cs)
      ∙ ap (λ b. list_any (same_name c) cs || b) (names-kept (suc k) cs)

  sizes-kept : (k : ℕ) (cs : List Column) → list_any (λ c. is_bad_size c.ty) (with_key_not_null key k cs) ≡ list_any (λ c. is_bad_size c.ty) cs
  unfolding marked
  sizes-kept k cs = any-kept (λ c. is_bad_size c.ty) (λ place d. refl) k cs

  length-kept : (k : ℕ) (cs : List Column) → length (with_key_not_null key k cs) ≡ length cs
  length-kept k [] = refl
  length-kept k (c ∷ cs) = ap suc (length-kept (suc k) cs)

  not_null-at : (k i : ℕ) (cs : List Column) → i < length cs → list_any (nat_eq (k + i)) key ≡ true → is_not_null (slice_get (with_key_not_null key k cs) i) ≡ true
  not_null-at k i [] lt h = absurd (omega arith)
  not_null-at k zero (c ∷ cs) lt h =
      let same : k + 0 ≡ k = omega arith in
      or_true c.not_null (list_any (nat_eq k) key) (subst (λ n. list_any (nat_eq n) key ≡ true) same h)
  not_null-at k (suc i) (c ∷ cs) lt h =
      let same : k + suc i ≡ suc k + i = omega arith in
      not_null-at (suc k) i cs (omega arith) (subst (λ n. list_any (nat_eq n) key ≡ true) same h)

-- a place of a key that names no place from n on
below : (n q : ℕ) (ks : List ℕ) → list_any (nat_le n) ks ≡ false → list_any (nat_eq q) ks ≡ true → q < n
below n q [] h e = absurd cc
below n q (k ∷ ks) h e = let s = or_parts (nat_le n k) (list_any (nat_le n) ks) h in by (nat_eq q k) refl s.0 e (below n q ks s.1)
  where
    by : (b : Bool) → nat_eq q k ≡ b → nat_le n k ≡ false → (b || list_any (nat_eq q) ks) ≡ true → (list_any (nat_eq q) ks ≡ true → q < n) → q < n
    by true is le e rest = grind (arith, nat_tests)
    by false is le e rest = rest e

none-above : (m n : ℕ) (ks : List ℕ) → m ≤ n → list_any (nat_le m) ks ≡ false → list_any (nat_le n) ks ≡ false
none-above m n [] le h = refl
none-above m n (k ∷ ks) le h =
    let s = or_parts (nat_le m k) (list_any (nat_le m) ks) h in
    let here : nat_le n k ≡ false = apart k le s.0 in
    or_from (nat_le n k) (list_any (nat_le n) ks) here (none-above m n ks le s.1)
  where
    apart : (k : ℕ) → m ≤ n → nat_le m k ≡ false → nat_le n k ≡ false
    apart k le h = grind (arith, nat_tests)

at-most : (m n : ℕ) → nat_le n m ≡ false → m < n
at-most m n h = grind (arith, nat_tests)

not-above : (m n : ℕ) → nat_lt n m ≡ false → m ≤ n
not-above m n h = grind (arith, nat_tests)

-- a key that is good, over one column more
wider-key : (n : ℕ) (key : List ℕ) → is_bad_key n key ≡ false → is_bad_key (suc n) key ≡ false
wider-key n key h =
    let s = or_parts (has_repetition nat_eq key) (list_any (nat_le n) key) h in
    or_from (has_repetition nat_eq key) (list_any (nat_le (suc n)) key) s.0 (none-above n (suc n) key (omega arith) s.1)

-- the parts of a definition that isn't bad, and back
parts : (d : TableDef) → is_bad_table d ≡ false → (has_repetition same_name d.columns ≡ false) × (list_any (λ c. is_bad_size c.ty) d.columns ≡ false) × (is_bad_key (length d.columns) d.key ≡ false)
parts d h =
    let s = or_parts (has_repetition same_name d.columns || list_any (λ c. is_bad_size c.ty) d.columns) (is_bad_key (length d.columns) d.key) h in
    let t = or_parts (has_repetition same_name d.columns) (list_any (λ c. is_bad_size c.ty) d.columns) s.0 in
    (t.0, t.1, s.1)

whole : (d : TableDef) → has_repetition same_name d.columns ≡ false → list_any (λ c. is_bad_size c.ty) d.columns ≡ false → is_bad_key (length d.columns) d.key ≡ false → is_bad_table d ≡ false
whole d a b c =
    or_from (has_repetition same_name d.columns || list_any (λ c. is_bad_size c.ty) d.columns) (is_bad_key (length d.columns) d.key)
    (or_from (has_repetition same_name d.columns) (list_any (λ c. is_bad_size c.ty) d.columns) a b) c

-- a definition as it is kept
pub kept-is : (id : TableId) (d : TableDef) → is_bad_table d ≡ false → length d.columns ≤ 64 → IsTable (kept_as id d)
kept-is id d good few =
    let p = parts d good in
    let long = length-kept d.key 0 d.columns in
    let key = or_parts (has_repetition nat_eq d.key) (list_any (nat_le (length d.columns)) d.key) p.2 in
    record {
      allowed = whole (kept_as id d) (names-kept d.key 0 d.columns ∙ p.0) (sizes-kept d.key 0 d.columns ∙ p.1) (ap (λ n. is_bad_key n d.key) long ∙ p.2);
      few = omega (arith, long, few);
      key = All-from_any nat_eq_equiv (λ place. is_not_null (slice_get (with_key_not_null d.key 0 d.columns) place) ≡ true) d.key
          (λ q there. not_null-at d.key 0 q d.columns (below (length d.columns) q d.key key.1 there) (at_place q there));
    }
  where
    at_place : (q : ℕ) → list_any (nat_eq q) d.key ≡ true → list_any (nat_eq (0 + q)) d.key ≡ true
    at_place q there = let same : q ≡ 0 + q = omega arith in subst (λ n. list_any (nat_eq n) d.key ≡ true) same there

not_null-more : (c : Column) (cs : List Column) (place : ℕ) → is_not_null (slice_get cs place) ≡ true → is_not_null (slice_get (cs ++ c ∷ []) place) ≡ true
not_null-more c [] place h = absurd cc
not_null-more c (d ∷ cs) zero h = h
not_null-more c (d ∷ cs) (suc place) h = not_null-more c cs place h

-- what refuses no column
add-parts : (c : Column) (t : TableDef) → add_refusal (Some t) c ≡ None → (list_any (same_name c) t.columns ≡ false) × (is_bad_size c.ty ≡ false) × (length t.columns < 64)
add-parts c t e =
    let bad = passed (is_bad_column t.columns c) _ _ e in
    let full = passed (nat_le 64 (length t.columns)) _ _ bad.1 in
    let s = or_parts (list_any (same_name c) t.columns) (is_bad_size c.ty) bad.0 in
    (s.0, s.1, at-most (length t.columns) 64 full.0)

-- a table with one more column
pub widened-is : (c : Column) (t : TableDef) → IsTable t → add_refusal (Some t) c ≡ None → IsTable (widened c t)
widened-is c t is e =
    let a = add-parts c t e in
    let p = parts t is.allowed in
    let long : length (t.columns ++ c ∷ []) ≡ suc (length t.columns) = omega (arith, length_push t.columns c) in
    record {
      allowed = whole (widened c t)
          (once-push same_name (λ x y. nat_list_eq_equiv.symm x.name y.name) c t.columns p.0 a.0)
          (list_any-append (λ d. is_bad_size d.ty) t.columns (c ∷ []) ∙ or_from (list_any (λ d. is_bad_size d.ty) t.columns) (list_any (λ d. is_bad_size d.ty) (c ∷ [])) p.1 (or_from (is_bad_size c.ty) false a.1 refl))
          (ap (λ n. is_bad_key n t.key) long ∙ wider-key (length t.columns) t.key p.2);
      few = omega (arith, long, a.2);
      key = All-weaker (λ place. is_not_null (slice_get t.columns place) ≡ true) (λ place. is_not_null (slice_get (t.columns ++ c ∷ []) place) ≡ true) (not_null-more c t.columns) t.key is.key;
    }

-- what nothing refuses of a new table
pub record IsAllowed (s : AllTables) (d : TableDef) : Type 0 where
  pub new : table_named d.name s.living ≡ None
  pub good : is_bad_table d ≡ false
  pub columns : length d.columns ≤ 64
  pub room : length s.living < 1000

pub allowed : (s : AllTables) (d : TableDef) → create_refusal s d ≡ None → IsAllowed s d
allowed s d e =
    let taken = passed (is_some (table_named d.name s.living)) _ _ e in
    let bad = passed (is_bad_table d) _ _ taken.1 in
    let wide = passed (nat_lt 64 (length d.columns)) _ _ bad.1 in
    let full = passed (nat_le 1000 (length s.living)) _ _ wide.1 in
    record {
      new = none (table_named d.name s.living) taken.0;
      good = bad.0;
      columns = not-above (length d.columns) 64 wide.0;
      room = at-most (length s.living) 1000 full.0;
    }
  where
    none : (o : Option TableDef) → is_some o ≡ false → o ≡ None
    none None h = refl
    none (Some t) h = absurd cc
