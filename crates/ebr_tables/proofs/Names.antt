-- What a name picks among tables of different names, and what changes of the list keep.
use Rattle.std.proofs.Common.{◌≡◌, ℕ, suc, Bool, true, false, not, cond, ◌||◌, ◌<◌, ◌≤◌, List, [], ◌∷◌, ◌++◌, map, refl, sym, ap, subst, ◌∙◌, arith}
use Rattle.std.specs.Prelude.{Some, None, is_some, if◌then◌else◌, filter}
use Rattle.std.specs.List.{list_any}
use Rattle.std.specs.Str.{bytes_eq}
use Rattle.std.proofs.lemmas.Bool.{or_parts, or_from}
use Rattle.std.proofs.lemmas.List.Folds.{list_any-append}
use Rattle.std.proofs.lemmas.Slice.Eq.{bytes_eq-Decides}
use Rattle.ebr_base.specs.declared.table.TableDef.{TableDef}
use Rattle.ebr_tables.specs.Definitions.{has_repetition}
use Rattle.ebr_base.specs.Keys.{table_named}
use Rattle.ebr_tables.specs.Tables.{same_table_name, IdsAscend}

-- whether a table has a name
abbrev pub has : List ℕ → TableDef → Bool
has n t = bytes_eq n t.name

-- a look-up finds something exactly where some table has the name
pub found-any : (n : List ℕ) (ts : List TableDef) → is_some (table_named n ts) ≡ list_any (has n) ts
found-any n [] = refl
found-any n (t ∷ ts) = by (has n t) (found-any n ts)
  where
    by : (b : Bool) → is_some (table_named n ts) ≡ list_any (has n) ts → is_some (cond b (Some t) (table_named n ts)) ≡ (b || list_any (has n) ts)
    by true e = refl
    by false e = e

pub none-any : (n : List ℕ) (ts : List TableDef) → table_named n ts ≡ None → list_any (has n) ts ≡ false
none-any n ts e = sym (found-any n ts) ∙ ap is_some e

-- where h has the name n, and none after it shares h's name, none after it has n
pub others-none : (n : List ℕ) (h : TableDef) (ts : List TableDef) → has n h ≡ true → list_any (same_table_name h) ts ≡ false → list_any (has n) ts ≡ false
others-none n h ts e none = subst (λ m. list_any (has m) ts ≡ false) (sym ((bytes_eq-Decides n h.name).0 e)) none

pub filter-none : (n : List ℕ) (ts : List TableDef) → list_any (has n) ts ≡ false → filter (λ t. not (has n t)) ts ≡ ts
filter-none n [] e = refl
filter-none n (t ∷ ts) e =
    let p = or_parts (has n t) (list_any (has n) ts) e in
    let here : has n t ≡ false = p.0 in
    let rest : filter (λ u. not (has n u)) ts ≡ ts = filter-none n ts p.1 in
    rw (here, rest)

pub map-none : (n : List ℕ) (g : TableDef → TableDef) (ts : List TableDef) → list_any (has n) ts ≡ false → map (λ t. if has n t then g t else t) ts ≡ ts
map-none n g [] e = refl
map-none n g (t ∷ ts) e =
    let p = or_parts (has n t) (list_any (has n) ts) e in
    let here : has n t ≡ false = p.0 in
    let rest : map (λ u. if has n u then g u else u) ts ≡ ts = map-none n g ts p.1 in
    rw (here, rest)

any-filter : (r p : TableDef → Bool) (ts : List TableDef) → list_any r ts ≡ false → list_any r (filter p ts) ≡ false
any-filter r p [] e = e
any-filter r p (t ∷ ts) e =
    let s = or_parts (r t) (list_any r ts) e in
    by (p t) s.0 (any-filter r p ts s.1)
  where
    by : (b : Bool) → r t ≡ false → list_any r (filter p ts) ≡ false → list_any r (cond b (t ∷ filter p ts) (filter p ts)) ≡ false
    by true here rest = or_from (r t) (list_any r (filter p ts)) here rest
    by false here rest = rest

-- fewer tables have different names too
pub distinct-filter : (p : TableDef → Bool) (ts : List TableDef) → has_repetition same_table_name ts ≡ false → has_repetition same_table_name (filter p ts) ≡ false
distinct-filter p [] e = e
distinct-filter p (t ∷ ts) e =
    let s = or_parts (list_any (same_table_name t) ts) (has_repetition same_table_name ts) e in
    by (p t) (any-filter (same_table_name t) p ts s.0) (distinct-filter p ts s.1)
  where
    by : (b : Bool) → list_any (same_table_name t) (filter p ts) ≡ false → has_repetition same_table_name (filter p ts) ≡ false
        → has_repetition same_table_name (cond b (t ∷ filter p ts) (filter p ts)) ≡ false
    by true here rest = or_from (list_any (same_table_name t) (filter p ts)) (has_repetition same_table_name (filter p ts)) here rest
    by false here rest = rest

any-map : (r : TableDef → Bool) (f : TableDef → TableDef) (ts : List TableDef) → ((t : TableDef) → r (f t) ≡ r t) → list_any r (map f ts) ≡ list_any r ts
any-map r f [] same = refl
any-map r f (t ∷ ts) same = let here = same t in let rest = any-map r f ts same in rw (here, rest)

-- tables that keep their names have different ones still
pub distinct-map : (f : TableDef → TableDef) (ts : List TableDef) → ((t : TableDef) → (f t).name ≡ t.name)
    → has_repetition same_table_name (map f ts) ≡ has_repetition same_table_name ts
distinct-map f [] same = refl
distinct-map f (t ∷ ts) same =
    ap (λ b. b || has_repetition same_table_name (map f ts)) (any-map (same_table_name (f t)) f ts (λ u. ap (λ m. bytes_eq (f t).name m) (same u)))
    ∙ ap (λ m. list_any (has m) ts || has_repetition same_table_name (map f ts)) (same t)
    ∙ ap (λ b. list_any (same_table_name t) ts || b) (distinct-map f ts same)

-- one more goes last, which none before it equals
pub once-push : {A : Type 0} (eq : A → A → Bool) → ((a b : A) → eq a b ≡ eq b a) → (x : A) (xs : List A) → has_repetition eq xs ≡ false → list_any (eq x) xs ≡ false
    → has_repetition eq (xs ++ x ∷ []) ≡ false
once-push eq back x [] e none = refl
once-push eq back x (y ∷ xs) e none =
    let s = or_parts (list_any (eq y) xs) (has_repetition eq xs) e in
    let n = or_parts (eq x y) (list_any (eq x) xs) none in
    or_from (list_any (eq y) (xs ++ x ∷ [])) (has_repetition eq (xs ++ x ∷ []))
    (list_any-append (eq y) xs (x ∷ []) ∙ or_from (list_any (eq y) xs) (list_any (eq y) (x ∷ [])) s.0 (or_from (eq y x) false (back y x ∙ n.0) refl))
    (once-push eq back x xs s.1 n.1)

module _ (made : ℕ) where
  ascend-from : (a b : ℕ) (ts : List TableDef) → a ≤ b → IdsAscend b made ts → IdsAscend a made ts
  ascend-from a b [] le h = tt
  ascend-from a b (t ∷ ts) le h = let first : b < t.id.0 = h.0 in (omega arith, h.1, h.2)

  pub ascend-filter : (p : TableDef → Bool) (a : ℕ) (ts : List TableDef) → IdsAscend a made ts → IdsAscend a made (filter p ts)
  ascend-filter p a [] h = tt
  ascend-filter p a (t ∷ ts) h = by (p t) h.0 (ascend-filter p t.id.0 ts h.2)
    where
      by : (b : Bool) → a < t.id.0 → IdsAscend t.id.0 made (filter p ts) → IdsAscend a made (cond b (t ∷ filter p ts) (filter p ts))
      by true less rest = (less, h.1, rest)
      by false less rest = ascend-from a t.id.0 (filter p ts) (omega arith) rest

  pub ascend-map : (f : TableDef → TableDef) (a : ℕ) (ts : List TableDef) → ((t : TableDef) → (f t).id ≡ t.id) → IdsAscend a made ts → IdsAscend a made (map f ts)
  ascend-map f a [] same h = tt
  ascend-map f a (t ∷ ts) same h =
      let is : t.id ≡ (f t).id = sym (same t) in
      (subst (λ i. a < i.0) is h.0, subst (λ i. i.0 ≤ made) is h.1, subst (λ i. IdsAscend i.0 made (map f ts)) is (ascend-map f t.id.0 ts same h.2))

  -- the next id goes last
  pub ascend-push : (t : TableDef) (a : ℕ) (ts : List TableDef) → t.id.0 ≡ suc made → a ≤ made → IdsAscend a made ts → IdsAscend a (suc made) (ts ++ t ∷ [])
  ascend-push t a [] is le h = (omega arith, omega arith, tt)
  ascend-push t a (u ∷ ts) is le h = let at : u.id.0 ≤ made = h.1 in (h.0, omega arith, ascend-push t u.id.0 ts is h.1 h.2)
