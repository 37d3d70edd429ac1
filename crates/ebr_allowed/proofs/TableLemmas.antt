-- The tables that live, by their ids, and what a definition leaves of them.
use Rattle.std.proofs.Common.{◌≡◌, ℕ, ◌<◌, ◌≤◌, Bool, true, false, cond, not, List, [], ◌∷◌, ◌++◌, refl, sym, ap, ◌∙◌, arith}
use Rattle.std.specs.Prelude.{◌==◌, All, Option, Some, None, filter, find, if◌then◌else◌, map, option_map, unwrap_or}
use Rattle.std.specs.List.{AllByRecursion, list_any}
use Rattle.std.specs.Str.{bytes_eq}
use Rattle.std.specs.Cmp.Lexicographic.{bytes_decides}
use Rattle.std.proofs.lemmas.Bool.{and_from, and_parts, both_ways, eq-eqb, eqb-true, ne_eqb, or_parts}
use Rattle.std.proofs.lemmas.Option.{same_Some}
use Rattle.std.proofs.lemmas.List.Elements.{All-from_recursion}
use Rattle.ebr_base.specs.declared.numbers.TableId.{TableId}
use Rattle.ebr_base.specs.declared.row.Change.{Change}
use Rattle.ebr_base.specs.declared.table.Column as column
use Rattle.ebr_base.specs.declared.table.TableDef.{TableDef}
use Rattle.ebr_base.specs.declared.value.Value.{Value}
use Rattle.ebr_tables.specs.Definitions.{has_repetition}
use Rattle.ebr_tables.specs.Tables.{AllTables, IdsAscend, has_id, same_table_name, widened, with_column, without_table}
use Rattle.ebr_cross.specs.Records.{table_name}
use Rattle.ebr_tx.specs.Commits.{is_numbered}
use Rattle.ebr_integrity.specs.Commits.{IsSuitable, suits_table}

own_id : (n : ℕ) → (n == n) ≡ true
own_id n = eq-eqb n n refl

-- ---- ids that ascend

abbrev Above : ℕ → List TableDef → Type 0
Above a ts = AllByRecursion (λ (t : TableDef). a < t.id.0) ts

above_less : (a b : ℕ) (ts : List TableDef) → a ≤ b → Above b ts → Above a ts
above_less a b [] le h = tt
above_less a b (t ∷ ts) le h = (omega (arith, le, h.0), above_less a b ts le h.1)

all_above : (a made : ℕ) (ts : List TableDef) → IdsAscend a made ts → Above a ts
all_above a made [] h = tt
all_above a made (t ∷ ts) h = (h.0, above_less a t.id.0 ts (omega (arith, h.0)) (all_above t.id.0 made ts h.2))

abbrev Finds : List TableDef → TableDef → Type 0
Finds ts t = find (has_id t.id) ts ≡ Some t

behind_one : (u : TableDef) (all ts : List TableDef) → Above u.id.0 ts → AllByRecursion (Finds all) ts → AllByRecursion (Finds (u ∷ all)) ts
behind_one u all [] a h = tt
behind_one u all (t ∷ ts) a h =
    let other : (u.id.0 == t.id.0) ≡ false = ne_eqb u.id.0 t.id.0 (λ e. differ e) in
    (ap (λ b. cond b (Some u) (find (has_id t.id) all)) other ∙ h.0, behind_one u all ts a.1 h.1)
  where
    differ : u.id.0 ≡ t.id.0 → ⊥
    differ e = omega (arith, e, a.0)

each_found : (a made : ℕ) (ts : List TableDef) → IdsAscend a made ts → AllByRecursion (Finds ts) ts
each_found a made [] h = tt
each_found a made (t ∷ ts) h =
    (ap (λ b. cond b (Some t) (find (has_id t.id) ts)) (own_id t.id.0), behind_one t ts ts (all_above t.id.0 made ts h.2) (each_found t.id.0 made ts h.2))

-- each table is found by its id
pub found_by_id : (a made : ℕ) (ts : List TableDef) → IdsAscend a made ts → All (Finds ts) ts
found_by_id a made ts h = All-from_recursion (Finds ts) ts (each_found a made ts h)

-- ---- what is found

pub found_id : (id : TableId) (ts : List TableDef) (t : TableDef) → find (has_id id) ts ≡ Some t → id.0 ≡ t.id.0
found_id id [] t e = cc
found_id id (u ∷ ts) t e = by (has_id id u) refl e (found_id id ts t)
  where
    by : (b : Bool) → has_id id u ≡ b → cond b (Some u) (find (has_id id) ts) ≡ Some t → (find (has_id id) ts ≡ Some t → id.0 ≡ t.id.0) → id.0 ≡ t.id.0
    by true is k rest = sym (eqb-true u.id.0 id.0 is) ∙ ap (λ (x : TableDef). x.id.0) (same_Some u t k)
    by false is k rest = rest k

-- a table that keeps the test of its id is found still
find_map : (id : TableId) (f : TableDef → TableDef) → ((t : TableDef) → (f t).id ≡ t.id) → (ts : List TableDef) → find (has_id id) (map f ts) ≡ option_map f (find (has_id id) ts)
find_map id f keeps [] = refl
find_map id f keeps (t ∷ ts) =
    ap (λ (i : TableId). cond (i.0 == id.0) (Some (f t)) (find (has_id id) (map f ts))) (keeps t) ∙ by (has_id id t) (find_map id f keeps ts)
  where
    by : (b : Bool) → find (has_id id) (map f ts) ≡ option_map f (find (has_id id) ts) → cond b (Some (f t)) (find (has_id id) (map f ts)) ≡ option_map f (cond b (Some t) (find (has_id id) ts))
    by true rest = refl
    by false rest = rest

find_kept : (id : TableId) (p : TableDef → Bool) (ts : List TableDef) (t : TableDef) → find (has_id id) ts ≡ Some t → p t ≡ true → find (has_id id) (filter p ts) ≡ Some t
find_kept id p [] t e h = cc
find_kept id p (u ∷ ts) t e h = by (has_id id u) (p u) refl refl e (find_kept id p ts t)
  where
    by : (a b : Bool) → has_id id u ≡ a → p u ≡ b → cond a (Some u) (find (has_id id) ts) ≡ Some t → (find (has_id id) ts ≡ Some t → p t ≡ true → find (has_id id) (filter p ts) ≡ Some t)
        → find (has_id id) (cond b (u ∷ filter p ts) (filter p ts)) ≡ Some t
    by true true is k e rest = ap (λ a. cond a (Some u) (find (has_id id) (filter p ts))) is ∙ e
    by true false is k e rest = absurd (both_ways (p u) k (ap p (same_Some u t e) ∙ h))
    by false true is k e rest = ap (λ a. cond a (Some u) (find (has_id id) (filter p ts))) is ∙ rest e h
    by false false is k e rest = rest e h

find_front : (id : TableId) (ts more : List TableDef) (t : TableDef) → find (has_id id) ts ≡ Some t → find (has_id id) (ts ++ more) ≡ Some t
find_front id [] more t e = cc
find_front id (u ∷ ts) more t e = by (has_id id u) e (find_front id ts more t)
  where
    by : (b : Bool) → cond b (Some u) (find (has_id id) ts) ≡ Some t → (find (has_id id) ts ≡ Some t → find (has_id id) (ts ++ more) ≡ Some t) → cond b (Some u) (find (has_id id) (ts ++ more)) ≡ Some t
    by true e rest = e
    by false e rest = rest e

-- ---- tables of different names

none_of : (p : TableDef → Bool) (id : TableId) (ts : List TableDef) (t : TableDef) → list_any p ts ≡ false → find (has_id id) ts ≡ Some t → p t ≡ false
none_of p id [] t none e = cc
none_of p id (u ∷ ts) t none e = let parts = or_parts (p u) (list_any p ts) none in by (has_id id u) parts.0 e (none_of p id ts t parts.1)
  where
    by : (b : Bool) → p u ≡ false → cond b (Some u) (find (has_id id) ts) ≡ Some t → (find (has_id id) ts ≡ Some t → p t ≡ false) → p t ≡ false
    by true here e rest = ap p (sym (same_Some u t e)) ∙ here
    by false here e rest = rest e

-- two that have one name are one
one_name : (a b : TableId) (ts : List TableDef) (t u : TableDef) → has_repetition same_table_name ts ≡ false → find (has_id a) ts ≡ Some t → find (has_id b) ts ≡ Some u → t.name ≡ u.name → t ≡ u
one_name a b [] t u none e k same = cc
one_name a b (x ∷ ts) t u none e k same =
    let parts = or_parts (list_any (same_table_name x) ts) (has_repetition same_table_name ts) none in
    by (has_id a x) (has_id b x) parts.0 e k (λ e' k'. one_name a b ts t u parts.1 e' k' same)
  where
    itself : (n : List ℕ) → bytes_eq n n ≡ true
    itself n = (bytes_decides n n).1 refl

    by : (p q : Bool) → list_any (same_table_name x) ts ≡ false → cond p (Some x) (find (has_id a) ts) ≡ Some t → cond q (Some x) (find (has_id b) ts) ≡ Some u
        → (find (has_id a) ts ≡ Some t → find (has_id b) ts ≡ Some u → t ≡ u) → t ≡ u
    by true true apart e k rest = sym (same_Some x t e) ∙ same_Some x u k
    by true false apart e k rest =
        absurd (both_ways (same_table_name x u) (none_of (same_table_name x) b ts u apart k) (ap (λ n. bytes_eq n u.name) (ap (λ (y : TableDef). y.name) (same_Some x t e) ∙ same) ∙ itself u.name))
    by false true apart e k rest =
        absurd (both_ways (same_table_name x t) (none_of (same_table_name x) a ts t apart e) (ap (λ n. bytes_eq n t.name) (ap (λ (y : TableDef). y.name) (same_Some x u k) ∙ sym same) ∙ itself t.name))
    by false false apart e k rest = rest e k

-- a table of another id has another name
other_name : (s : AllTables) (id other : TableId) (t u : TableDef) → has_repetition same_table_name s.living ≡ false → find (has_id id) s.living ≡ Some t → find (has_id other) s.living ≡ Some u → (other.0 ≡ id.0 → ⊥)
    → bytes_eq (table_name s id) u.name ≡ false
other_name s id other t u names e k apart = by (bytes_eq (table_name s id) u.name) refl
  where
    named : table_name s id ≡ t.name
    named = ap (λ (o : Option TableDef). unwrap_or (option_map (λ (x : TableDef). x.name) o) []) e

    by : (b : Bool) → bytes_eq (table_name s id) u.name ≡ b → b ≡ false
    by false is = refl
    by true is =
        let same : t.name ≡ u.name = sym named ∙ (bytes_decides (table_name s id) u.name).0 is in
        let one : t ≡ u = one_name id other s.living t u names e k same in
        absurd (apart (found_id other s.living u k ∙ ap (λ (x : TableDef). x.id.0) (sym one) ∙ sym (found_id id s.living t e)))

-- ---- changes of tables that a definition leaves alone

-- what suits a table that is found suits it where it is found so still
suits_still : (now was : Option TableDef) (values : Option (List Value)) → ((t : TableDef) → was ≡ Some t → now ≡ Some t) → suits_table was values ≡ true → suits_table now values ≡ true
suits_still now None values same h = absurd (both_ways false refl h)
suits_still now (Some t) values same h = ap (λ o. suits_table o values) (same t refl) ∙ h

module _ (c : Change) where
  kept : (living now : List TableDef) → ((t : TableDef) → find (has_id c.row.table) living ≡ Some t → find (has_id c.row.table) now ≡ Some t) → IsSuitable living c → IsSuitable now c
  kept living now same h =
      let parts = and_parts (is_numbered c) (suits_table (find (has_id c.row.table) living) c.values) h in
      and_from (is_numbered c) (suits_table (find (has_id c.row.table) now) c.values) parts.0 (suits_still (find (has_id c.row.table) now) (find (has_id c.row.table) living) c.values same parts.1)

  pub suitable_more : (living more : List TableDef) → IsSuitable living c → IsSuitable (living ++ more) c
  suitable_more living more h = kept living (living ++ more) (find_front c.row.table living more) h

  module _ (s : AllTables) (id : TableId) (t : TableDef) (names : has_repetition same_table_name s.living ≡ false) (there : find (has_id id) s.living ≡ Some t) (apart : c.row.table.0 ≡ id.0 → ⊥) where
    abbrev name : List ℕ
    name = table_name s id

    pub suitable_column : (new : column.Column) → IsSuitable s.living c → IsSuitable (with_column s name new).living c
    suitable_column new h = kept s.living (with_column s name new).living same h
      where
        same_ids : (u : TableDef) → (if bytes_eq name u.name then widened new u else u).id ≡ u.id
        same_ids u = by (bytes_eq name u.name)
          where
            by : (b : Bool) → (if b then widened new u else u).id ≡ u.id
            by true = refl
            by false = refl

        same : (u : TableDef) → find (has_id c.row.table) s.living ≡ Some u → find (has_id c.row.table) (with_column s name new).living ≡ Some u
        same u e =
            find_map c.row.table (λ u. if bytes_eq name u.name then widened new u else u) same_ids s.living ∙ ap (option_map (λ u. if bytes_eq name u.name then widened new u else u)) e
            ∙ ap (λ b. Some (if b then widened new u else u)) (other_name s id c.row.table t u names there e apart)

    pub suitable_gone : IsSuitable s.living c → IsSuitable (without_table s name).living c
    suitable_gone h =
        kept s.living (without_table s name).living (λ u e. find_kept c.row.table (λ u. not (bytes_eq name u.name)) s.living u e (ap not (other_name s id c.row.table t u names there e apart))) h
