-- What the calls on the map do to the list of tables.
use Rattle.std.proofs.Common.{◌≡◌, ℕ, suc, Bool, true, false, not, cond, List, [], ◌∷◌, ◌++◌, map, refl, sym, ap, subst, ◌∙◌, arith}
use Rattle.std.specs.Prelude.{◌<◌, ◌≤◌, Option, Some, None, if◌then◌else◌, filter, All}
use Rattle.std.specs.Str.{bytes_eq}
use Rattle.std.specs.Map.{values_of, lookup, remove_entry, set_value}
use Rattle.std.specs.List.{list_any}
use Rattle.std.proofs.lemmas.Bool.{or_parts, cond_both}
use Rattle.std.proofs.lemmas.Cmp.{nat_list_eq_equiv}
use Rattle.std.proofs.lemmas.List.{map-append, length-map, length_push}
use Rattle.std.proofs.lemmas.List.Elements.{All-cons, All-head, All-tail, All-push, All-filter}
use Rattle.std.proofs.lemmas.List.Sums.{length-filter, count_by-le-length}
use Rattle.std.proofs.lemmas.Option.{same_Some}
use Rattle.ebr_base.specs.declared.numbers.TableId.{TableId}
use Rattle.ebr_base.specs.declared.numbers.TheConstants.{MAX_COUNT}
use Rattle.ebr_base.specs.declared.table.Column.{Column}
use Rattle.ebr_base.specs.declared.table.TableDef.{TableDef}
use Rattle.ebr_tables.specs.Definitions.{has_repetition}
use Rattle.ebr_base.specs.Keys.{table_named}
use Rattle.ebr_tables.specs.Tables.{AllTables, AreTables, IsTable, MayJoin, same_table_name, next_id, kept_as, add_refusal, widened, with_column, without_table}
use Rattle.ebr_tables.specs.inside.Keyed.{Entries, by_name, tables_of, Keyed, widened_in}
use Rattle.ebr_tables.proofs.Names.{has, none-any, others-none, filter-none, map-none, distinct-filter, distinct-map, once-push, ascend-filter, ascend-map, ascend-push}
use Rattle.ebr_tables.proofs.Allowed.{IsAllowed, kept-is, widened-is}

pub values-by_name : (ts : List TableDef) → values_of (by_name ts) ≡ ts
values-by_name [] = refl
values-by_name (t ∷ ts) = ap (λ l. t ∷ l) (values-by_name ts)

lookup-by_name : (n : List ℕ) (ts : List TableDef) → lookup (bytes_eq n) (by_name ts) ≡ table_named n ts
lookup-by_name n [] = refl
lookup-by_name n (t ∷ ts) = ap (λ r. cond (has n t) (Some t) r) (lookup-by_name n ts)

-- the map finds the table of a name
pub lookup-keyed : (made : ℕ) (n : List ℕ) (es : Entries) → Keyed made es → lookup (bytes_eq n) es ≡ table_named n (values_of es)
lookup-keyed made n es k = ap (lookup (bytes_eq n)) k.by ∙ lookup-by_name n (values_of es)

removed-by_name : (n : List ℕ) (ts : List TableDef) → has_repetition same_table_name ts ≡ false
    → remove_entry (bytes_eq n) (by_name ts) ≡ by_name (filter (λ t. not (has n t)) ts)
removed-by_name n [] e = refl
removed-by_name n (t ∷ ts) e =
    let s = or_parts (list_any (same_table_name t) ts) (has_repetition same_table_name ts) e in
    by (has n t) refl s.0 (removed-by_name n ts s.1)
  where
    by : (b : Bool) → has n t ≡ b → list_any (same_table_name t) ts ≡ false → remove_entry (bytes_eq n) (by_name ts) ≡ by_name (filter (λ u. not (has n u)) ts)
        → cond b (by_name ts) ((t.name, t) ∷ remove_entry (bytes_eq n) (by_name ts)) ≡ by_name (cond (not b) (t ∷ filter (λ u. not (has n u)) ts) (filter (λ u. not (has n u)) ts))
    by true is others rest = ap by_name (sym (filter-none n ts (others-none n t ts is others)))
    by false is others rest = ap (λ l. (t.name, t) ∷ l) rest

widened-by_name : (n : List ℕ) (c : Column) (t : TableDef) (ts : List TableDef) → has_repetition same_table_name ts ≡ false → table_named n ts ≡ Some t
    → set_value (bytes_eq n) (by_name ts) (widened c t) ≡ by_name (map (λ u. if has n u then widened c u else u) ts)
widened-by_name n c t [] e found = refl
widened-by_name n c t (u ∷ ts) e found =
    let s = or_parts (list_any (same_table_name u) ts) (has_repetition same_table_name ts) e in
    by (has n u) refl s.0 found (widened-by_name n c t ts s.1)
  where
    by : (b : Bool) → has n u ≡ b → list_any (same_table_name u) ts ≡ false → cond b (Some u) (table_named n ts) ≡ Some t
        → (table_named n ts ≡ Some t → set_value (bytes_eq n) (by_name ts) (widened c t) ≡ by_name (map (λ v. if has n v then widened c v else v) ts))
        → cond b ((u.name, widened c t) ∷ by_name ts) ((u.name, u) ∷ set_value (bytes_eq n) (by_name ts) (widened c t))
        ≡ by_name (cond b (widened c u) u ∷ map (λ v. if has n v then widened c v else v) ts)
    by true is others at rest =
        ap (λ v. (u.name, widened c v) ∷ by_name ts) (sym (same_Some _ _ at))
        ∙ ap (λ l. (u.name, widened c u) ∷ by_name l) (sym (map-none n (widened c) ts (others-none n u ts is others)))
    by false is others at rest = ap (λ l. (u.name, u) ∷ l) (rest at)

-- Keyed entries over a list are what `by_name` makes of it.
keyed-from : (made : ℕ) (es : Entries) (ts : List TableDef) → es ≡ by_name ts → AreTables (record { made = made; living = ts }) → Keyed made es
keyed-from made es ts is tables =
    let vs : values_of es ≡ ts = ap values_of is ∙ values-by_name ts in
    record {
      by = is ∙ ap by_name (sym vs);
      tables = subst (λ l. AreTables (record { made = made; living = l })) (sym vs) tables;
    }

-- a value that is written back where it was found changes nothing
pub set_value-same : (n : List ℕ) (t : TableDef) (es : Entries) → lookup (bytes_eq n) es ≡ Some t → set_value (bytes_eq n) es t ≡ es
set_value-same n t [] found = refl
set_value-same n t (e ∷ es) found = by (bytes_eq n e.0) found (set_value-same n t es)
  where
    by : (b : Bool) → cond b (Some e.1) (lookup (bytes_eq n) es) ≡ Some t → (lookup (bytes_eq n) es ≡ Some t → set_value (bytes_eq n) es t ≡ es)
        → cond b ((e.0, t) ∷ es) (e ∷ set_value (bytes_eq n) es t) ≡ e ∷ es
    by true at rest = ap (λ v. (e.0, v) ∷ es) (sym (same_Some _ _ at))
    by false at rest = ap (λ l. e ∷ l) (rest at)

-- a table with one more column, where it has the name
abbrev pub widened_if : List ℕ → Column → TableDef → TableDef
widened_if n c t = if has n t then widened c t else t

same-name : (n : List ℕ) (c : Column) (t : TableDef) → (widened_if n c t).name ≡ t.name
same-name n c t = cond_both (has n t) (widened c t) t (λ u. u.name ≡ t.name) (λ e. refl) (λ e. refl)

same-id : (n : List ℕ) (c : Column) (t : TableDef) → (widened_if n c t).id ≡ t.id
same-id n c t = cond_both (has n t) (widened c t) t (λ u. u.id ≡ t.id) (λ e. refl) (λ e. refl)

-- the tables after a column was added to one of them, which refused nothing
each-widened : (n : List ℕ) (c : Column) (ts : List TableDef) → has_repetition same_table_name ts ≡ false → add_refusal (table_named n ts) c ≡ None → All IsTable ts → All IsTable (map (widened_if n c) ts)
each-widened n c [] e none all = all
each-widened n c (t ∷ ts) e none all =
    let s = or_parts (list_any (same_table_name t) ts) (has_repetition same_table_name ts) e in
    by (has n t) refl s.0 none (each-widened n c ts s.1)
  where
    by : (b : Bool) → has n t ≡ b → list_any (same_table_name t) ts ≡ false → add_refusal (cond b (Some t) (table_named n ts)) c ≡ None
        → (add_refusal (table_named n ts) c ≡ None → All IsTable ts → All IsTable (map (widened_if n c) ts))
        → All IsTable (cond b (widened c t) t ∷ map (widened_if n c) ts)
    by true is others none rest =
        All-cons IsTable (widened c t) (map (widened_if n c) ts) (widened-is c t (All-head IsTable t ts all) none)
        (subst (All IsTable) (sym (map-none n (widened c) ts (others-none n t ts is others))) (All-tail IsTable t ts all))
    by false is others none rest = All-cons IsTable t (map (widened_if n c) ts) (All-head IsTable t ts all) (rest none (All-tail IsTable t ts all))

-- What each call leaves of the entries: they are keyed still, and stand for the tables that the definitions give.
module _ (made : ℕ) (n : List ℕ) (c : Column) (es : Entries) (k : Keyed made es) where
  widened-entries : widened_in (lookup (bytes_eq n) es) n c es ≡ by_name (map (widened_if n c) (values_of es))
  widened-entries = by (lookup (bytes_eq n) es) (sym (lookup-keyed made n es k))
    where
      by : (r : Option TableDef) → table_named n (values_of es) ≡ r → widened_in r n c es ≡ by_name (map (widened_if n c) (values_of es))
      by None e = k.by ∙ ap by_name (sym (map-none n (widened c) (values_of es) (none-any n (values_of es) e)))
      by (Some t) e = ap (λ l. set_value (bytes_eq n) l (widened c t)) k.by ∙ widened-by_name n c t (values_of es) k.tables.names e

  pub widened-tables : tables_of made (widened_in (lookup (bytes_eq n) es) n c es) ≡ with_column (tables_of made es) n c
  widened-tables = ap (tables_of made) widened-entries ∙ ap (λ ts. record { made = made; living = ts }) (values-by_name (map (widened_if n c) (values_of es)))

  pub widened-keyed : add_refusal (lookup (bytes_eq n) es) c ≡ None → Keyed made (widened_in (lookup (bytes_eq n) es) n c es)
  widened-keyed none =
      keyed-from made (widened_in (lookup (bytes_eq n) es) n c es) (map (widened_if n c) (values_of es)) widened-entries
      (record {
        names = distinct-map (widened_if n c) (values_of es) (same-name n c) ∙ k.tables.names;
        ids = ascend-map made (widened_if n c) 0 (values_of es) (same-id n c) k.tables.ids;
        few = omega (arith, length-map (values_of es) (widened_if n c), k.tables.few);
        each = each-widened n c (values_of es) k.tables.names (ap (λ o. add_refusal o c) (sym (lookup-keyed made n es k)) ∙ none) k.tables.each;
        numbered = k.tables.numbered;
      })

module _ (made : ℕ) (n : List ℕ) (es : Entries) (k : Keyed made es) where
  removed-entries : remove_entry (bytes_eq n) es ≡ by_name (filter (λ t. not (has n t)) (values_of es))
  removed-entries = ap (remove_entry (bytes_eq n)) k.by ∙ removed-by_name n (values_of es) k.tables.names

  pub removed-tables : tables_of made (remove_entry (bytes_eq n) es) ≡ without_table (tables_of made es) n
  removed-tables = ap (tables_of made) removed-entries ∙ ap (λ ts. record { made = made; living = ts }) (values-by_name (filter (λ t. not (has n t)) (values_of es)))

  pub removed-keyed : Keyed made (remove_entry (bytes_eq n) es)
  removed-keyed =
      keyed-from made (remove_entry (bytes_eq n) es) (filter (λ t. not (has n t)) (values_of es)) removed-entries
      (record {
        names = distinct-filter (λ t. not (has n t)) (values_of es) k.tables.names;
        ids = ascend-filter made (λ t. not (has n t)) 0 (values_of es) k.tables.ids;
        few = omega (arith, length-filter (λ t. not (has n t)) (values_of es), count_by-le-length (λ t. not (has n t)) (values_of es), k.tables.few);
        each = All-filter (λ t. not (has n t)) IsTable (values_of es) k.tables.each;
        numbered = k.tables.numbered;
      })

-- a definition that nothing refuses may be added as it is kept
pub may-join : (s : AllTables) (d : TableDef) → IsAllowed s d → s.made < MAX_COUNT → MayJoin s (kept_as (next_id s) d)
may-join s d may few = record { new = may.new; is = kept-is (next_id s) d may.good may.columns; next = refl; room = may.room; numbered = few }

-- a table that may be added goes last
pub pushed-keyed : (made : ℕ) (t : TableDef) (es : Entries) → Keyed made es → MayJoin (tables_of made es) t → Keyed (suc made) (es ++ (t.name, t) ∷ [])
pushed-keyed made t es k may =
    let next : t.id.0 ≡ suc made = ap (λ (i : TableId). i.0) may.next in
    keyed-from (suc made) (es ++ (t.name, t) ∷ []) (values_of es ++ t ∷ [])
    (ap (λ l. l ++ (t.name, t) ∷ []) k.by ∙ sym (map-append (λ u. (u.name, u)) (values_of es) (t ∷ [])))
    (record {
      names = once-push same_table_name (λ a b. nat_list_eq_equiv.symm a.name b.name) t (values_of es) k.tables.names (none-any t.name (values_of es) may.new);
      ids = ascend-push made t 0 (values_of es) next (omega arith) k.tables.ids;
      few = omega (arith, length_push (values_of es) t, may.room);
      each = All-push IsTable (values_of es) t k.tables.each may.is;
      numbered = may.numbered;
    })

pub pushed-values : (t : TableDef) (es : Entries) → values_of (es ++ (t.name, t) ∷ []) ≡ values_of es ++ t ∷ []
pushed-values t es = map-append (λ e. e.1) es ((t.name, t) ∷ [])
