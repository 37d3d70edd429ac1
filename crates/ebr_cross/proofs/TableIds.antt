-- Tables by their ids, and what changes of tables leave.
use Rattle.std.proofs.Common.{◌≡◌, ◌==◌, ◌<◌, ℕ, Bool, true, false, cond, List, [], ◌∷◌, Option, Some, None, option_map, IsSome, refl, sym, ap, subst, ◌∙◌, arith}
use Rattle.std.specs.Option.{unwrap_or}
use Rattle.std.specs.Str.{bytes_eq}
use Rattle.std.specs.Cmp.Lexicographic.{bytes_decides}
use Rattle.std.proofs.lemmas.Bool.Decides.{nat_tests}
use Rattle.ebr_base.specs.declared.numbers.TableId.{TableId}
use Rattle.ebr_base.specs.declared.table.Column.{Column}
use Rattle.ebr_base.specs.declared.table.TableDef.{TableDef}
use Rattle.ebr_base.specs.Keys.{table_named}
use Rattle.ebr_tables.specs.Tables.{AllTables, AreTables, IdsAscend, add_refusal, table_of_id, with_column, without_table}
use Rattle.ebr_cross.specs.declared.catalogue.Catalogue.{Catalogue}
use Rattle.ebr_cross.specs.Catalogue.{Lists, as_catalogue}
use Rattle.ebr_cross.specs.Following.{MayWiden}
use Rattle.ebr_cross.specs.Records.{table_name}

some_same : {X : Type 0} {x y : X} → Some x ≡ Some y → x ≡ y
some_same h = cc

-- a table that is found has an id above all before it
above : (name : List ℕ) (a made : ℕ) (ts : List TableDef) (t : TableDef) → IdsAscend a made ts → table_named name ts ≡ Some t → a < t.id.0
above name a made [] t h e = absurd cc
above name a made (u ∷ ts) t h e = by (bytes_eq name u.name) (above name u.id.0 made ts t h.2) e
  where
    by : (b : Bool) → (table_named name ts ≡ Some t → u.id.0 < t.id.0) → cond b (Some u) (table_named name ts) ≡ Some t → a < t.id.0
    by true f e = subst (λ (x : TableDef). a < x.id.0) (some_same e) h.0
    by false f e = let up : u.id.0 < t.id.0 = f e in let first : a < u.id.0 = h.0 in omega arith

own-id : (n : ℕ) → (n == n) ≡ true
own-id n = grind (arith, nat_tests)

other-id : (n m : ℕ) → n < m → (n == m) ≡ false
other-id n m h = grind (arith, nat_tests)

-- it is found by its id too
by-id : (name : List ℕ) (a made : ℕ) (ts : List TableDef) (t : TableDef) → IdsAscend a made ts → table_named name ts ≡ Some t → table_of_id t.id ts ≡ Some t
by-id name a made [] t h e = absurd cc
by-id name a made (u ∷ ts) t h e = by (bytes_eq name u.name) (by-id name u.id.0 made ts t h.2) e
  where
    by : (b : Bool) → (table_named name ts ≡ Some t → table_of_id t.id ts ≡ Some t) → cond b (Some u) (table_named name ts) ≡ Some t → cond (u.id.0 == t.id.0) (Some u) (table_of_id t.id ts) ≡ Some t
    by true f e =
        let same : u ≡ t = some_same e in
        subst (λ (x : TableDef). cond (u.id.0 == x.id.0) (Some u) (table_of_id x.id ts) ≡ Some x) same (ap (λ b. cond b (Some u) (table_of_id u.id ts)) (own-id u.id.0))
    by false f e =
        let up : u.id.0 < t.id.0 = above name u.id.0 made ts t h.2 e in
        ap (λ b. cond b (Some u) (table_of_id t.id ts)) (other-id u.id.0 t.id.0 up) ∙ f e

has-name : (name : List ℕ) (ts : List TableDef) (t : TableDef) → table_named name ts ≡ Some t → name ≡ t.name
has-name name [] t e = absurd cc
has-name name (u ∷ ts) t e = by (bytes_eq name u.name) refl (has-name name ts t) e
  where
    by : (b : Bool) → bytes_eq name u.name ≡ b → (table_named name ts ≡ Some t → name ≡ t.name) → cond b (Some u) (table_named name ts) ≡ Some t → name ≡ t.name
    by true f g e = (bytes_decides name u.name).0 f ∙ ap (λ (x : TableDef). x.name) (some_same e)
    by false f g e = g e

pub named-by-id : (s : AllTables) (name : List ℕ) (t : TableDef) → AreTables s → table_named name s.living ≡ Some t → table_name s t.id ≡ name
named-by-id s name t are e =
    ap (λ o. unwrap_or (option_map (λ (x : TableDef). x.name) o) []) (by-id name 0 s.made s.living t are.ids e) ∙ sym (has-name name s.living t e)

pub there-by-id : (s : AllTables) (name : List ℕ) (t : TableDef) → AreTables s → table_named name s.living ≡ Some t → IsSome (table_of_id t.id s.living)
there-by-id s name t are e = subst IsSome (sym (by-id name 0 s.made s.living t are.ids e)) refl

-- the catalogue with other tables
pub with-tables : (old : Catalogue) (c : Lists) (s s' : AllTables) → old ≡ as_catalogue c → s ≡ s' → ◌≡◌ {A = Catalogue} (record { chain = old.chain; actuals = old.actuals; tables = s }) (as_catalogue (record c { tables = s' }))
with-tables old c s s' h e =
    let make : Catalogue → AllTables → Catalogue = λ k t. record { chain = k.chain; actuals = k.actuals; tables = t } in
    ap (λ k. make k s) h ∙ ap (make (as_catalogue c)) e

pub tables-of : (old : Catalogue) (c : Lists) → old ≡ as_catalogue c → old.tables ≡ c.tables
tables-of old c h = ap (λ (k : Catalogue). k.tables) h

-- the name by an id under which a table is found
pub name-of : (s : AllTables) (id : TableId) (t : TableDef) → Some t ≡ table_of_id id s.living → t.name ≡ table_name s id
name-of s id t found = ap (λ o. unwrap_or (option_map (λ (x : TableDef). x.name) o) []) found

-- a column that is accepted by a table's name may be added by its id
pub may-widen : (s : AllTables) (name : List ℕ) (id : TableId) (column : Column) → IsSome (table_of_id id s.living) → table_name s id ≡ name → add_refusal (table_named name s.living) column ≡ None
    → MayWiden s id column
may-widen s name id column there named accepted = record { there = there; accepted = ap (λ n. add_refusal (table_named n s.living) column) named ∙ accepted }

-- the column is there, and no table is there any more
pub column-added : (old : Catalogue) (c : Lists) (id : TableId) (column copy : Column) (t : TableDef) (name : List ℕ) (s : AllTables) → old ≡ as_catalogue c → Some t ≡ table_of_id id old.tables.living
    → name ≡ t.name → copy ≡ column → s ≡ with_column old.tables name copy
    → ◌≡◌ {A = Catalogue} (record { chain = old.chain; actuals = old.actuals; tables = s }) (as_catalogue (record c { tables = with_column c.tables (table_name c.tables id) column }))
column-added old c id column copy t name s h found is copied added =
    with-tables old c s _ h
    (added ∙ (ap (with_column old.tables name) copied ∙ (ap (λ n. with_column old.tables n column) (is ∙ name-of old.tables id t found)
    ∙ ap (λ k. with_column k (table_name k id) column) (tables-of old c h))))

pub table-dropped : (old : Catalogue) (c : Lists) (id : TableId) (t : TableDef) (name : List ℕ) (s : AllTables) → old ≡ as_catalogue c → Some t ≡ table_of_id id old.tables.living
    → name ≡ t.name → s ≡ without_table old.tables name
    → ◌≡◌ {A = Catalogue} (record { chain = old.chain; actuals = old.actuals; tables = s }) (as_catalogue (record c { tables = without_table c.tables (table_name c.tables id) }))
table-dropped old c id t name s h found is gone =
    with-tables old c s _ h
    (gone ∙ (ap (without_table old.tables) (is ∙ name-of old.tables id t found) ∙ ap (λ k. without_table k (table_name k id)) (tables-of old c h)))
