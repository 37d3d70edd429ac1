-- The tables of the catalogue, which belong to no edition.
-- Oracle Database Development Guide 19c, Editionable and Noneditionable Schema Object Types.
use Rattle.std.specs.Prelude.{ℕ, suc, Bool, true, false, not, ◌≡◌, ◌<◌, ◌≤◌, ◌==◌, nat_le, nat_lt, if◌then◌else◌, List, [], ◌∷◌, ◌++◌, map, length, filter, find, slice_get, Option, Some, None, is_some, Result, Ok, Err, All}
use Rattle.std.specs.Str.{bytes_eq}
use Rattle.ebr_base.specs.declared.code.Code.{Code}
use Rattle.ebr_base.specs.declared.code.Code.TheVariants.{Ora, Ebr}
use Rattle.ebr_base.specs.declared.numbers.TableId.{TableId}
use Rattle.ebr_base.specs.declared.numbers.TheConstants.{MAX_COUNT}
use Rattle.ebr_base.specs.declared.table.Column.{Column}
use Rattle.ebr_base.specs.declared.table.TableDef.{TableDef}
use Rattle.ebr_base.specs.Keys.{table_named}
use Rattle.ebr_tables.specs.Definitions.{has_repetition, is_bad_table, is_bad_column, with_key_not_null}

-- How many tables were ever made, and the definitions of the living ones in order of id.
pub record AllTables : Type 0 where
  pub made : ℕ
  pub living : List TableDef

abbrev pub no_tables : AllTables
no_tables = record { made = 0; living = [] }

-- the code of the first cause that holds
abbrev pub first_refusal : List (Bool × Code) → Option Code
first_refusal [] = None
first_refusal (cause ∷ causes) = if cause.0 then Some cause.1 else first_refusal causes

-- the code by which something refuses, or else the value
abbrev pub unless_refused : {T : Type 0} → Option Code → T → Result T Code
unless_refused None x = Ok x
unless_refused (Some code) x = Err code

-- The refusals of CREATE TABLE, in order: a living table has the name; a bad definition; more than 64 columns; 1,000
-- tables live already (own).
abbrev pub refusal_of : Bool → TableDef → ℕ → Option Code
refusal_of taken d living =
    first_refusal ((taken, Ora 955) ∷ (is_bad_table d, Ebr 29) ∷ (nat_lt 64 (length d.columns), Ebr 36) ∷ (nat_le 1000 living, Ebr 37) ∷ [])

abbrev pub create_refusal : AllTables → TableDef → Option Code
create_refusal s d = refusal_of (is_some (table_named d.name s.living)) d (length s.living)

abbrev pub has_id : TableId → TableDef → Bool
has_id id t = t.id.0 == id.0

-- the living table of an id
abbrev pub table_of_id : TableId → List TableDef → Option TableDef
table_of_id id living = find (has_id id) living

-- the id of the next table: one more than the number of tables ever made
abbrev pub next_id : AllTables → TableId
next_id s = record { 0 = suc s.made }

-- what CREATE TABLE answers: the first of its refusals, or else the table's id
abbrev pub create_answer : AllTables → TableDef → Result TableId Code
create_answer s d = unless_refused (create_refusal s d) (next_id s)

-- the definition as it is kept: with its id, and with the key's columns NOT NULL
abbrev pub kept_as : TableId → TableDef → TableDef
kept_as id d = record { id = id; name = d.name; columns = with_key_not_null d.key 0 d.columns; key = d.key }

-- the tables with one more, as it is kept
abbrev pub with_definition : AllTables → TableDef → AllTables
with_definition s t = record { made = suc s.made; living = s.living ++ t ∷ [] }

-- the tables after CREATE TABLE
abbrev pub with_table : AllTables → TableDef → AllTables
with_table s d = with_definition s (kept_as (next_id s) d)

-- The refusals of ALTER TABLE ADD, in order: no living table has the name; a bad column; the table has 64 columns.
abbrev pub add_refusal : Option TableDef → Column → Option Code
add_refusal None c = Some (Ora 942)
add_refusal (Some t) c = first_refusal ((is_bad_column t.columns c, Ebr 29) ∷ (nat_le 64 (length t.columns), Ebr 36) ∷ [])

-- what ALTER TABLE ADD answers, by the living table of the name
abbrev pub add_answer : Option TableDef → Column → Result (Unit {0}) Code
add_answer t c = unless_refused (add_refusal t c) tt

-- the definition with one more column, which goes last
abbrev pub widened : Column → TableDef → TableDef
widened c t = record t { columns = t.columns ++ c ∷ [] }

-- the tables after ALTER TABLE ADD
abbrev pub with_column : AllTables → List ℕ → Column → AllTables
with_column s name c = record s { living = map (λ t. if bytes_eq name t.name then widened c t else t) s.living }

-- what DROP TABLE answers, by the living table of the name
abbrev pub remove_answer : Option TableDef → Result TableId Code
remove_answer None = Err (Ora 942)
remove_answer (Some t) = Ok t.id

-- the tables after DROP TABLE
abbrev pub without_table : AllTables → List ℕ → AllTables
without_table s name = record s { living = filter (λ t. not (bytes_eq name t.name)) s.living }

-- ids above a number, ascending, and at most the number of tables made
abbrev pub IdsAscend : ℕ → ℕ → List TableDef → Type 0
IdsAscend above made [] = Unit {0}
IdsAscend above made (t ∷ ts) = (above < t.id.0) × (t.id.0 ≤ made) × IdsAscend t.id.0 made ts

abbrev pub same_table_name : TableDef → TableDef → Bool
same_table_name t u = bytes_eq t.name u.name

abbrev pub is_not_null : Option Column → Bool
is_not_null None = false
is_not_null (Some c) = c.not_null

-- What holds of every table: EBR-0029 and EBR-0036 wouldn't refuse it, and each place of its key is that of a column
-- that is NOT NULL.
pub record IsTable (t : TableDef) : Type 0 where
  pub allowed : is_bad_table t ≡ false
  pub few : length t.columns ≤ 64
  pub key : All (λ place. is_not_null (slice_get t.columns place) ≡ true) t.key

-- What holds of all tables at all times: no two that live share a name, their ids ascend, at most 1,000 live, each is
-- as tables are, and all that were ever made can be numbered.
pub record AreTables (s : AllTables) : Type 0 where
  pub names : has_repetition same_table_name s.living ≡ false
  pub ids : IdsAscend 0 s.made s.living
  pub few : length s.living ≤ 1000
  pub each : All IsTable s.living
  pub numbered : s.made ≤ MAX_COUNT

-- A table that may be added as it is kept: under a name that none has, with the next id, where 1,000 don't live yet.
pub record MayJoin (s : AllTables) (t : TableDef) : Type 0 where
  pub new : table_named t.name s.living ≡ None
  pub is : IsTable t
  pub next : t.id ≡ next_id s
  pub room : length s.living < 1000
  pub numbered : s.made < MAX_COUNT
