-- Definitions that their tests let through.
use Rattle.std.proofs.Common.{◌≡◌, ℕ, Bool, true, false, cond, List, [], ◌∷◌, ◌++◌, map, length, nat_lt, nat_le, Option, Some, None, is_some, Ok, Err, refl, sym, ap, ◌∙◌}
use Rattle.std.proofs.lemmas.Bool.{or_parts}
use Rattle.ebr_base.specs.Answers.{Answers}
use Rattle.ebr_base.specs.declared.code.Code.{Code}
use Rattle.ebr_base.specs.declared.code.Code.TheVariants.{Ora, Ebr}
use Rattle.ebr_base.specs.declared.code.Stop.{Stop}
use Rattle.ebr_base.specs.declared.code.Stop.TheVariants.{Raised, NoMemory}
use Rattle.ebr_base.specs.declared.numbers.EditionNo.{EditionNo}
use Rattle.ebr_base.specs.declared.object.ObjectKey.{ObjectKey}
use Rattle.ebr_base.specs.declared.table.TableDef.{TableDef}
use Rattle.ebr_ast.specs.declared.definition.ColumnTree.{ColumnTree}
use Rattle.ebr_ast.specs.declared.definition.ObjectKind.{ObjectKind}
use Rattle.ebr_ast.specs.declared.unit.UnitTree.{UnitTree}
use Rattle.ebr_ast.specs.declared.view.Object.{Object}
use Rattle.ebr_tables.specs.Definitions as tables
use Rattle.ebr_tables.specs.Tables.{first_refusal, unless_refused, create_refusal, next_id, kept_as}
use Rattle.ebr_cross.specs.declared.record.CatalogueRecord.{CatalogueRecord}
use Rattle.ebr_cross.specs.declared.record.CatalogueRecord.TheVariants as made
use Rattle.ebr_cross.specs.Catalogue.{Lists, visible, table_in}
use Rattle.ebr_cross.specs.Kinds.{unit_key}
use Rattle.ebr_columns.specs.Columns.{column_of, is_bad_table, table_of}
use Rattle.ebr_cross.specs.Definitions.{recording, is_taken, create_table, object_of, name_refusals, tree_refusals, is_full, created_object, put_object}
use Rattle.ebr_cross.specs.inside.Steps.{first_table_refusal, made_table}
use Rattle.ebr_cross.proofs.Applied.{first-of-two, none-of-first}
use Rattle.ebr_columns.proofs.TableTrees.{allowed, length-same}

-- CREATE of an object is refused by its name or its tree
pub named-refused : (c : Lists) (e : EditionNo) (replace : Bool) (k : ObjectKind) (key wanted : ObjectKey) (u : UnitTree) (o : Object) (code : Code) (r : Option Code) → key ≡ wanted
    → r ≡ first_refusal (name_refusals c e replace k key ++ tree_refusals c e key u) → r ≡ Some code → created_object c e replace k wanted u o ≡ Err code
named-refused c e replace k key wanted u o code r is found some =
    let first : first_refusal (name_refusals c e replace k wanted ++ tree_refusals c e wanted u) ≡ Some code =
    ap (λ q. first_refusal (name_refusals c e replace k q ++ tree_refusals c e q u)) (sym is) ∙ (sym found ∙ some) in
    ap (λ x. unless_refused x (made.Object o)) (first-of-two (name_refusals c e replace k wanted ++ tree_refusals c e wanted u) ((is_full c e wanted o, Ebr 34) ∷ []) code first)

-- where it isn't, the object is put
pub named-put : (c : Lists) (e : EditionNo) (replace : Bool) (k : ObjectKind) (key wanted : ObjectKey) (text : List ℕ) (u : UnitTree) (enabled wanted_enabled : Bool) (r : Option Code) → key ≡ wanted → enabled ≡ wanted_enabled
    → r ≡ first_refusal (name_refusals c e replace k key ++ tree_refusals c e key u) → r ≡ None → put_object c e key (object_of c e key text u enabled) ≡ created_object c e replace k wanted u (object_of c e wanted text u wanted_enabled)
named-put c e replace k key wanted text u enabled wanted_enabled r is same found none =
    let o : Object = object_of c e wanted text u wanted_enabled in
    let first : first_refusal (name_refusals c e replace k wanted ++ tree_refusals c e wanted u) ≡ None =
    ap (λ q. first_refusal (name_refusals c e replace k q ++ tree_refusals c e q u)) (sym is) ∙ (sym found ∙ none) in
    ap (λ q. put_object c e q (object_of c e q text u enabled)) is
    ∙ (ap (λ b. put_object c e wanted (object_of c e wanted text u b)) same
    ∙ sym (ap (λ x. unless_refused x (made.Object o)) (none-of-first (name_refusals c e replace k wanted ++ tree_refusals c e wanted u) ((is_full c e wanted o, Ebr 34) ∷ []) first)))

passed : (b : Bool) (code : Code) (rest : Option Code) → cond b (Some code) rest ≡ None → (b ≡ false) × (rest ≡ None)
passed true code rest h = absurd cc
passed false code rest h = (refl, h)

-- three tests that fail leave the fourth
last-test : (a b d e : Bool) (k l m n : Code) → a ≡ false → b ≡ false → d ≡ false → first_refusal ((a, k) ∷ (b, l) ∷ (d, m) ∷ (e, n) ∷ []) ≡ cond e (Some n) None
last-test a b d e k l m n f g h =
    ap (λ x. cond x (Some k) (cond b (Some l) (cond d (Some m) (cond e (Some n) None)))) f
    ∙ (ap (λ x. cond x (Some l) (cond d (Some m) (cond e (Some n) None))) g ∙ ap (λ x. cond x (Some m) (cond e (Some n) None)) h)

recorded : {T : Type 0} (record_of : T → CatalogueRecord) (r : Option Code) (x : T) → recording record_of (unless_refused r x) ≡ unless_refused r (record_of x)
recorded record_of None x = refl
recorded record_of (Some code) x = refl

table-put : (c : Lists) (e : EditionNo) (name : List ℕ) (columns : List ColumnTree) (key : List (List ℕ)) → is_taken c e name ≡ false → is_bad_table columns key ≡ false → nat_lt 64 (length columns) ≡ false
    → made_table c (table_of name columns key) ≡ create_table c e name columns key
unfolding table_of
table-put c e name columns key free good few =
    let d : TableDef = table_of name columns key in
    let full : Bool = nat_le 1000 (length c.tables.living) in
    let untaken = or_parts (is_some (table_in c name)) (is_some (visible c e (unit_key name))) free in
    let wide : nat_lt 64 (length (map column_of columns)) ≡ false = ap (nat_lt 64) (length-same column_of columns) ∙ few in
    recorded (λ id. made.Table (kept_as id d)) (create_refusal c.tables d) (next_id c.tables)
    ∙ (ap (λ r. unless_refused r (made.Table (kept_as (next_id c.tables) d)))
    (last-test (is_some (table_in c name)) (tables.is_bad_table d) (nat_lt 64 (length (map column_of columns))) full (Ora 955) (Ebr 29) (Ebr 36) (Ebr 37) untaken.0 (allowed name columns key good) wide
    ∙ sym (last-test (is_taken c e name) (is_bad_table columns key) (nat_lt 64 (length columns)) full (Ora 955) (Ebr 29) (Ebr 36) (Ebr 37) free good few)))

-- what is answered where nothing refuses, and where something does
unrefused : {T : Type 0} (refusal : Option Code) (x y : T) → unless_refused refusal x ≡ Ok y → (refusal ≡ None) × (y ≡ x)
unrefused None x y h = (refl, cc)
unrefused (Some code) x y h = absurd cc

refused-by : {T : Type 0} (refusal : Option Code) (x : T) (code : Code) → unless_refused refusal x ≡ Err code → refusal ≡ Some code
refused-by None x code h = absurd cc
refused-by (Some other) x code h = cc

pub table-made : (c : Lists) (e : EditionNo) (name : List ℕ) (columns : List ColumnTree) (key : List (List ℕ)) (d : TableDef) → unless_refused (first_table_refusal c e name columns key) (table_of name columns key) ≡ Ok d
    → made_table c d ≡ create_table c e name columns key
table-made c e name columns key d answered =
    let so = unrefused (first_table_refusal c e name columns key) (table_of name columns key) d answered in
    let p = passed (is_taken c e name) (Ora 955) _ so.0 in
    let q = passed (is_bad_table columns key) (Ebr 29) _ p.1 in
    let r = passed (nat_lt 64 (length columns)) (Ebr 36) _ q.1 in
    ap (made_table c) so.1 ∙ table-put c e name columns key p.0 q.0 r.0

-- what refuses before the number of tables is tested refuses
pub table-refused : (c : Lists) (e : EditionNo) (name : List ℕ) (columns : List ColumnTree) (key : List (List ℕ)) (code : Code) → unless_refused (first_table_refusal c e name columns key) (table_of name columns key) ≡ Err code
    → create_table c e name columns key ≡ Err code
table-refused c e name columns key code answered =
    ap (λ r. unless_refused r (made.Table (kept_as (next_id c.tables) (table_of name columns key))))
    (first-of-two ((is_taken c e name, Ora 955) ∷ (is_bad_table columns key, Ebr 29) ∷ (nat_lt 64 (length columns), Ebr 36) ∷ []) ((nat_le 1000 (length c.tables.living), Ebr 37) ∷ []) code
    (refused-by (first_table_refusal c e name columns key) (table_of name columns key) code answered))

pub table-stops : (c : Lists) (e : EditionNo) (name : List ℕ) (columns : List ColumnTree) (key : List (List ℕ)) (stop : Stop)
    → Answers {T = TableDef} (Err stop) (unless_refused (first_table_refusal c e name columns key) (table_of name columns key)) → Answers {T = CatalogueRecord} (Err stop) (create_table c e name columns key)
table-stops c e name columns key (Raised code) answered = table-refused c e name columns key code answered
table-stops c e name columns key NoMemory answered = tt
