-- A definition whose tokens don't begin as the creation of an object creates none.
use Rattle.std.proofs.Common.{◌≡◌, ℕ, Bool, true, false, List, [], ◌∷◌, ◌++◌, drop, Option, Some, None, refl, sym, ap, subst, ◌∙◌, inl, inr}
use Rattle.std.specs.Prelude.{◌&&◌}
use Rattle.ebr_lexer.specs.declared.token.Token.{Token}
use Rattle.ebr_grammar.specs.declared.kind.Kind.{Kind}
use Rattle.ebr_grammar.specs.declared.kind.Kind.TheVariants as k
use Rattle.ebr_grammar.specs.Kinds.{same, names_but}
use Rattle.ebr_grammar.specs.Forms.{sees}
use Rattle.ebr_grammar.specs.Grammar.{both, made, named, token, Spells}
use Rattle.ebr_grammar.specs.Outcome.{named_by}
use Rattle.ebr_grammar.specs.Choice.{among}
use Rattle.ebr_grammar.specs.Words.{◌▸◌, ◌◂◌, ◌∣◌, maybe, is_there, name}
use Rattle.ebr_grammar.proofs.Next.{not_both, sees-among}
use Rattle.ebr_ast.specs.declared.definition.Definition.{Definition}
use Rattle.ebr_ast.specs.declared.definition.Definition.TheVariants as d
use Rattle.ebr_ast.specs.declared.definition.ObjectKind.{ObjectKind}
use Rattle.ebr_ast.specs.declared.definition.ObjectKind.TheVariants as object
use Rattle.ebr_ddlparse.specs.Definitions.{P, SpellsPart, SpellsDefinition, a_type, parent, create_edition, closed_items, create_table, create_view, create_object, create, default_edition, new_column, closed_column, added_column, alter_table, switch, alter_trigger, alter, drop_edition, drop_object, dropped_body, drop_package, dropped, definition}
use Rattle.ebr_ddlparse.proofs.Parts.{reads_views}
use Rattle.ebr_script.specs.Statements.{creates_object}
use Rattle.ebr_script.specs.Pieces.{CreatesObject}
use Rattle.ebr_script.proofs.Marks.{first_is, behind}

abbrev pub NoObject : Definition → Type 0
NoObject x = CreatesObject x → ⊥

module _ {C : Type 0} (Q : C → Type 0) where
  -- What the production stands for is so.
  abbrev Gives : P C → Type 0
  Gives g = (ts : List Token) (c : C) → Spells SpellsPart g ts c → Q c

  under : (kind : Kind) (g : P C) → Gives g → Gives (kind ▸ g)
  under kind g n ts c s = subst Q s.7 (n s.1 s.3 s.6)

  before : (g : P C) (kind : Kind) → Gives g → Gives (g ◂ kind)
  before g kind n ts c s = subst Q s.7 (n s.0 s.2 s.5)

  one_of : (g h : P C) → Gives g → Gives h → Gives (g ∣ h)
  one_of g h n m ts c (inl s) = n ts c s
  one_of g h n m ts c (inr s) = m ts c s

  by_one : {A : Type 0} (f : A → C) (g : P A) → ((a : A) → Q (f a)) → Gives (made f g)
  by_one f g n ts c s = subst Q s.2 (n s.0)

  by_two : {A B : Type 0} (f : A → B → C) (g : P A) (h : P B) → ((a : A) (b : B) → Q (f a b)) → Gives (both f g h)
  by_two f g h n ts c s = subst Q s.7 (n s.2 s.3)

-- ---- CREATE EDITION and CREATE TABLE

edition_is : Gives NoObject create_edition
unfolding create_edition
edition_is = by_two NoObject (λ n p. d.CreateEdition n p) name parent (λ n p z. z)

table_is : Gives NoObject create_table
unfolding create_table
table_is = by_two NoObject (λ n items. d.CreateTable n items.0 items.1) name (k.LeftParen ▸ closed_items) (λ n items z. z)

-- ---- ALTER

abbrev default_name : P Definition
default_name = made d.DefaultEdition name

default_is : Gives NoObject default_edition
unfolding default_edition
default_is =
    under NoObject k.Default (k.Edition ▸ (k.Equal ▸ default_name))
    (under NoObject k.Edition (k.Equal ▸ default_name) (under NoObject k.Equal default_name (by_one NoObject d.DefaultEdition name (λ n z. z))))

-- of each table
abbrev NoneBehind : (List ℕ → Definition) → Type 0
NoneBehind f = (table : List ℕ) → NoObject (f table)

column_is : Gives NoneBehind new_column
unfolding new_column
column_is = by_two NoneBehind (λ column ty table. d.AddColumn table column ty) name (named a_type (λ ty. ty)) (λ column ty table z. z)

closed_is : Gives NoneBehind closed_column
unfolding closed_column
closed_is = before NoneBehind new_column k.RightParen column_is

added_is : Gives NoneBehind added_column
unfolding added_column
added_is = one_of NoneBehind (k.LeftParen ▸ closed_column) new_column (under NoneBehind k.LeftParen closed_column closed_is) column_is

alter_table_is : Gives NoObject alter_table
unfolding alter_table
alter_table_is ts x s = subst NoObject s.7 (under NoneBehind k.Add added_column added_is s.1 s.3 s.6 s.2)

alter_trigger_is : Gives NoObject alter_trigger
unfolding alter_trigger
alter_trigger_is = by_two NoObject (λ n enabled. d.AlterTrigger n enabled) name switch (λ n enabled z. z)

alter_is : Gives NoObject alter
unfolding alter
alter_is =
    one_of NoObject (k.Database ▸ default_edition) (k.Table ▸ alter_table ∣ k.Trigger ▸ alter_trigger) (under NoObject k.Database default_edition default_is)
    (one_of NoObject (k.Table ▸ alter_table) (k.Trigger ▸ alter_trigger) (under NoObject k.Table alter_table alter_table_is) (under NoObject k.Trigger alter_trigger alter_trigger_is))

-- ---- DROP

drop_edition_is : Gives NoObject drop_edition
unfolding drop_edition
drop_edition_is = by_two NoObject (λ n cascade. d.DropEdition n cascade) name (is_there k.Cascade) (λ n cascade z. z)

drop_object_is : (kind : ObjectKind) → Gives NoObject (drop_object kind)
unfolding drop_object
drop_object_is kind = by_one NoObject (λ n. d.DropObject kind n) name (λ n z. z)

body_is : (body : List ℕ) (n : Option (List ℕ)) → NoObject (dropped_body body n)
body_is body None z = z
body_is body (Some n) z = z

drop_package_is : Gives NoObject drop_package
unfolding drop_package
drop_package_is =
    one_of NoObject (both dropped_body (token (k.Body ∷ []) named_by) (maybe name)) (made (λ n. d.DropObject object.Package n) (token (names_but (k.Body ∷ [])) named_by))
    (by_two NoObject dropped_body (token (k.Body ∷ []) named_by) (maybe name) body_is) (by_one NoObject (λ n. d.DropObject object.Package n) (token (names_but (k.Body ∷ [])) named_by) (λ n z. z))

abbrev drop_table : P Definition
drop_table = made d.DropTable name

abbrev drop_last : P Definition
drop_last = k.Trigger ▸ drop_object object.Trigger ∣ k.View ▸ drop_object object.View

abbrev drop_packages : P Definition
drop_packages = k.Package ▸ drop_package ∣ drop_last

abbrev drop_functions : P Definition
drop_functions = k.Function ▸ drop_object object.Function ∣ drop_packages

abbrev drop_procedures : P Definition
drop_procedures = k.Procedure ▸ drop_object object.Procedure ∣ drop_functions

abbrev drop_tables : P Definition
drop_tables = k.Table ▸ drop_table ∣ drop_procedures

object_under : (kind : Kind) (of_kind : ObjectKind) → Gives NoObject (kind ▸ drop_object of_kind)
object_under kind of_kind = under NoObject kind (drop_object of_kind) (drop_object_is of_kind)

last_is : Gives NoObject drop_last
last_is = one_of NoObject (k.Trigger ▸ drop_object object.Trigger) (k.View ▸ drop_object object.View) (object_under k.Trigger object.Trigger) (object_under k.View object.View)

packages_is : Gives NoObject drop_packages
packages_is = one_of NoObject (k.Package ▸ drop_package) drop_last (under NoObject k.Package drop_package drop_package_is) last_is

functions_is : Gives NoObject drop_functions
functions_is = one_of NoObject (k.Function ▸ drop_object object.Function) drop_packages (object_under k.Function object.Function) packages_is

procedures_is : Gives NoObject drop_procedures
procedures_is = one_of NoObject (k.Procedure ▸ drop_object object.Procedure) drop_functions (object_under k.Procedure object.Procedure) functions_is

tables_is : Gives NoObject drop_tables
tables_is = one_of NoObject (k.Table ▸ drop_table) drop_procedures (under NoObject k.Table drop_table (by_one NoObject d.DropTable name (λ n z. z))) procedures_is

dropped_is : Gives NoObject dropped
unfolding dropped
dropped_is = one_of NoObject (k.Edition ▸ drop_edition) drop_tables (under NoObject k.Edition drop_edition drop_edition_is) tables_is

-- ---- CREATE of an object

abbrev object_kinds : List Kind
object_kinds = k.Or ∷ k.Editionable ∷ k.Editioning ∷ k.Procedure ∷ k.Function ∷ k.Package ∷ k.Trigger ∷ []

or_is_one : among (k.Or ∷ []) object_kinds ≡ true
unfolding same
or_is_one = refl

editionable_is_one : among (k.Editionable ∷ []) object_kinds ≡ true
unfolding same
editionable_is_one = refl

editioning_is_one : among (k.Editioning ∷ []) object_kinds ≡ true
unfolding same
editioning_is_one = refl

view_begins : (replace : Bool) (ts : List Token) (x : Definition) → Spells SpellsPart (create_view replace) ts x → sees object_kinds ts ≡ true
unfolding create_view
view_begins replace ts x s = sees-among (k.Editioning ∷ []) object_kinds ts editioning_is_one (reads_views.begun ts s.1.0 s.1.1)

object_begins : (ts : List Token) (x : Definition) → Spells SpellsPart (create_object false) ts x → sees object_kinds ts ≡ true
unfolding create_object
object_begins ts x s =
    elim s.5 [
      | inl word ↦
          sees-among (k.Editionable ∷ []) object_kinds ts editionable_is_one (first_is SpellsPart k.Editionable (create_view false) ts x (s.0, s.1, tt, s.3, s.4, (word.0, word.1, word.2, refl), s.6, s.7))
      | inr none ↦ subst (λ (z : List Token). sees object_kinds z ≡ true) (sym (s.4 ∙ ap (λ (z : List Token). z ++ s.1) none.0)) (view_begins false s.1 s.3 s.6)
    ]

create_is : (ts : List Token) (x : Definition) → Spells SpellsPart create ts x → sees object_kinds ts ≡ false → NoObject x
unfolding create
create_is ts x (inl s) f = under NoObject k.Edition create_edition edition_is ts x s
create_is ts x (inr (inl s)) f = under NoObject k.Table create_table table_is ts x s
create_is ts x (inr (inr (inl s))) f = absurd (not_both (sees object_kinds ts) (sees-among (k.Or ∷ []) object_kinds ts or_is_one (first_is SpellsPart k.Or (k.Replace ▸ create_object true) ts x s)) f)
create_is ts x (inr (inr (inr s))) f = absurd (not_both (sees object_kinds ts) (object_begins ts x s) f)

second_false : (a b : Bool) → a ≡ true → (a && b) ≡ false → b ≡ false
second_false a b t f = subst (λ c. (c && b) ≡ false) t f

pub other_creates_none : (ts : List Token) (x : Definition) → SpellsDefinition ts x → creates_object ts ≡ false → NoObject x
unfolding definition creates_object
other_creates_none ts x (inl s) f =
    let begun = second_false (sees (k.Create ∷ []) ts) (sees object_kinds (drop 1 ts)) (first_is SpellsPart k.Create create ts x s) f in
    create_is (drop 1 ts) x (behind SpellsPart k.Create create ts x s) begun
other_creates_none ts x (inr (inl s)) f = under NoObject k.Alter alter alter_is ts x s
other_creates_none ts x (inr (inr s)) f = under NoObject k.Drop dropped dropped_is ts x s
