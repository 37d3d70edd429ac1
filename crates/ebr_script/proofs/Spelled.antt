-- The statement that tokens spell is the one that is read from them.
use Rattle.std.proofs.Common.{◌≡◌, Bool, true, false, List, [], ◌∷◌, Option, Some, None, inl, inr, refl, ap, subst}
use Rattle.std.specs.Prelude.{if◌then◌else◌, option_map}
use Rattle.ebr_lexer.specs.declared.token.Token.{Token}
use Rattle.ebr_grammar.specs.declared.kind.Kind.TheVariants as k
use Rattle.ebr_grammar.specs.Kinds.{same}
use Rattle.ebr_grammar.specs.Forms.{sees}
use Rattle.ebr_grammar.specs.Reading.{whole}
use Rattle.ebr_grammar.specs.Choice.{apart, among}
use Rattle.ebr_grammar.proofs.Next.{sees-apart, sees-among}
use Rattle.ebr_grammar.proofs.Laws.{which, take_first, take_second, some_is}
use Rattle.ebr_grammar.proofs.Outside.{IsReadable}
use Rattle.ebr_grammar.proofs.Texts.{whole_sound, whole_complete}
use Rattle.ebr_ast.specs.declared.definition.Statement.{Statement}
use Rattle.ebr_ast.specs.declared.definition.Statement.TheVariants as statement
use Rattle.ebr_ast.specs.declared.definition.Definition.{Definition}
use Rattle.ebr_sqlparse.specs.Productions as sql
use Rattle.ebr_sqlparse.specs.Statements as sql_grammar
use Rattle.ebr_sqlparse.proofs.Reader.{reader}
use Rattle.ebr_sqlparse.proofs.Clear as sql_clear
use Rattle.ebr_ddlparse.specs.Definitions as definitions
use Rattle.ebr_ddlparse.proofs.Whole as ddl
use Rattle.ebr_plparse.specs.Productions as units
use Rattle.ebr_plparse.specs.Units as unit_grammar
use Rattle.ebr_plparse.proofs.Reader as unit_texts
use Rattle.ebr_plparse.proofs.Clear as unit_clear
use Rattle.ebr_script.specs.Statements.{creates_object, SpellsOneOf, Defines, SpellsStatement, begins_session, creation_of, definition_of, a_block, a_transaction, a_session, a_definition, an_sql, statement_of}
use Rattle.ebr_script.proofs.Begins.{block_kinds, transaction_kinds, definition_kinds, sql_kinds, sql_begins, transaction_begins, session_begins, session_is_alter, block_begins, creation_begins, definition_begins, other_kinds, definition_is_no_session}

-- ---- each kind by itself

module _ {C : Type 0} (g : sql.P C) (is : IsReadable sql.hints g) where
  pub sql_sound : (ts : List Token) (c : C) → whole (sql.reads_by g ts) ≡ Some c → sql.SpelledBy g ts c
  sql_sound ts c e = whole_sound (reader g is) ts c e

  pub sql_complete : (ts : List Token) (c : C) → sql.SpelledBy g ts c → whole (sql.reads_by g ts) ≡ Some c
  sql_complete ts c s = whole_complete (reader g is) ts c s

module _ {C : Type 0} (g : units.P C) (is : IsReadable units.hints g) where
  pub unit_sound : (ts : List Token) (c : C) → whole (units.reads_by g ts) ≡ Some c → units.SpelledBy g ts c
  unit_sound ts c e = whole_sound (unit_texts.reader g is) ts c e

  pub unit_complete : (ts : List Token) (c : C) → units.SpelledBy g ts c → whole (units.reads_by g ts) ≡ Some c
  unit_complete ts c s = whole_complete (unit_texts.reader g is) ts c s

pub creation_sound : (ts : List Token) (d : Definition) → creation_of ts ≡ Some d → unit_grammar.SpellsCreation ts d
unfolding creation_of
creation_sound ts d e = unit_sound unit_grammar.definition unit_clear.definition_is ts d e

pub creation_complete : (ts : List Token) (d : Definition) → unit_grammar.SpellsCreation ts d → creation_of ts ≡ Some d
unfolding creation_of
creation_complete ts d s = unit_complete unit_grammar.definition unit_clear.definition_is ts d s

-- ---- definitions

pub other_sound : (ts : List Token) (d : Definition) → whole (definitions.reads_by definitions.definition ts) ≡ Some d → definitions.SpellsDefinition ts d
other_sound ts d e = whole_sound ddl.reads_definitions ts d e

pub other_complete : (ts : List Token) (d : Definition) → definitions.SpellsDefinition ts d → whole (definitions.reads_by definitions.definition ts) ≡ Some d
other_complete ts d s = whole_complete ddl.reads_definitions ts d s

sound_of : (b : Bool) (ts : List Token) (d : Definition) → (if b then creation_of ts else whole (definitions.reads_by definitions.definition ts)) ≡ Some d
    → SpellsOneOf b ts d
sound_of true ts d e = creation_sound ts d e
sound_of false ts d e = other_sound ts d e

complete_of : (b : Bool) (ts : List Token) (d : Definition) → SpellsOneOf b ts d
    → (if b then creation_of ts else whole (definitions.reads_by definitions.definition ts)) ≡ Some d
complete_of true ts d s = creation_complete ts d s
complete_of false ts d s = other_complete ts d s

pub definition_sound : (ts : List Token) (d : Definition) → definition_of ts ≡ Some d → Defines ts d
unfolding definition_of
definition_sound ts d e = sound_of (creates_object ts) ts d e

pub definition_complete : (ts : List Token) (d : Definition) → Defines ts d → definition_of ts ≡ Some d
unfolding definition_of
definition_complete ts d s = complete_of (creates_object ts) ts d s

pub definition_created : (ts : List Token) → creates_object ts ≡ true → definition_of ts ≡ creation_of ts
unfolding definition_of
definition_created ts e = take_first (creates_object ts) (creation_of ts) (whole (definitions.reads_by definitions.definition ts)) (creation_of ts) e refl

pub definition_other : (ts : List Token) → creates_object ts ≡ false → definition_of ts ≡ whole (definitions.reads_by definitions.definition ts)
unfolding definition_of
definition_other ts e = take_second (creates_object ts) (creation_of ts) (whole (definitions.reads_by definitions.definition ts)) (whole (definitions.reads_by definitions.definition ts)) e refl

create_defines : among (k.Create ∷ []) definition_kinds ≡ true
unfolding same
create_defines = refl

create_is_other : apart (k.Alter ∷ []) (k.Create ∷ []) ≡ true
unfolding same
create_is_other = refl

begins_of : (b : Bool) (ts : List Token) (d : Definition) → SpellsOneOf b ts d → sees definition_kinds ts ≡ true
begins_of true ts d s = sees-among (k.Create ∷ []) definition_kinds ts create_defines (creation_begins ts d s)
begins_of false ts d s = definition_begins ts d s

no_session_of : (b : Bool) (ts : List Token) (d : Definition) → SpellsOneOf b ts d → begins_session ts ≡ false
no_session_of true ts d s = other_kinds (k.Create ∷ []) ts create_is_other (creation_begins ts d s)
no_session_of false ts d s = definition_is_no_session ts d s

-- ---- no two kinds begin alike

blocks_transactions : apart block_kinds transaction_kinds ≡ true
unfolding same
blocks_transactions = refl

blocks_alter : apart block_kinds (k.Alter ∷ []) ≡ true
unfolding same
blocks_alter = refl

blocks_definitions : apart block_kinds definition_kinds ≡ true
unfolding same
blocks_definitions = refl

blocks_sql : apart block_kinds sql_kinds ≡ true
unfolding same
blocks_sql = refl

transactions_alter : apart transaction_kinds (k.Alter ∷ []) ≡ true
unfolding same
transactions_alter = refl

transactions_definitions : apart transaction_kinds definition_kinds ≡ true
unfolding same
transactions_definitions = refl

transactions_sql : apart transaction_kinds sql_kinds ≡ true
unfolding same
transactions_sql = refl

alter_sql : apart (k.Alter ∷ []) sql_kinds ≡ true
unfolding same
alter_sql = refl

definitions_sql : apart definition_kinds sql_kinds ≡ true
unfolding same
definitions_sql = refl

-- ---- the choice

abbrev fourth : List Token → Option Statement
fourth ts = if sees definition_kinds ts then a_definition ts else an_sql ts

abbrev third : List Token → Option Statement
third ts = if begins_session ts then a_session ts else fourth ts

abbrev second : List Token → Option Statement
second ts = if sees transaction_kinds ts then a_transaction ts else third ts

mapped : {A B : Type 0} (f : A → B) (o : Option A) (b : B) → option_map f o ≡ Some b → (a : A) × (o ≡ Some a) × (f a ≡ b)
mapped f None b e = absurd cc
mapped f (Some a) b e = (a, refl, some_is (f a) b e)

sound_fourth : (ts : List Token) (s : Statement) → fourth ts ≡ Some s → SpellsStatement ts s
sound_fourth ts s e =
    elim (which (sees definition_kinds ts) (a_definition ts) (an_sql ts) (Some s) e) [
      | inl it ↦ let m = mapped statement.Definition (definition_of ts) s it.1 in subst (SpellsStatement ts) m.2 (definition_sound ts m.0 m.1)
      | inr it ↦ let m = mapped statement.Sql (whole (sql.reads_by sql_grammar.sql ts)) s it.1 in subst (SpellsStatement ts) m.2 (sql_sound sql_grammar.sql sql_clear.sql_is ts m.0 m.1)
    ]

sound_third : (ts : List Token) (s : Statement) → third ts ≡ Some s → SpellsStatement ts s
sound_third ts s e =
    elim (which (begins_session ts) (a_session ts) (fourth ts) (Some s) e) [
      | inl it ↦ let m = mapped statement.SetEdition (whole (sql.reads_by sql_grammar.session ts)) s it.1 in subst (SpellsStatement ts) m.2 (sql_sound sql_grammar.session sql_clear.session_is ts m.0 m.1)
      | inr it ↦ sound_fourth ts s it.1
    ]

sound_second : (ts : List Token) (s : Statement) → second ts ≡ Some s → SpellsStatement ts s
sound_second ts s e =
    elim (which (sees transaction_kinds ts) (a_transaction ts) (third ts) (Some s) e) [
      | inl it ↦ let m = mapped statement.Transaction (whole (sql.reads_by sql_grammar.transaction ts)) s it.1 in subst (SpellsStatement ts) m.2 (sql_sound sql_grammar.transaction sql_clear.transaction_is ts m.0 m.1)
      | inr it ↦ sound_third ts s it.1
    ]

pub statement_sound : (ts : List Token) (s : Statement) → statement_of ts ≡ Some s → SpellsStatement ts s
unfolding statement_of
statement_sound ts s e =
    elim (which (sees block_kinds ts) (a_block ts) (second ts) (Some s) e) [
      | inl it ↦ let m = mapped statement.Block (whole (units.reads_by unit_grammar.block ts)) s it.1 in subst (SpellsStatement ts) m.2 (unit_sound unit_grammar.block unit_clear.block_is ts m.0 m.1)
      | inr it ↦ sound_second ts s it.1
    ]

complete_fourth : (ts : List Token) (d : Definition) → Defines ts d → fourth ts ≡ Some (statement.Definition d)
complete_fourth ts d s = take_first (sees definition_kinds ts) (a_definition ts) (an_sql ts) _ (begins_of (creates_object ts) ts d s) (ap (option_map statement.Definition) (definition_complete ts d s))

pub statement_complete : (ts : List Token) (s : Statement) → SpellsStatement ts s → statement_of ts ≡ Some s
unfolding statement_of
statement_complete ts (statement.Block b) s =
    take_first (sees block_kinds ts) (a_block ts) (second ts) _ (block_begins ts b s) (ap (option_map statement.Block) (unit_complete unit_grammar.block unit_clear.block_is ts b s))
statement_complete ts (statement.Transaction x) s =
    let begun = transaction_begins ts x s in
    take_second (sees block_kinds ts) (a_block ts) (second ts) _ (sees-apart block_kinds transaction_kinds ts blocks_transactions begun)
    (take_first (sees transaction_kinds ts) (a_transaction ts) (third ts) _ begun (ap (option_map statement.Transaction) (sql_complete sql_grammar.transaction sql_clear.transaction_is ts x s)))
statement_complete ts (statement.SetEdition n) s =
    let alter = session_is_alter ts n s in
    take_second (sees block_kinds ts) (a_block ts) (second ts) _ (sees-apart block_kinds (k.Alter ∷ []) ts blocks_alter alter)
    (take_second (sees transaction_kinds ts) (a_transaction ts) (third ts) _ (sees-apart transaction_kinds (k.Alter ∷ []) ts transactions_alter alter)
    (take_first (begins_session ts) (a_session ts) (fourth ts) _ (session_begins ts n s) (ap (option_map statement.SetEdition) (sql_complete sql_grammar.session sql_clear.session_is ts n s))))
statement_complete ts (statement.Definition d) s =
    let begun = begins_of (creates_object ts) ts d s in
    take_second (sees block_kinds ts) (a_block ts) (second ts) _ (sees-apart block_kinds definition_kinds ts blocks_definitions begun)
    (take_second (sees transaction_kinds ts) (a_transaction ts) (third ts) _ (sees-apart transaction_kinds definition_kinds ts transactions_definitions begun)
    (take_second (begins_session ts) (a_session ts) (fourth ts) _ (no_session_of (creates_object ts) ts d s) (complete_fourth ts d s)))
statement_complete ts (statement.Sql x) s =
    let begun = sql_begins ts x s in
    take_second (sees block_kinds ts) (a_block ts) (second ts) _ (sees-apart block_kinds sql_kinds ts blocks_sql begun)
    (take_second (sees transaction_kinds ts) (a_transaction ts) (third ts) _ (sees-apart transaction_kinds sql_kinds ts transactions_sql begun)
    (take_second (begins_session ts) (a_session ts) (fourth ts) _ (other_kinds sql_kinds ts alter_sql begun)
    (take_second (sees definition_kinds ts) (a_definition ts) (an_sql ts) _ (sees-apart definition_kinds sql_kinds ts definitions_sql begun)
    (ap (option_map statement.Sql) (sql_complete sql_grammar.sql sql_clear.sql_is ts x s)))))
