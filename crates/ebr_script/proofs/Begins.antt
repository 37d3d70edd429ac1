-- What statements of each kind begin with.
use Rattle.std.proofs.Common.{◌≡◌, Bool, true, false, List, [], ◌∷◌, drop, refl, inl, inr}
use Rattle.std.specs.Prelude.{◌&&◌, ℕ}
use Rattle.ebr_lexer.specs.declared.token.Token.{Token}
use Rattle.ebr_grammar.specs.declared.kind.Kind.{Kind}
use Rattle.ebr_grammar.specs.declared.kind.Kind.TheVariants as k
use Rattle.ebr_grammar.specs.Kinds.{same}
use Rattle.ebr_grammar.specs.Forms.{sees}
use Rattle.ebr_grammar.specs.Grammar.{Spells}
use Rattle.ebr_grammar.specs.Reading.{first}
use Rattle.ebr_grammar.specs.Choice.{apart, among}
use Rattle.ebr_grammar.specs.Words.{◌▸◌}
use Rattle.ebr_grammar.proofs.Next.{sees-among, sees-apart}
use Rattle.ebr_ast.specs.declared.sql.SqlTree.{SqlTree}
use Rattle.ebr_ast.specs.declared.sql.Transaction.{Transaction}
use Rattle.ebr_ast.specs.declared.statement.Block.{Block}
use Rattle.ebr_ast.specs.declared.definition.Definition.{Definition}
use Rattle.ebr_sqlparse.specs.Productions as sql
use Rattle.ebr_sqlparse.specs.Statements.{sql as any_sql, apply, transaction, session, SpellsSql, SpellsTransaction, SpellsSession}
use Rattle.ebr_sqlparse.proofs.Reader.{reader}
use Rattle.ebr_sqlparse.proofs.Clear.{sql_is, transaction_is}
use Rattle.ebr_ddlparse.specs.Definitions as definitions
use Rattle.ebr_ddlparse.specs.Definitions.{SpellsPart, SpellsDefinition}
use Rattle.ebr_plparse.specs.Units as units
use Rattle.ebr_plparse.specs.Units.{SpellsBlock, SpellsCreation}
use Rattle.ebr_plparse.specs.Productions as unit_productions
use Rattle.ebr_plparse.proofs.Reader.{reader as unit_reader}
use Rattle.ebr_plparse.proofs.Clear.{block_is}
use Rattle.ebr_script.specs.Statements.{begins_session}
use Rattle.ebr_script.proofs.Marks.{first_is, behind}

abbrev pub block_kinds : List Kind
block_kinds = k.Begin ∷ k.Declare ∷ k.Call ∷ []

abbrev pub transaction_kinds : List Kind
transaction_kinds = k.Commit ∷ k.Rollback ∷ k.Savepoint ∷ []

abbrev pub definition_kinds : List Kind
definition_kinds = k.Create ∷ k.Alter ∷ k.Drop ∷ []

abbrev pub sql_kinds : List Kind
sql_kinds = k.Select ∷ k.Insert ∷ k.Update ∷ k.Delete ∷ k.Apply ∷ []

pub sql_begins : (ts : List Token) (x : SqlTree) → SpellsSql ts x → sees sql_kinds ts ≡ true
unfolding same any_sql apply
sql_begins ts x s = sees-among (first sql.hints any_sql) sql_kinds ts refl ((reader any_sql sql_is).begun ts x s)

pub transaction_begins : (ts : List Token) (x : Transaction) → SpellsTransaction ts x → sees transaction_kinds ts ≡ true
unfolding same transaction
transaction_begins ts x s = sees-among (first sql.hints transaction) transaction_kinds ts refl ((reader transaction transaction_is).begun ts x s)

both_true : (a b : Bool) → a ≡ true → b ≡ true → (a && b) ≡ true
both_true a b p q = rw (p, q) refl

abbrev behind_session : sql.P (List ℕ)
behind_session = k.Set ▸ k.Edition ▸ k.Equal ▸ sql.name

pub session_is_alter : (ts : List Token) (n : List ℕ) → SpellsSession ts n → sees (k.Alter ∷ []) ts ≡ true
unfolding session
session_is_alter ts n s = first_is sql.SpellsPart k.Alter (k.Session ▸ behind_session) ts n s

session_is_second : (ts : List Token) (n : List ℕ) → SpellsSession ts n → sees (k.Session ∷ []) (drop 1 ts) ≡ true
unfolding session
session_is_second ts n s = first_is sql.SpellsPart k.Session behind_session (drop 1 ts) n (behind sql.SpellsPart k.Alter (k.Session ▸ behind_session) ts n s)

pub session_begins : (ts : List Token) (n : List ℕ) → SpellsSession ts n → begins_session ts ≡ true
unfolding begins_session
session_begins ts n s = both_true (sees (k.Alter ∷ []) ts) (sees (k.Session ∷ []) (drop 1 ts)) (session_is_alter ts n s) (session_is_second ts n s)

pub block_begins : (ts : List Token) (b : Block) → SpellsBlock ts b → sees block_kinds ts ≡ true
unfolding same units.block
block_begins ts b s = sees-among (first unit_productions.hints units.block) block_kinds ts refl ((unit_reader units.block block_is).begun ts b s)

pub creation_begins : (ts : List Token) (d : Definition) → SpellsCreation ts d → sees (k.Create ∷ []) ts ≡ true
unfolding units.definition
creation_begins ts d s = first_is (λ _ ts a. ⊥) k.Create units.create ts d s

one : (kind : Kind) (kinds : List Kind) (ts : List Token) → among (kind ∷ []) kinds ≡ true → sees (kind ∷ []) ts ≡ true → sees kinds ts ≡ true
one kind kinds ts a s = sees-among (kind ∷ []) kinds ts a s

pub definition_begins : (ts : List Token) (d : Definition) → SpellsDefinition ts d → sees definition_kinds ts ≡ true
unfolding same definitions.definition
definition_begins ts d (inl s) = one k.Create definition_kinds ts refl (first_is SpellsPart k.Create definitions.create ts d s)
definition_begins ts d (inr (inl s)) = one k.Alter definition_kinds ts refl (first_is SpellsPart k.Alter definitions.alter ts d s)
definition_begins ts d (inr (inr s)) = one k.Drop definition_kinds ts refl (first_is SpellsPart k.Drop definitions.dropped ts d s)

-- ---- what begins no choice of an edition

not_alter : (a b : Bool) → a ≡ false → (a && b) ≡ false
not_alter a b e = rw e refl

not_session : (a b : Bool) → b ≡ false → (a && b) ≡ false
not_session true b e = e
not_session false b e = refl

pub other_kinds : (kinds : List Kind) (ts : List Token) → apart (k.Alter ∷ []) kinds ≡ true → sees kinds ts ≡ true → begins_session ts ≡ false
unfolding begins_session
other_kinds kinds ts a s = not_alter (sees (k.Alter ∷ []) ts) (sees (k.Session ∷ []) (drop 1 ts)) (sees-apart (k.Alter ∷ []) kinds ts a s)

second : (kinds : List Kind) (ts : List Token) → apart (k.Session ∷ []) kinds ≡ true → sees kinds (drop 1 ts) ≡ true → begins_session ts ≡ false
unfolding begins_session
second kinds ts a s = not_session (sees (k.Alter ∷ []) ts) (sees (k.Session ∷ []) (drop 1 ts)) (sees-apart (k.Session ∷ []) kinds (drop 1 ts) a s)

altered : (ts : List Token) (d : Definition) → Spells SpellsPart definitions.alter ts d → sees (k.Database ∷ k.Table ∷ k.Trigger ∷ []) ts ≡ true
unfolding same definitions.alter
altered ts d (inl s) = one k.Database (k.Database ∷ k.Table ∷ k.Trigger ∷ []) ts refl (first_is SpellsPart k.Database definitions.default_edition ts d s)
altered ts d (inr (inl s)) = one k.Table (k.Database ∷ k.Table ∷ k.Trigger ∷ []) ts refl (first_is SpellsPart k.Table definitions.alter_table ts d s)
altered ts d (inr (inr s)) = one k.Trigger (k.Database ∷ k.Table ∷ k.Trigger ∷ []) ts refl (first_is SpellsPart k.Trigger definitions.alter_trigger ts d s)

pub definition_is_no_session : (ts : List Token) (d : Definition) → SpellsDefinition ts d → begins_session ts ≡ false
unfolding same definitions.definition
definition_is_no_session ts d (inl s) = other_kinds (k.Create ∷ []) ts refl (first_is SpellsPart k.Create definitions.create ts d s)
definition_is_no_session ts d (inr (inl s)) = second (k.Database ∷ k.Table ∷ k.Trigger ∷ []) ts refl (altered (drop 1 ts) d (behind SpellsPart k.Alter definitions.alter ts d s))
definition_is_no_session ts d (inr (inr s)) = other_kinds (k.Drop ∷ []) ts refl (first_is SpellsPart k.Drop definitions.dropped ts d s)
