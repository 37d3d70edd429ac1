-- The grammar of a table's columns and its key (Oracle Database SQL Language Reference 19c, CREATE TABLE; which of
-- its forms there are is this server's own choice):
--   column = n type {NOT NULL | PRIMARY KEY}
--   key = [CONSTRAINT n] PRIMARY KEY ( n {, n} )
use Rattle.std.specs.Prelude.{ℕ, ◌+◌, Bool, ◌&&◌, ◌||◌, List, [], ◌∷◌, drop, Option, Some, None}
use Rattle.ebr_lexer.specs.declared.token.Token.{Token}
use Rattle.ebr_grammar.specs.declared.kind.Kind.{Kind}
use Rattle.ebr_grammar.specs.declared.kind.Kind.TheVariants as k
use Rattle.ebr_grammar.specs.Forms.{Form, Reader, sees, either, by_test}
use Rattle.ebr_grammar.specs.Grammar.{word, both, made, led}
use Rattle.ebr_grammar.specs.Words.{mark, ◌▸◌, ◌∣◌, all, name}
use Rattle.ebr_ast.specs.declared.statement.DeclaredType.{DeclaredType}
use Rattle.ebr_ast.specs.declared.definition.ColumnTree.{ColumnTree}
use Rattle.ebr_ast.specs.declared.definition.ColumnConstraint.{ColumnConstraint}
use Rattle.ebr_ast.specs.declared.definition.ColumnConstraint.TheVariants as constrained
use Rattle.ebr_ddlparse.specs.Base.{P, reading, SpellsBy, closed_names}
use Rattle.ebr_ddlparse.specs.Types.{declared_type}

abbrev pub column_tree : List ℕ → DeclaredType → List ColumnConstraint → ColumnTree
column_tree name ty constraints = record { name = name; ty = ty; constraints = constraints }

unfoldable pub constraint : P ColumnConstraint
constraint = k.Not ▸ word k.Null constrained.NotNull ∣ k.Primary ▸ word k.Key constrained.PrimaryKey

abbrev pub constraint_begins : List Kind
constraint_begins = k.Not ∷ k.Primary ∷ []

unfoldable pub constraints : P (List ColumnConstraint)
constraints = all (led constraint_begins constraint)

-- behind a column's name
unfoldable pub column_rest : P (List ℕ → ColumnTree)
column_rest = both (λ ty constraints name. column_tree name ty constraints) declared_type constraints

unfoldable pub column : P ColumnTree
column = both (λ name f. f name) name column_rest

-- what stands before a key's columns
unfoldable pub key_words : P (Unit {0})
key_words = k.Primary ▸ (k.Key ▸ mark k.LeftParen)

unfoldable pub key_head : P (Unit {0})
key_head = k.Constraint ▸ both (λ _ x. x) name key_words ∣ key_words

unfoldable pub key : P (List (List ℕ))
key = both (λ _ columns. columns) key_head closed_names

-- What stands behind a comma in a table's parentheses.
pub data Entry : Type 0 where
  the_column : ColumnTree → Entry
  the_key : List (List ℕ) → Entry

-- PRIMARY KEY ( stands behind so many tokens
abbrev pub is_key_words : ℕ → List Token → Bool
is_key_words skipped ts = sees (k.Primary ∷ []) (drop skipped ts) && (sees (k.Key ∷ []) (drop (skipped + 1) ts) && sees (k.LeftParen ∷ []) (drop (skipped + 2) ts))

-- PRIMARY KEY ( stands in front, or CONSTRAINT with a name and these: so a key begins. A column may be named PRIMARY or CONSTRAINT.
unfoldable pub is_key : List Token → Bool
is_key ts = is_key_words 0 ts || (sees (k.Constraint ∷ []) ts && is_key_words 2 ts)

unfoldable pub key_entry : P Entry
key_entry = made the_key key

unfoldable pub column_entry : P Entry
column_entry = made the_column column

-- The tokens spell a key or a column.
abbrev pub SpellsEntry : Form Entry
SpellsEntry = either (SpellsBy key_entry) (SpellsBy column_entry)

unfoldable pub entry_reader : Reader Entry
entry_reader ts = by_test is_key (reading key_entry) (reading column_entry) ts

-- ---- columns, and then a key or none

abbrev pub Items : Type 0
Items = List ColumnTree × List (List ℕ)

abbrev pub with_column : ColumnTree → Option Items → Option Items
with_column first None = None
with_column first (Some items) = Some (first ∷ items.0, items.1)

-- the columns, where no key stands before another entry; and the key
abbrev pub placed : List Entry → Option Items
placed [] = Some ([], [])
placed (the_column first ∷ entries) = with_column first (placed entries)
placed (the_key columns ∷ []) = Some ([], columns)
placed (the_key columns ∷ entry ∷ entries) = None
