-- What a piece of a script may spell: one statement.
use Rattle.std.specs.Prelude.{Bool, true, false, ◌&&◌, if◌then◌else◌, List, [], ◌∷◌, drop, Option, option_map}
use Rattle.ebr_lexer.specs.declared.token.Token.{Token}
use Rattle.ebr_grammar.specs.declared.kind.Kind.TheVariants as k
use Rattle.ebr_grammar.specs.Forms.{Form, sees}
use Rattle.ebr_grammar.specs.Reading.{whole}
use Rattle.ebr_ast.specs.declared.definition.Statement.{Statement}
use Rattle.ebr_ast.specs.declared.definition.Statement.TheVariants as statement
use Rattle.ebr_ast.specs.declared.definition.Definition.{Definition}
use Rattle.ebr_sqlparse.specs.Productions as sql
use Rattle.ebr_sqlparse.specs.Statements as sql_grammar
use Rattle.ebr_ddlparse.specs.Definitions as definitions
use Rattle.ebr_plparse.specs.Productions as units
use Rattle.ebr_plparse.specs.Units as unit_grammar

-- An object is created: CREATE, and then neither EDITION nor TABLE.
unfoldable pub creates_object : List Token → Bool
creates_object ts = sees (k.Create ∷ []) ts && sees (k.Or ∷ k.Editionable ∷ k.Editioning ∷ k.Procedure ∷ k.Function ∷ k.Package ∷ k.Trigger ∷ []) (drop 1 ts)

-- The tokens spell the creation of an object, or another definition.
abbrev pub SpellsOneOf : Bool → Form Definition
SpellsOneOf true = unit_grammar.SpellsCreation
SpellsOneOf false = definitions.SpellsDefinition

-- The tokens spell the definition.
abbrev pub Defines : Form Definition
Defines ts d = SpellsOneOf (creates_object ts) ts d

-- The tokens spell the statement.
abbrev pub SpellsStatement : Form Statement
SpellsStatement ts (statement.Sql x) = sql_grammar.SpellsSql ts x
SpellsStatement ts (statement.Transaction x) = sql_grammar.SpellsTransaction ts x
SpellsStatement ts (statement.SetEdition n) = sql_grammar.SpellsSession ts n
SpellsStatement ts (statement.Definition d) = Defines ts d
SpellsStatement ts (statement.Block b) = unit_grammar.SpellsBlock ts b

-- ---- reading

unfoldable pub begins_session : List Token → Bool
begins_session ts = sees (k.Alter ∷ []) ts && sees (k.Session ∷ []) (drop 1 ts)

-- the creation of an object that the tokens spell
unfoldable pub creation_of : List Token → Option Definition
creation_of ts = whole (units.reads_by unit_grammar.definition ts)

-- the definition that the tokens spell
unfoldable pub definition_of : List Token → Option Definition
definition_of ts = if creates_object ts then creation_of ts else whole (definitions.reads_by definitions.definition ts)

-- the statement of each kind that the tokens spell
abbrev pub a_block : List Token → Option Statement
a_block ts = option_map statement.Block (whole (units.reads_by unit_grammar.block ts))

abbrev pub a_transaction : List Token → Option Statement
a_transaction ts = option_map statement.Transaction (whole (sql.reads_by sql_grammar.transaction ts))

abbrev pub a_session : List Token → Option Statement
a_session ts = option_map statement.SetEdition (whole (sql.reads_by sql_grammar.session ts))

abbrev pub a_definition : List Token → Option Statement
a_definition ts = option_map statement.Definition (definition_of ts)

abbrev pub an_sql : List Token → Option Statement
an_sql ts = option_map statement.Sql (whole (sql.reads_by sql_grammar.sql ts))

-- The statement that the tokens spell, told by the first of them.
unfoldable pub statement_of : List Token → Option Statement
statement_of ts =
    if sees (k.Begin ∷ k.Declare ∷ k.Call ∷ []) ts then a_block ts
    else if sees (k.Commit ∷ k.Rollback ∷ k.Savepoint ∷ []) ts then a_transaction ts
    else if begins_session ts then a_session ts
    else if sees (k.Create ∷ k.Alter ∷ k.Drop ∷ []) ts then a_definition ts
    else an_sql ts
