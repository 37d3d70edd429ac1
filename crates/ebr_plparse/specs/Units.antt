-- The grammar of units, and of what creates them (Oracle Database PL/SQL Language Reference 19c, CREATE Statements; Oracle
-- Database SQL Language Reference 19c, CALL; which of their forms there are is this server's own choice):
--   stored = subprogram | PACKAGE .. | TRIGGER .. | EDITIONING VIEW ..
--   block = DECLARE .. | BEGIN .. | CALL n [. n] ( [e {, e}] )
--   CREATE [OR REPLACE] [EDITIONABLE] stored
use Rattle.std.specs.Prelude.{Bool, true, false, List, [], ◌∷◌, Option, Some, None}
use Rattle.ebr_grammar.specs.declared.kind.Kind.TheVariants as k
use Rattle.ebr_grammar.specs.Forms.{Form}
use Rattle.ebr_grammar.specs.Grammar.{made, tested, led}
use Rattle.ebr_grammar.specs.Words.{◌▸◌, ◌∣◌, past}
use Rattle.ebr_exprtree.specs.declared.expression.Expr.{Expr}
use Rattle.ebr_exprtree.specs.declared.expression.Path.{Path}
use Rattle.ebr_ast.specs.declared.statement.Block.{Block, roll-Block}
use Rattle.ebr_ast.specs.declared.statement.Stmt.TheVariants as s
use Rattle.ebr_ast.specs.declared.definition.Definition.{Definition}
use Rattle.ebr_ast.specs.declared.definition.Definition.TheVariants as d
use Rattle.ebr_ast.specs.declared.unit.UnitTree.{UnitTree}
use Rattle.ebr_ast.specs.declared.unit.UnitTree.TheVariants as unit
use Rattle.ebr_ddlparse.specs.Parts.{view_part}
use Rattle.ebr_stmtparse.specs.Parts.{block_part, call_part}
use Rattle.ebr_plparse.specs.Productions.{P, SpelledBy, part}
use Rattle.ebr_plparse.specs.Heads.{head_begins}
use Rattle.ebr_plparse.specs.Packages.{subprogram, any_package}
use Rattle.ebr_plparse.specs.Triggers.{trigger}

-- ---- blocks

-- the block that holds this one call
abbrev pub calling : Path → List Expr → Block
calling path arguments = roll-Block (record { declarations = []; statements = s.Call path (Some arguments) ∷ []; handlers = [] })

-- CALL wants parentheses
abbrev pub called : Path × Option (List Expr) → Option Block
called (path, None) = None
called (path, Some arguments) = Some (calling path arguments)

-- behind CALL
unfoldable pub call : P Block
call = tested called (part call_part)

unfoldable pub block : P Block
block = k.Call ▸ call ∣ part block_part

-- The tokens spell the block, or the CALL that it means.
abbrev pub SpellsBlock : Form Block
SpellsBlock = SpelledBy block

-- ---- units

-- what CREATE makes
unfoldable pub stored : P UnitTree
stored = led head_begins (made unit.Subprogram subprogram)
    ∣ k.Package ▸ any_package
    ∣ k.Trigger ▸ made unit.Trigger trigger
    ∣ made unit.View (part view_part)

unfoldable pub text : P UnitTree
text = led (k.Begin ∷ k.Declare ∷ k.Call ∷ []) (made unit.Block block) ∣ stored

-- The tokens spell the unit, editioning view, block or CALL.
abbrev pub SpellsUnit : Form UnitTree
SpellsUnit = SpelledBy text

-- ---- CREATE

unfoldable pub create_stored : Bool → P Definition
create_stored replace = made (λ unit. d.CreateObject replace unit) stored

-- EDITIONABLE leaves nothing in the tree
unfoldable pub create_object : Bool → P Definition
create_object replace = past k.Editionable (create_stored replace)

-- behind CREATE
unfoldable pub create : P Definition
create = k.Or ▸ (k.Replace ▸ create_object true) ∣ create_object false

unfoldable pub definition : P Definition
definition = k.Create ▸ create

-- The tokens spell the creation of a unit or an editioning view.
abbrev pub SpellsCreation : Form Definition
SpellsCreation = SpelledBy definition
