-- Worked scripts, whose replies the definitions alone give. What the pieces and the stored texts spell is a premise, so that
-- all but the grammar is computed.
use Rattle.std.specs.Prelude.{ℕ, Bool, true, false, ◌≡◌, ◌≤◌, codes, List, [], ◌∷◌, length, Some, None}
use Rattle.ebr_base.specs.declared.numbers.SessionId.{SessionId}
use Rattle.ebr_ast.specs.declared.definition.Definition.{Definition}
use Rattle.ebr_ast.specs.declared.definition.Definition.TheVariants.{CreateEdition, CreateObject}
use Rattle.ebr_ast.specs.declared.definition.Statement.TheVariants as statement
use Rattle.ebr_ast.specs.declared.unit.UnitTree.TheVariants as unit
use Rattle.ebr_ast.specs.declared.statement.Block.{Block, roll-Block}
use Rattle.ebr_ast.specs.declared.statement.Stmt.{Stmt}
use Rattle.ebr_ast.specs.declared.statement.Stmt.TheVariants as stmt
use Rattle.ebr_exprtree.specs.declared.expression.Expr.TheVariants as expression
use Rattle.ebr_script.specs.declared.piece.Piece.{Piece}
use Rattle.ebr_script.specs.declared.piece.PieceKind.TheVariants as piece
use Rattle.ebr_script.specs.Pieces.{pieces_of, stored_definition, text_of}
use Rattle.ebr_asks.specs.declared.entry.Entry.{Entry}
use Rattle.ebr_database.specs.Database.{Database}
use Rattle.ebr_core.specs.Asked.{max_text}
use Rattle.ebr_core.specs.History.{Mine, Legal}
use Rattle.ebr_core.specs.Machine.{Build}
use Rattle.ebr_worker.specs.Ends.{RanToEnd}

-- the one session, and the database in which it begins
abbrev pub the_session : SessionId
the_session = record { 0 = 1 }

abbrev pub start : Database
start = Build [] 1

-- A script gives these replies: there is a history that the machine replays, and by which the script is run to its end.
pub record Gives (script replies : List ℕ) : Type 0 where
  pub history : List Entry
  pub legal : Legal start history
  pub ran : RanToEnd script (Mine history the_session) replies

-- `BEGIN` this statement `END`
abbrev pub block_of : Stmt → Block
block_of s = roll-Block (record { declarations = []; statements = s ∷ []; handlers = [] })

-- `BEGIN DBMS_OUTPUT.PUT_LINE('line'); END`
abbrev pub printing : List ℕ → Block
printing line = block_of (stmt.PutLine (expression.Text line))

-- the tree of `CALL name()`
abbrev pub call_of : List ℕ → Block
call_of name = block_of (stmt.Call (record { name = name; member = None }) (Some []))

-- the definition of a procedure without parameters that prints a line
abbrev pub procedure : Bool → List ℕ → List ℕ → Definition
procedure replace name line =
    CreateObject replace (unit.Subprogram (record { head = record { name = name; parameters = []; result = None }; body = printing line }))

-- A piece makes a procedure that prints one line, and its stored text spells what it does, in no more bytes than a script may
-- have, so that the journal has room for it.
pub record Makes (script : List ℕ) (p : Piece) (replace : Bool) (name line : List ℕ) : Type 0 where
  pub spells : p.what ≡ piece.Tree (statement.Definition (procedure replace name line))
  pub again : stored_definition (text_of script p) ≡ Some (procedure replace name line)
  pub small : length (text_of script p) ≤ max_text

-- A piece calls a procedure.
abbrev pub Calls : Piece → List ℕ → Type 0
Calls p name = p.what ≡ piece.Tree (statement.Block (call_of name))

-- A script makes a procedure, calls it, and calls one that isn't there.
abbrev pub CallsGive : List ℕ → Type 0
CallsGive replies = (script : List ℕ) (p q r : Piece) → pieces_of script ≡ p ∷ q ∷ r ∷ []
    → Makes script p false (codes "A") (codes "a") → Calls q (codes "A") → Calls r (codes "B") → Gives script replies

-- A script makes a procedure and replaces it in a child edition, and calls it there and in the first one.
abbrev pub UpgradeGives : List ℕ → Type 0
UpgradeGives replies = (script : List ℕ) (p q r s t u v : Piece) → pieces_of script ≡ p ∷ q ∷ r ∷ s ∷ t ∷ u ∷ v ∷ []
    → Makes script p false (codes "A") (codes "a")
    → q.what ≡ piece.Tree (statement.Definition (CreateEdition (codes "V2") None))
    → r.what ≡ piece.Tree (statement.SetEdition (codes "V2"))
    → Makes script s true (codes "A") (codes "b")
    → Calls t (codes "A")
    → u.what ≡ piece.Tree (statement.SetEdition (codes "ORA$BASE"))
    → Calls v (codes "A")
    → Gives script replies
