-- What a session asks and prints, by its script and the answers that it is given (own).
use Rattle.std.specs.Prelude.{ℕ, List, [], ◌∷◌, codes, Option, None}
use Rattle.ebr_base.specs.Code.{code_text}
use Rattle.ebr_ast.specs.declared.definition.Definition.{Definition}
use Rattle.ebr_ast.specs.declared.definition.Definition.TheVariants.{CreateObject}
use Rattle.ebr_ast.specs.declared.definition.Statement.{Statement}
use Rattle.ebr_ast.specs.declared.definition.Statement.TheVariants as statement
use Rattle.ebr_script.specs.declared.piece.Piece.{Piece}
use Rattle.ebr_script.specs.declared.piece.PieceKind.{PieceKind}
use Rattle.ebr_script.specs.declared.piece.PieceKind.TheVariants as piece
use Rattle.ebr_script.specs.Pieces.{pieces_of, text_of}
use Rattle.ebr_asks.specs.declared.ask.Ask.TheVariants as ask
use Rattle.ebr_asks.specs.declared.answer.Answer.{Answer}
use Rattle.ebr_asks.specs.declared.answer.Answer.TheVariants as answer
use Rattle.ebr_run.specs.Statements.{transact}
use Rattle.ebr_calls.specs.Steps.{State, Outcome, Step, then_run, leaving, asked, line_of, printing, printing_result, most_steps, run_block}

-- the text that a definition is asked with: that of the object that it creates, and else none
abbrev pub text_asked : Definition → List ℕ → List ℕ
text_asked (CreateObject replace u) text = text
text_asked d text = []

-- A session that has changed its edition has no states of packages any more.
abbrev pub printing_edition : Answer → Step
printing_edition answer.Done σ = printing (line_of (codes "OK")) (record σ { packages = [] })
printing_edition x σ = printing_result (codes "OK") x σ

-- what a statement asks and prints, where its piece has this text
abbrev pub run_statement : Statement → List ℕ → Step
run_statement (statement.Sql s) text = asked (ask.Sql s [] most_steps) (printing_result [])
run_statement (statement.Transaction t) text = asked (transact t) (printing_result (codes "OK"))
run_statement (statement.SetEdition name) text = asked (ask.SetEdition name) printing_edition
run_statement (statement.Definition what) text = asked (ask.Ddl what (text_asked what text)) (printing_result (codes "OK"))
run_statement (statement.Block b) text = run_block b

-- A piece that spells no statement asks nothing, and prints the code of its first fault.
abbrev pub run_piece : PieceKind → List ℕ → Step
run_piece (piece.Refused code) text = printing (line_of (code_text code))
run_piece (piece.Tree s) text = run_statement s text

-- After the last piece comes Leave.
abbrev pub run_pieces : List ℕ → List Piece → Step
run_pieces script [] σ = leaving σ
run_pieces script (p ∷ pieces) σ = then_run (run_piece p.what (text_of script p) σ) (run_pieces script pieces)

-- how many bytes of lines a session may print
abbrev pub most_room : ℕ
most_room = 16777216

abbrev pub beginning : List Answer → Option ℕ → State
beginning coming quit = record { asks = []; printed = []; packages = []; room = most_room; coming = coming; quit = quit }

-- The run of a script with the answers that it is given; with `quit` the session quits after so many of them.
abbrev pub SessionRun : List ℕ → List Answer → Option ℕ → Outcome
SessionRun script answers quit = run_pieces script (pieces_of script) (beginning answers quit)

-- what a script prints against the answers that it is given
abbrev pub Printed : List ℕ → List Answer → List ℕ
Printed script answers = (SessionRun script answers None).state.printed
