-- Blocks and their parts, as forms of another grammar.
use Rattle.std.specs.Prelude.{List, [], ◌∷◌}
use Rattle.ebr_grammar.specs.declared.kind.Kind.{Kind}
use Rattle.ebr_grammar.specs.declared.kind.Kind.TheVariants as k
use Rattle.ebr_grammar.specs.Forms.{Outer}
use Rattle.ebr_ast.specs.declared.statement.Block.{Block}
use Rattle.ebr_ast.specs.declared.statement.Decl.{Decl}
use Rattle.ebr_simpleparse.specs.Declarations.{declaration_begins}
use Rattle.ebr_simpleparse.specs.Paths.{Called}
use Rattle.ebr_simpleparse.specs.Parts as simple
use Rattle.ebr_stmtparse.specs.declared.grammar.Initial.{Initial}
use Rattle.ebr_stmtparse.specs.Statements.{initial, body, block, block_begins, statement_begins, SpelledBy, body_reader, block_reader, initial_reader}

-- with what a body begins
abbrev pub body_begins : List Kind
body_begins = k.Begin ∷ declaration_begins

-- with what statements go on, and then handlers
abbrev pub initial_goes_on : List Kind
initial_goes_on = k.Exception ∷ k.When ∷ statement_begins

-- A declaration, with the `;` behind it: ebr_stmtparse::read_declaration.
abbrev pub declaration_part : Outer Decl
declaration_part = simple.declaration_part

-- n [. n] [( [e {, e}] )]: ebr_stmtparse::read_call.
abbrev pub call_part : Outer Called
call_part = simple.call_part

-- {declaration} BEGIN statements [EXCEPTION handler {handler}] END [n] ; : ebr_stmtparse::read_body.
abbrev pub body_part : Outer Block
body_part = record { begins = body_begins; goes_on = []; form = SpelledBy body; reader = body_reader }

-- [DECLARE {declaration}] and the same from BEGIN on: ebr_stmtparse::read_block.
abbrev pub block_part : Outer Block
block_part = record { begins = block_begins; goes_on = []; form = SpelledBy block; reader = block_reader }

-- BEGIN statements [EXCEPTION handler {handler}]: ebr_stmtparse::read_initial.
abbrev pub initial_part : Outer Initial
initial_part = record { begins = k.Begin ∷ []; goes_on = initial_goes_on; form = SpelledBy initial; reader = initial_reader }
