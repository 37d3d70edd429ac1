-- IF, handlers and blocks, by what their parts are.
use Rattle.std.specs.Prelude.{ℕ, suc, List, [], ◌∷◌, ◌++◌, map}
use Rattle.ebr_exprtree.specs.declared.expression.Expr.{Expr}
use Rattle.ebr_ast.specs.declared.statement.Block.{Block, out-Block}
use Rattle.ebr_ast.specs.declared.statement.Branch.{Branch}
use Rattle.ebr_ast.specs.declared.statement.Stmt.TheFolds.{fold-Branch}
use Rattle.ebr_code.specs.declared.instruction.Handler as coded
use Rattle.ebr_code.specs.declared.instruction.Instruction.TheViews.{roll-Handler}
use Rattle.ebr_code.specs.declared.instruction.Instruction.{Instruction, If}
use Rattle.ebr_run.specs.Scope.{Env, part, within_handler}
use Rattle.ebr_stmtcode.specs.declared.choices.Choice.{Choice}
use Rattle.ebr_code.specs.Codes.{Coded, Handling, expr_code, caught_code, guarded_code, stmt_code, handler_code, stmt_codes, block_codes, branch_codes, handler_codes}

unfoldable pub branch_code : Branch → Expr × Coded
branch_code = fold-Branch Coded Coded (Expr × Coded) Handling stmt_codes block_codes branch_codes handler_codes

-- the branch at a place
abbrev pub choice : ℕ → Expr × Coded → Env → Choice
choice i b env = record { condition = expr_code b.0 env; body = b.1 (part (suc i) env) }

abbrev pub choices : ℕ → List (Expr × Coded) → Env → List Choice
choices i [] env = []
choices i (b ∷ bs) env = choice i b env ∷ choices (suc i) bs env

abbrev pub chosen : List Choice → List Instruction → List Instruction
chosen [] otherwise = otherwise
chosen (c ∷ cs) otherwise = c.condition ++ If c.body (chosen cs otherwise) ∷ []

-- the handler at a place
abbrev pub handling : ℕ → Handling → Env → coded.Handler
handling i h env = roll-Handler (record { caught = caught_code env h.caught; body = h.code (within_handler (part (suc i) env)) })

-- the statements of a block with their handlers
abbrev pub guarded_block : Block → Coded
guarded_block b = guarded_code (map stmt_code (out-Block b).statements) (map handler_code (out-Block b).handlers)
