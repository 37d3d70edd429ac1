-- The code of statements and blocks at one layer, and of their lists.
use Rattle.std.proofs.Common.{◌≡◌, ℕ, suc, List, [], ◌∷◌, ◌++◌, map, refl, sym, ap, ◌∙◌}
use Rattle.std.proofs.lemmas.List.{append_assoc}
use Rattle.ebr_exprtree.specs.declared.expression.Expr.{Expr}
use Rattle.ebr_ast.specs.declared.statement.Block.{Block, out-Block}
use Rattle.ebr_ast.specs.declared.statement.Branch.{Branch, out-Branch}
use Rattle.ebr_ast.specs.declared.statement.Decl.{Decl}
use Rattle.ebr_ast.specs.declared.statement.Handler.{Handler, out-Handler}
use Rattle.ebr_ast.specs.declared.statement.Stmt.{Stmt, out-Stmt}
use Rattle.ebr_ast.specs.declared.statement.Stmt.TheFolds.{fold_out-Stmt, fold_out-Block, fold_out-Branch, fold_out-Handler, map-Stmt, map-Block, map-Branch, map-Handler}
use Rattle.ebr_code.specs.declared.instruction.Handler as coded
use Rattle.ebr_code.specs.declared.instruction.Caught as catching
use Rattle.ebr_code.specs.declared.instruction.Instruction.TheViews.{roll-Handler}
use Rattle.ebr_code.specs.declared.instruction.Instruction.{Instruction, If, Guard}
use Rattle.ebr_run.specs.Scope.{Env, part, within_handler}
use Rattle.ebr_run.specs.Statements.{with_decls}
use Rattle.ebr_code.specs.Codes.{Coded, Handling, expr_code, all, caught_code, choose_code, stmt_codes, block_codes, branch_codes, handler_codes, stmt_code, block_code, handler_code, handlers_code, decls_code}
use Rattle.ebr_stmtcode.specs.declared.choices.Choice.{Choice}
use Rattle.ebr_stmtcode.specs.inside.Choices.{branch_code, choices, chosen, guarded_block, handling}

pub stmt_code-out : (x : Stmt) → stmt_code x ≡ stmt_codes (map-Stmt Stmt Block Branch Handler Coded Coded (Expr × Coded) Handling stmt_code block_code branch_code handler_code (out-Stmt x))
unfolding stmt_code block_code branch_code handler_code
stmt_code-out x = fold_out-Stmt Coded Coded (Expr × Coded) Handling stmt_codes block_codes branch_codes handler_codes x

pub block_code-out : (x : Block) → block_code x ≡ block_codes (map-Block Stmt Block Branch Handler Coded Coded (Expr × Coded) Handling stmt_code block_code branch_code handler_code (out-Block x))
unfolding stmt_code block_code branch_code handler_code
block_code-out x = fold_out-Block Coded Coded (Expr × Coded) Handling stmt_codes block_codes branch_codes handler_codes x

pub branch_code-out : (x : Branch) → branch_code x ≡ branch_codes (map-Branch Stmt Block Branch Handler Coded Coded (Expr × Coded) Handling stmt_code block_code branch_code handler_code (out-Branch x))
unfolding stmt_code block_code branch_code handler_code
branch_code-out x = fold_out-Branch Coded Coded (Expr × Coded) Handling stmt_codes block_codes branch_codes handler_codes x

pub handler_code-out : (x : Handler) → handler_code x ≡ handler_codes (map-Handler Stmt Block Branch Handler Coded Coded (Expr × Coded) Handling stmt_code block_code branch_code handler_code (out-Handler x))
unfolding stmt_code block_code branch_code handler_code
handler_code-out x = fold_out-Handler Coded Coded (Expr × Coded) Handling stmt_codes block_codes branch_codes handler_codes x

-- IF, where the code behind ELSE is known
pub chosen_is : (i : ℕ) (bs : List (Expr × Coded)) (otherwise : Coded) (env : Env) → choose_code i bs otherwise env ≡ chosen (choices i bs env) (otherwise (part 0 env))
chosen_is i [] otherwise env = refl
chosen_is i (b ∷ bs) otherwise env = ap (λ rest. expr_code b.0 env ++ If (b.1 (part (suc i) env)) rest ∷ []) (chosen_is (suc i) bs otherwise env)

pub chosen_last : (cs : List Choice) (c : Choice) (otherwise : List Instruction) → chosen (cs ++ c ∷ []) otherwise ≡ chosen cs (c.condition ++ If c.body otherwise ∷ [])
chosen_last [] c otherwise = refl
chosen_last (x ∷ cs) c otherwise = ap (λ rest. x.condition ++ If x.body rest ∷ []) (chosen_last cs c otherwise)

-- a block, part by part
pub guarded_is : (b : Block) (env e1 e2 : Env) (start end body : List Instruction) (place : ℕ) (hs : List coded.Handler)
    → body ≡ all 0 (map stmt_code (out-Block b).statements) (part 0 env)
    → e1 ≡ env
    → hs ≡ handlers_code 0 (map handler_code (out-Block b).handlers) e1
    → e2 ≡ e1
    → place ≡ e2.handlers
    → end ≡ start ++ Guard body place hs ∷ []
    → end ≡ start ++ guarded_block b env
guarded_is b env e1 e2 start end body place hs s k h l p e =
    let handlers = map handler_code (out-Block b).handlers in
    e
    ∙ ap (λ (n : ℕ). start ++ Guard body n hs ∷ []) (p ∙ ap (λ (x : Env). x.handlers) (l ∙ k))
    ∙ ap (λ (xs : List coded.Handler). start ++ Guard body env.handlers xs ∷ []) (h ∙ ap (handlers_code 0 handlers) k)
    ∙ ap (λ (xs : List Instruction). start ++ Guard xs env.handlers (handlers_code 0 handlers env) ∷ []) s

pub block_is : (b : Block) (env e1 : Env) (ds : List Decl) (start behind end : List Instruction)
    → ds ≡ (out-Block b).declarations
    → behind ≡ start ++ decls_code ds env
    → e1 ≡ with_decls ds env
    → end ≡ behind ++ guarded_block b e1
    → end ≡ start ++ block_code b env
block_is b env e1 ds start behind end q o d e =
    e
    ∙ ap (λ (x : Env). behind ++ guarded_block b x) d
    ∙ ap (λ (xs : List Instruction). xs ++ guarded_block b (with_decls ds env)) o
    ∙ append_assoc start (decls_code ds env) (guarded_block b (with_decls ds env))
    ∙ ap (λ (xs : List Decl). start ++ (decls_code xs env ++ guarded_block b (with_decls xs env))) q
    ∙ ap (λ (f : Coded). start ++ f env) (sym (block_code-out b))

-- a handler, part by part
pub handling_is : (h : Handler) (at : ℕ) (env e1 e2 : Env) (body : List Instruction) (caught : catching.Caught)
    → e1 ≡ within_handler (part (suc at) env)
    → body ≡ all 0 (map stmt_code (out-Handler h).statements) e1
    → e2 ≡ env
    → caught ≡ caught_code e2 (out-Handler h).caught
    → roll-Handler (record { caught = caught; body = body }) ≡ handling at (handler_code h) env
handling_is h at env e1 e2 body caught b s l k =
    let ss = map stmt_code (out-Handler h).statements in
    ap (λ (x : catching.Caught). roll-Handler (record { caught = x; body = body })) (k ∙ ap (λ (x : Env). caught_code x (out-Handler h).caught) l)
    ∙ ap (λ (xs : List Instruction). roll-Handler (record { caught = caught_code env (out-Handler h).caught; body = xs })) (s ∙ ap (all 0 ss) b)
    ∙ ap (λ (x : Handling). handling at x env) (sym (handler_code-out h))
