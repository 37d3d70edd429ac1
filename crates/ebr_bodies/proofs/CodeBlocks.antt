-- Statements and blocks ask what code may ask: an induction on their trees.
use Rattle.std.proofs.Common.{◌≡◌, List, [], ◌∷◌, map, sym, subst}
use Rattle.std.specs.List.{AllByRecursion}
use Rattle.ebr_exprtree.specs.declared.expression.Expr.{Expr}
use Rattle.ebr_ast.specs.declared.statement.Block.{Block}
use Rattle.ebr_ast.specs.declared.statement.Branch.{Branch}
use Rattle.ebr_ast.specs.declared.statement.Handler.{Handler}
use Rattle.ebr_ast.specs.declared.statement.Stmt.{Stmt}
use Rattle.ebr_ast.specs.declared.statement.Stmt.TheOpen.{Stmt-F, Block-F, Branch-F, Handler-F}
use Rattle.ebr_ast.specs.declared.statement.Stmt.TheOpen as stmt
use Rattle.ebr_ast.specs.declared.statement.Stmt.TheViews.{roll-Stmt, roll-Block, roll-Branch, roll-Handler}
use Rattle.ebr_ast.specs.declared.statement.Stmt.TheFolds.{fold-Branch, fold-roll-Stmt, fold-roll-Block, fold-roll-Branch, fold-roll-Handler, map-Stmt, map-Block, map-Branch, map-Handler, ind-Stmt, ind-Block, ind-Handler, claims}
use Rattle.ebr_ast.specs.declared.statement.Stmt.TheBlock.{the_family, member-Stmt, member-Block, member-Branch, member-Handler}
use denote.Hole.Holds.{Such}
use Rattle.ebr_value.specs.Texts.{printed}
use Rattle.ebr_run.specs.Scope.{application_error}
use Rattle.ebr_run.specs.State.{Exit, Continue, done, raises, line}
use Rattle.ebr_run.specs.Statements.{Meaning, Handling, target_place, assigned, while_true, source_of, run_all, act, in_block, guarded, with_decls, branch, handler, meaning_of, block_meaning, handling_of}
use Rattle.ebr_bodies.proofs.CodeStates.{loop_keeps, line_keeps}
use Rattle.ebr_bodies.proofs.CodeExpressions.{reading_keeps}
use Rattle.ebr_bodies.proofs.CodeTargets.{MeaningKeeps, assigned_keeps, call_keeps, raise_keeps, sql_keeps, cursor_keeps}
use Rattle.ebr_bodies.proofs.CodeStatements.{BranchKeeps, HandlerKeeps, run_all_keeps, choose_keeps, leave_keeps, while_keeps, for_range_keeps, for_rows_keeps, give_keeps, declare_all_keeps, guarded_keeps}

abbrev IsKept : Stmt → Type 0
IsKept s = MeaningKeeps (meaning_of s)

abbrev IsBlockKept : Block → Type 0
IsBlockKept b = MeaningKeeps (block_meaning b)

unfoldable branch_meaning : Branch → Expr × Meaning
branch_meaning = fold-Branch Meaning Meaning (Expr × Meaning) Handling act in_block branch handler

abbrev IsBranchKept : Branch → Type 0
IsBranchKept b = BranchKeeps (branch_meaning b)

abbrev IsHandlerKept : Handler → Type 0
IsHandlerKept h = HandlerKeeps (handling_of h)

abbrev KeptStmt : Type 0
KeptStmt = Such the_family (claims IsKept IsBlockKept IsBranchKept IsHandlerKept) member-Stmt

abbrev KeptBlock : Type 0
KeptBlock = Such the_family (claims IsKept IsBlockKept IsBranchKept IsHandlerKept) member-Block

abbrev KeptBranch : Type 0
KeptBranch = Such the_family (claims IsKept IsBlockKept IsBranchKept IsHandlerKept) member-Branch

abbrev KeptHandler : Type 0
KeptHandler = Such the_family (claims IsKept IsBlockKept IsBranchKept IsHandlerKept) member-Handler

abbrev meanings : List KeptStmt → List Meaning
meanings l = map meaning_of (map (λ e. e.0) l)

all_statements : (l : List KeptStmt) → AllByRecursion MeaningKeeps (meanings l)
all_statements [] = tt
all_statements (e ∷ l) = (e.1, all_statements l)

all_branches : (l : List KeptBranch) → AllByRecursion BranchKeeps (map branch_meaning (map (λ e. e.0) l))
all_branches [] = tt
all_branches (e ∷ l) = (e.1, all_branches l)

all_handlers : (l : List KeptHandler) → AllByRecursion HandlerKeeps (map handling_of (map (λ e. e.0) l))
all_handlers [] = tt
all_handlers (e ∷ l) = (e.1, all_handlers l)

-- ---- statements

abbrev acts : Stmt-F Stmt Block Branch Handler → Meaning
acts d = act (map-Stmt Stmt Block Branch Handler Meaning Meaning (Expr × Meaning) Handling meaning_of block_meaning branch_meaning handling_of d)

abbrev trees : Stmt-F KeptStmt KeptBlock KeptBranch KeptHandler → Stmt-F Stmt Block Branch Handler
trees y = map-Stmt KeptStmt KeptBlock KeptBranch KeptHandler Stmt Block Branch Handler (λ e. e.0) (λ e. e.0) (λ e. e.0) (λ e. e.0) y

body_keeps : (l : List KeptStmt) → MeaningKeeps (run_all 0 (meanings l))
body_keeps l = run_all_keeps 0 (meanings l) (all_statements l)

act_keeps : (y : Stmt-F KeptStmt KeptBlock KeptBranch KeptHandler) → MeaningKeeps (acts (trees y))
act_keeps stmt.Null env calls kc σ h = h
act_keeps (stmt.Assign t e) env calls kc σ h = reading_keeps e env calls kc (λ v. assigned (target_place env t) v calls done) (λ v. assigned_keeps (target_place env t) v calls kc done (λ τ k. k)) σ h
act_keeps (stmt.Block b) env calls kc σ h = b.1 env calls kc σ h
act_keeps (stmt.Return e) env calls kc σ h = give_keeps e env calls kc σ h
act_keeps (stmt.Raise path) env calls kc σ h = raise_keeps path env calls kc σ h
act_keeps (stmt.If bs a) env calls kc σ h = choose_keeps 0 (map branch_meaning (map (λ e. e.0) bs)) (all_branches bs) (run_all 0 (meanings a)) (body_keeps a) env calls kc σ h
act_keeps (stmt.Loop a) env calls kc σ h = loop_keeps done (run_all 0 (meanings a) env calls) (λ τ k. k) (body_keeps a env calls kc) σ h
act_keeps (stmt.While e a) env calls kc σ h = loop_keeps (while_true e env calls) (run_all 0 (meanings a) env calls) (while_keeps e env calls kc) (body_keeps a env calls kc) σ h
act_keeps (stmt.ForRange r a) env calls kc σ h = for_range_keeps r (run_all 0 (meanings a)) (body_keeps a) env calls kc σ h
act_keeps (stmt.ForRows r a) env calls kc σ h = for_rows_keeps (source_of r.from env) r (run_all 0 (meanings a)) (body_keeps a) env calls kc σ h
act_keeps (stmt.Exit e) env calls kc σ h = leave_keeps Exit e env calls kc σ h
act_keeps (stmt.Continue e) env calls kc σ h = leave_keeps Continue e env calls kc σ h
act_keeps (stmt.Call path es) env calls kc σ h = call_keeps path es env calls kc σ h
act_keeps (stmt.Sql s) env calls kc σ h = sql_keeps s env calls kc σ h
act_keeps (stmt.Cursor c) env calls kc σ h = cursor_keeps c env calls kc σ h
act_keeps (stmt.PutLine e) env calls kc σ h = reading_keeps e env calls kc (λ v. line (printed v)) (λ v. line_keeps (printed v)) σ h
act_keeps (stmt.RaiseApplicationError k e) env calls kc σ h = reading_keeps e env calls kc (λ text. raises (application_error k)) (λ text τ l. l) σ h

-- ---- blocks

abbrev block_trees : Block-F KeptStmt KeptBlock KeptBranch KeptHandler → Block-F Stmt Block Branch Handler
block_trees y = map-Block KeptStmt KeptBlock KeptBranch KeptHandler Stmt Block Branch Handler (λ e. e.0) (λ e. e.0) (λ e. e.0) (λ e. e.0) y

abbrev block_does : Block-F Stmt Block Branch Handler → Meaning
block_does d = in_block (map-Block Stmt Block Branch Handler Meaning Meaning (Expr × Meaning) Handling meaning_of block_meaning branch_meaning handling_of d)

block_keeps_all : (y : Block-F KeptStmt KeptBlock KeptBranch KeptHandler) → MeaningKeeps (block_does (block_trees y))
block_keeps_all y env calls kc σ h =
    let e = with_decls y.declarations env in
    let hs = map handling_of (map (λ e. e.0) y.handlers) in
    declare_all_keeps y.declarations env calls kc (guarded (meanings y.statements) hs e calls) (guarded_keeps (meanings y.statements) (all_statements y.statements) hs (all_handlers y.handlers) e calls kc) σ h

-- ---- one layer of a tree

meaning_of-roll : (d : Stmt-F Stmt Block Branch Handler) → meaning_of (roll-Stmt d) ≡ acts d
unfolding meaning_of block_meaning branch_meaning handling_of
meaning_of-roll d = fold-roll-Stmt Meaning Meaning (Expr × Meaning) Handling act in_block branch handler d

block_meaning-roll : (d : Block-F Stmt Block Branch Handler) → block_meaning (roll-Block d) ≡ block_does d
unfolding meaning_of block_meaning branch_meaning handling_of
block_meaning-roll d = fold-roll-Block Meaning Meaning (Expr × Meaning) Handling act in_block branch handler d

branch_meaning-roll : (d : Branch-F Stmt Block Branch Handler) → branch_meaning (roll-Branch d) ≡ branch (map-Branch Stmt Block Branch Handler Meaning Meaning (Expr × Meaning) Handling meaning_of block_meaning branch_meaning handling_of d)
unfolding meaning_of block_meaning branch_meaning handling_of
branch_meaning-roll d = fold-roll-Branch Meaning Meaning (Expr × Meaning) Handling act in_block branch handler d

handling_of-roll : (d : Handler-F Stmt Block Branch Handler) → handling_of (roll-Handler d) ≡ handler (map-Handler Stmt Block Branch Handler Meaning Meaning (Expr × Meaning) Handling meaning_of block_meaning branch_meaning handling_of d)
unfolding meaning_of block_meaning branch_meaning handling_of
handling_of-roll d = fold-roll-Handler Meaning Meaning (Expr × Meaning) Handling act in_block branch handler d

-- ---- all of them

of_statement : (x : Stmt-F Stmt Block Branch Handler) (y : Stmt-F KeptStmt KeptBlock KeptBranch KeptHandler) → trees y ≡ x → IsKept (roll-Stmt x)
of_statement x y e = subst (λ d. IsKept (roll-Stmt d)) e (subst MeaningKeeps (sym (meaning_of-roll (trees y))) (act_keeps y))

of_block : (x : Block-F Stmt Block Branch Handler) (y : Block-F KeptStmt KeptBlock KeptBranch KeptHandler) → block_trees y ≡ x → IsBlockKept (roll-Block x)
of_block x y e = subst (λ d. IsBlockKept (roll-Block d)) e (subst MeaningKeeps (sym (block_meaning-roll (block_trees y))) (block_keeps_all y))

of_branch : (x : Branch-F Stmt Block Branch Handler) (y : Branch-F KeptStmt KeptBlock KeptBranch KeptHandler) → map-Branch KeptStmt KeptBlock KeptBranch KeptHandler Stmt Block Branch Handler (λ e. e.0) (λ e. e.0) (λ e. e.0) (λ e. e.0) y ≡ x → IsBranchKept (roll-Branch x)
of_branch x y e = subst (λ d. IsBranchKept (roll-Branch d)) e (subst BranchKeeps (sym (branch_meaning-roll (map-Branch KeptStmt KeptBlock KeptBranch KeptHandler Stmt Block Branch Handler (λ e. e.0) (λ e. e.0) (λ e. e.0) (λ e. e.0) y))) (body_keeps y.statements))

of_handler : (x : Handler-F Stmt Block Branch Handler) (y : Handler-F KeptStmt KeptBlock KeptBranch KeptHandler) → map-Handler KeptStmt KeptBlock KeptBranch KeptHandler Stmt Block Branch Handler (λ e. e.0) (λ e. e.0) (λ e. e.0) (λ e. e.0) y ≡ x → IsHandlerKept (roll-Handler x)
of_handler x y e = subst (λ d. IsHandlerKept (roll-Handler d)) e (subst HandlerKeeps (sym (handling_of-roll (map-Handler KeptStmt KeptBlock KeptBranch KeptHandler Stmt Block Branch Handler (λ e. e.0) (λ e. e.0) (λ e. e.0) (λ e. e.0) y))) (body_keeps y.statements))

pub statement_keeps : (s : Stmt) → MeaningKeeps (meaning_of s)
statement_keeps = ind-Stmt IsKept IsBlockKept IsBranchKept IsHandlerKept of_statement of_block of_branch of_handler

pub block_keeps : (b : Block) → MeaningKeeps (block_meaning b)
block_keeps = ind-Block IsKept IsBlockKept IsBranchKept IsHandlerKept of_statement of_block of_branch of_handler

pub handler_keeps : (h : Handler) → HandlerKeeps (handling_of h)
handler_keeps = ind-Handler IsKept IsBlockKept IsBranchKept IsHandlerKept of_statement of_block of_branch of_handler
