-- What the code of statements and blocks does is what they do.
use Rattle.std.proofs.Common.{◌≡◌, ℕ, if◌then◌else◌, List, [], ◌∷◌, ◌++◌, map, Option, Some, None, refl, sym, ap, ◌∙◌, subst}
use Rattle.std.specs.Prelude.{nat_lt, ◌-◌}
use Rattle.ebr_base.specs.declared.code.Code.{Code}
use Rattle.ebr_base.specs.declared.value.Value.{Value}
use Rattle.ebr_exprtree.specs.declared.expression.Expr.{Expr}
use Rattle.ebr_ast.specs.declared.statement.Block.{Block}
use Rattle.ebr_ast.specs.declared.statement.Branch.{Branch}
use Rattle.ebr_ast.specs.declared.statement.Handler.{Handler}
use Rattle.ebr_ast.specs.declared.statement.Stmt.{Stmt}
use Rattle.ebr_ast.specs.declared.statement.Stmt.TheOpen.{Stmt-F, Block-F, Branch-F, Handler-F}
use Rattle.ebr_ast.specs.declared.statement.Stmt.TheOpen as stmt
use Rattle.ebr_ast.specs.declared.statement.Stmt.TheViews.{roll-Stmt, roll-Block, roll-Branch, roll-Handler}
use Rattle.ebr_ast.specs.declared.statement.Stmt.TheFolds.{fold-Branch, fold-roll-Stmt, fold-roll-Block, fold-roll-Branch, fold-roll-Handler, map-Stmt, map-Block, map-Branch, map-Handler, ind-Stmt, ind-Block, ind-Handler, claims}
use Rattle.ebr_ast.specs.declared.statement.Stmt.TheBlock.{the_family, member-Stmt, member-Block, member-Branch, member-Handler}
use denote.Hole.Holds.{Such}
use Rattle.ebr_value.specs.Texts.{printed}
use Rattle.ebr_run.specs.State.{State, Row, Exit, Continue, Returned, bare, ended, with_operands, done, raises, no_room, room_of, line}
use Rattle.ebr_run.specs.Scope.{Env, application_error}
use Rattle.ebr_run.specs.Values.{unfit, when_fit}
use Rattle.ebr_run.specs.Expressions.{Calls}
use Rattle.ebr_run.specs.Statements.{Meaning, Handling, target_place, assigned, give, while_true, source_of, act, in_block, with_decls, branch, handler, meaning_of, block_meaning, handling_of}
use Rattle.ebr_code.specs.declared.instruction.Instruction.{Do}
use Rattle.ebr_code.specs.declared.instruction.Operation.TheVariants as does
use Rattle.ebr_code.specs.Instructions.{run}
use Rattle.ebr_code.specs.Codes.{Coded, all, store_code, give_code, while_code, guarded_code, stmt_codes, block_codes, branch_codes, handler_codes, stmt_code, block_code, handler_code}
use Rattle.ebr_code.specs.Codes as codes
use Rattle.ebr_laws.proofs.Lists.{first_does, only_does}
use Rattle.ebr_laws.proofs.Readings.{reading_same}
use Rattle.ebr_laws.proofs.Targets.{store_same, call_same, raise_same}
use Rattle.ebr_laws.proofs.Requests.{sql_same, cursor_same}
use Rattle.ebr_laws.proofs.Flow.{SameMeaning, AllSame, no_statement, statement_more, body_same, SameBranch, AllBranches, no_branch, branch_more, choose_same, leave_same, loop_same, while_same, range_same, rows_same}
use Rattle.ebr_laws.proofs.Blocks.{SameHandler, AllHandle, no_handler, handler_more, declared_same, guarded_same}

-- ---- PUT_LINE and RETURN

no_room_beneath : (r : Option Row) (vs : List Value) (σ : State) → no_room r σ ≡ no_room r (with_operands vs σ)
no_room_beneath None vs σ = refl
no_room_beneath (Some r) vs σ = refl

-- a line without operands
line_beneath : (l : List ℕ) (vs : List Value) (σ : State) → line l σ ≡ line l (with_operands vs σ)
line_beneath l vs σ =
    ap (λ o. if nat_lt σ.room (room_of σ.row l) then o else done (record σ { lines = σ.lines ++ l ∷ []; room = σ.room - room_of σ.row l })) (no_room_beneath σ.row vs σ)

-- a result without the operands beneath it
result_beneath : (c : Option Code) (v : Value) (vs : List Value) (σ : State)
    → when_fit c (λ υ. ended Returned (with_operands (v ∷ []) υ)) σ ≡ when_fit c (λ υ. ended Returned (with_operands (v ∷ []) υ)) (with_operands vs σ)
result_beneath None v vs σ = refl
result_beneath (Some c) v vs σ = refl

give_same : (e : Option Expr) (env : Env) (calls : Calls) (σ : State) → give e env calls σ ≡ run (give_code e env) calls (bare σ)
give_same None env calls σ = sym (only_does does.Return calls (bare σ))
give_same (Some e) env calls σ = reading_same e env calls σ [] (Do (does.Give env.result) ∷ []) _ (λ v τ.
    result_beneath (unfit env.result v) v [] τ ∙ sym (only_does (does.Give env.result) calls (with_operands (v ∷ []) τ)))

-- ---- statements

abbrev IsRead : Stmt → Type 0
IsRead s = SameMeaning (meaning_of s) (stmt_code s)

abbrev IsBlockRead : Block → Type 0
IsBlockRead b = SameMeaning (block_meaning b) (block_code b)

unfoldable branch_meaning : Branch → Expr × Meaning
branch_meaning = fold-Branch Meaning Meaning (Expr × Meaning) Handling act in_block branch handler

unfoldable branch_code : Branch → Expr × Coded
branch_code = fold-Branch Coded Coded (Expr × Coded) codes.Handling stmt_codes block_codes branch_codes handler_codes

abbrev IsBranchRead : Branch → Type 0
IsBranchRead b = SameBranch (branch_meaning b) (branch_code b)

abbrev IsHandlerRead : Handler → Type 0
IsHandlerRead h = SameHandler (handling_of h) (handler_code h)

abbrev ReadStmt : Type 0
ReadStmt = Such the_family (claims IsRead IsBlockRead IsBranchRead IsHandlerRead) member-Stmt

abbrev ReadBlock : Type 0
ReadBlock = Such the_family (claims IsRead IsBlockRead IsBranchRead IsHandlerRead) member-Block

abbrev ReadBranch : Type 0
ReadBranch = Such the_family (claims IsRead IsBlockRead IsBranchRead IsHandlerRead) member-Branch

abbrev ReadHandler : Type 0
ReadHandler = Such the_family (claims IsRead IsBlockRead IsBranchRead IsHandlerRead) member-Handler

all_statements : (l : List ReadStmt) → AllSame (map meaning_of (map (λ e. e.0) l)) (map stmt_code (map (λ e. e.0) l))
all_statements [] = no_statement
all_statements (e ∷ l) = statement_more e.1 (all_statements l)

all_branches : (l : List ReadBranch) → AllBranches (map branch_meaning (map (λ e. e.0) l)) (map branch_code (map (λ e. e.0) l))
all_branches [] = no_branch
all_branches (e ∷ l) = branch_more e.1 (all_branches l)

all_handlers : (l : List ReadHandler) → AllHandle (map handling_of (map (λ e. e.0) l)) (map handler_code (map (λ e. e.0) l))
all_handlers [] = no_handler
all_handlers (e ∷ l) = handler_more e.1 (all_handlers l)

abbrev meanings : Stmt-F Stmt Block Branch Handler → Meaning
meanings d = act (map-Stmt Stmt Block Branch Handler Meaning Meaning (Expr × Meaning) Handling meaning_of block_meaning branch_meaning handling_of d)

abbrev coded : Stmt-F Stmt Block Branch Handler → Coded
coded d = stmt_codes (map-Stmt Stmt Block Branch Handler Coded Coded (Expr × Coded) codes.Handling stmt_code block_code branch_code handler_code d)

abbrev trees : Stmt-F ReadStmt ReadBlock ReadBranch ReadHandler → Stmt-F Stmt Block Branch Handler
trees y = map-Stmt ReadStmt ReadBlock ReadBranch ReadHandler Stmt Block Branch Handler (λ e. e.0) (λ e. e.0) (λ e. e.0) (λ e. e.0) y

act_same : (y : Stmt-F ReadStmt ReadBlock ReadBranch ReadHandler) → SameMeaning (meanings (trees y)) (coded (trees y))
act_same stmt.Null = record { by = λ env calls σ. refl }
act_same (stmt.Assign t e) = record {
  by = λ env calls σ. reading_same e env calls (bare σ) [] (store_code (target_place env t)) (λ v. assigned (target_place env t) v calls done) (λ v τ. store_same (target_place env t) v calls τ);
}
act_same (stmt.Block b) = b.1
act_same (stmt.Return e) = record { by = λ env calls σ. give_same e env calls (bare σ) }
act_same (stmt.Raise path) = record { by = λ env calls σ. raise_same path env calls σ }
act_same (stmt.If bs a) = record { by = λ env calls σ. choose_same 0 (all_branches bs) _ _ (body_same (all_statements a)) env calls σ }
act_same (stmt.Loop a) = record { by = λ env calls σ. loop_same done _ [] _ calls (λ τ. refl) ((body_same (all_statements a)).by env calls) (bare σ) }
act_same (stmt.While e a) = record { by = λ env calls σ. loop_same (while_true e env calls) _ (while_code e env) _ calls (while_same e env calls) ((body_same (all_statements a)).by env calls) (bare σ) }
act_same (stmt.ForRange r a) = record { by = λ env calls σ. range_same r _ _ (body_same (all_statements a)) env calls (bare σ) }
act_same (stmt.ForRows r a) = record { by = λ env calls σ. rows_same (source_of r.from env) r _ _ (body_same (all_statements a)) env calls (bare σ) }
act_same (stmt.Exit e) = record { by = λ env calls σ. leave_same Exit does.Exit (λ calls τ. refl) e env calls (bare σ) }
act_same (stmt.Continue e) = record { by = λ env calls σ. leave_same Continue does.Continue (λ calls τ. refl) e env calls (bare σ) }
act_same (stmt.Call path es) = record { by = λ env calls σ. call_same path es env calls (bare σ) }
act_same (stmt.Sql s) = record { by = λ env calls σ. sql_same s env calls (bare σ) }
act_same (stmt.Cursor c) = record { by = λ env calls σ. cursor_same c env calls (bare σ) }
act_same (stmt.PutLine e) = record {
  by = λ env calls σ.
      reading_same e env calls (bare σ) [] (Do does.PutLine ∷ []) (λ v. line (printed v)) (λ v τ. line_beneath (printed v) [] τ ∙ sym (only_does does.PutLine calls (with_operands (v ∷ []) τ)));
}
act_same (stmt.RaiseApplicationError k e) = record {
  by = λ env calls σ.
      reading_same e env calls (bare σ) [] (Do does.Drop ∷ Do (does.Raise (application_error k)) ∷ []) (λ text. raises (application_error k)) (λ v τ.
      sym (first_does does.Drop (Do (does.Raise (application_error k)) ∷ []) calls (with_operands (v ∷ []) τ) ∙ only_does (does.Raise (application_error k)) calls (bare τ)));
}

-- ---- blocks, branches and handlers

abbrev block_trees : Block-F ReadStmt ReadBlock ReadBranch ReadHandler → Block-F Stmt Block Branch Handler
block_trees y = map-Block ReadStmt ReadBlock ReadBranch ReadHandler Stmt Block Branch Handler (λ e. e.0) (λ e. e.0) (λ e. e.0) (λ e. e.0) y

abbrev block_meanings : Block-F Stmt Block Branch Handler → Meaning
block_meanings d = in_block (map-Block Stmt Block Branch Handler Meaning Meaning (Expr × Meaning) Handling meaning_of block_meaning branch_meaning handling_of d)

abbrev block_coded : Block-F Stmt Block Branch Handler → Coded
block_coded d = block_codes (map-Block Stmt Block Branch Handler Coded Coded (Expr × Coded) codes.Handling stmt_code block_code branch_code handler_code d)

block_same : (y : Block-F ReadStmt ReadBlock ReadBranch ReadHandler) → SameMeaning (block_meanings (block_trees y)) (block_coded (block_trees y))
block_same y = record {
  by = λ env calls σ.
      let e = with_decls y.declarations env in
      declared_same y.declarations env calls _ (guarded_code _ _ e) (λ τ. guarded_same (all_statements y.statements) (all_handlers y.handlers) e calls (bare τ)) σ;
}

-- ---- one layer of a tree

meaning_of-roll : (d : Stmt-F Stmt Block Branch Handler) → meaning_of (roll-Stmt d) ≡ meanings d
unfolding meaning_of block_meaning branch_meaning handling_of
meaning_of-roll d = fold-roll-Stmt Meaning Meaning (Expr × Meaning) Handling act in_block branch handler d

stmt_code-roll : (d : Stmt-F Stmt Block Branch Handler) → stmt_code (roll-Stmt d) ≡ coded d
unfolding stmt_code block_code branch_code handler_code
stmt_code-roll d = fold-roll-Stmt Coded Coded (Expr × Coded) codes.Handling stmt_codes block_codes branch_codes handler_codes d

block_meaning-roll : (d : Block-F Stmt Block Branch Handler) → block_meaning (roll-Block d) ≡ block_meanings d
unfolding meaning_of block_meaning branch_meaning handling_of
block_meaning-roll d = fold-roll-Block Meaning Meaning (Expr × Meaning) Handling act in_block branch handler d

block_code-roll : (d : Block-F Stmt Block Branch Handler) → block_code (roll-Block d) ≡ block_coded d
unfolding stmt_code block_code branch_code handler_code
block_code-roll d = fold-roll-Block Coded Coded (Expr × Coded) codes.Handling stmt_codes block_codes branch_codes handler_codes d

branch_meaning-roll : (d : Branch-F Stmt Block Branch Handler) → branch_meaning (roll-Branch d) ≡ branch (map-Branch Stmt Block Branch Handler Meaning Meaning (Expr × Meaning) Handling meaning_of block_meaning branch_meaning handling_of d)
unfolding meaning_of block_meaning branch_meaning handling_of
branch_meaning-roll d = fold-roll-Branch Meaning Meaning (Expr × Meaning) Handling act in_block branch handler d

branch_code-roll : (d : Branch-F Stmt Block Branch Handler) → branch_code (roll-Branch d) ≡ branch_codes (map-Branch Stmt Block Branch Handler Coded Coded (Expr × Coded) codes.Handling stmt_code block_code branch_code handler_code d)
unfolding stmt_code block_code branch_code handler_code
branch_code-roll d = fold-roll-Branch Coded Coded (Expr × Coded) codes.Handling stmt_codes block_codes branch_codes handler_codes d

handling_of-roll : (d : Handler-F Stmt Block Branch Handler) → handling_of (roll-Handler d) ≡ handler (map-Handler Stmt Block Branch Handler Meaning Meaning (Expr × Meaning) Handling meaning_of block_meaning branch_meaning handling_of d)
unfolding meaning_of block_meaning branch_meaning handling_of
handling_of-roll d = fold-roll-Handler Meaning Meaning (Expr × Meaning) Handling act in_block branch handler d

handler_code-roll : (d : Handler-F Stmt Block Branch Handler) → handler_code (roll-Handler d) ≡ handler_codes (map-Handler Stmt Block Branch Handler Coded Coded (Expr × Coded) codes.Handling stmt_code block_code branch_code handler_code d)
unfolding stmt_code block_code branch_code handler_code
handler_code-roll d = fold-roll-Handler Coded Coded (Expr × Coded) codes.Handling stmt_codes block_codes branch_codes handler_codes d

branch_same : (y : Branch-F ReadStmt ReadBlock ReadBranch ReadHandler) → IsBranchRead (roll-Branch (map-Branch ReadStmt ReadBlock ReadBranch ReadHandler Stmt Block Branch Handler (λ e. e.0) (λ e. e.0) (λ e. e.0) (λ e. e.0) y))
branch_same y =
    let d = map-Branch ReadStmt ReadBlock ReadBranch ReadHandler Stmt Block Branch Handler (λ e. e.0) (λ e. e.0) (λ e. e.0) (λ e. e.0) y in
    let c = branch_codes (map-Branch Stmt Block Branch Handler Coded Coded (Expr × Coded) codes.Handling stmt_code block_code branch_code handler_code d) in
    subst (SameBranch (branch_meaning (roll-Branch d))) (sym (branch_code-roll d))
    (subst (λ m. SameBranch m c) (sym (branch_meaning-roll d)) (record { condition = refl; body = body_same (all_statements y.statements) }))

handler_same : (y : Handler-F ReadStmt ReadBlock ReadBranch ReadHandler) → IsHandlerRead (roll-Handler (map-Handler ReadStmt ReadBlock ReadBranch ReadHandler Stmt Block Branch Handler (λ e. e.0) (λ e. e.0) (λ e. e.0) (λ e. e.0) y))
handler_same y =
    let d = map-Handler ReadStmt ReadBlock ReadBranch ReadHandler Stmt Block Branch Handler (λ e. e.0) (λ e. e.0) (λ e. e.0) (λ e. e.0) y in
    let c = handler_codes (map-Handler Stmt Block Branch Handler Coded Coded (Expr × Coded) codes.Handling stmt_code block_code branch_code handler_code d) in
    subst (SameHandler (handling_of (roll-Handler d))) (sym (handler_code-roll d))
    (subst (λ m. SameHandler m c) (sym (handling_of-roll d)) (record { caught = refl; body = body_same (all_statements y.statements) }))

rolled : (d : Stmt-F Stmt Block Branch Handler) → SameMeaning (meanings d) (coded d) → IsRead (roll-Stmt d)
rolled d s = subst (SameMeaning (meaning_of (roll-Stmt d))) (sym (stmt_code-roll d)) (subst (λ m. SameMeaning m (coded d)) (sym (meaning_of-roll d)) s)

rolled_block : (d : Block-F Stmt Block Branch Handler) → SameMeaning (block_meanings d) (block_coded d) → IsBlockRead (roll-Block d)
rolled_block d s = subst (SameMeaning (block_meaning (roll-Block d))) (sym (block_code-roll d)) (subst (λ m. SameMeaning m (block_coded d)) (sym (block_meaning-roll d)) s)

-- ---- all statements, blocks and handlers

of_statement : (x : Stmt-F Stmt Block Branch Handler) (y : Stmt-F ReadStmt ReadBlock ReadBranch ReadHandler) → trees y ≡ x → IsRead (roll-Stmt x)
of_statement x y e = subst (λ d. IsRead (roll-Stmt d)) e (rolled (trees y) (act_same y))

of_block : (x : Block-F Stmt Block Branch Handler) (y : Block-F ReadStmt ReadBlock ReadBranch ReadHandler) → block_trees y ≡ x → IsBlockRead (roll-Block x)
of_block x y e = subst (λ d. IsBlockRead (roll-Block d)) e (rolled_block (block_trees y) (block_same y))

of_branch : (x : Branch-F Stmt Block Branch Handler) (y : Branch-F ReadStmt ReadBlock ReadBranch ReadHandler) → map-Branch ReadStmt ReadBlock ReadBranch ReadHandler Stmt Block Branch Handler (λ e. e.0) (λ e. e.0) (λ e. e.0) (λ e. e.0) y ≡ x → IsBranchRead (roll-Branch x)
of_branch x y e = subst (λ d. IsBranchRead (roll-Branch d)) e (branch_same y)

of_handler : (x : Handler-F Stmt Block Branch Handler) (y : Handler-F ReadStmt ReadBlock ReadBranch ReadHandler) → map-Handler ReadStmt ReadBlock ReadBranch ReadHandler Stmt Block Branch Handler (λ e. e.0) (λ e. e.0) (λ e. e.0) (λ e. e.0) y ≡ x → IsHandlerRead (roll-Handler x)
of_handler x y e = subst (λ d. IsHandlerRead (roll-Handler d)) e (handler_same y)

pub statement_read : (s : Stmt) → SameMeaning (meaning_of s) (stmt_code s)
statement_read = ind-Stmt IsRead IsBlockRead IsBranchRead IsHandlerRead of_statement of_block of_branch of_handler

pub block_read : (b : Block) → SameMeaning (block_meaning b) (block_code b)
block_read = ind-Block IsRead IsBlockRead IsBranchRead IsHandlerRead of_statement of_block of_branch of_handler

pub handler_read : (h : Handler) → SameHandler (handling_of h) (handler_code h)
handler_read = ind-Handler IsRead IsBlockRead IsBranchRead IsHandlerRead of_statement of_block of_branch of_handler

-- What a statement does is what its code does.
pub statement_same : (s : Stmt) (env : Env) (calls : Calls) (σ : State) → meaning_of s env calls (bare σ) ≡ run (stmt_code s env) calls (bare σ)
statement_same s = (statement_read s).by

-- What a block does is what its code does.
pub block_does : (b : Block) (env : Env) (calls : Calls) (σ : State) → block_meaning b env calls (bare σ) ≡ run (block_code b env) calls (bare σ)
block_does b = (block_read b).by

pub all_statements_read : (ss : List Stmt) → AllSame (map meaning_of ss) (map stmt_code ss)
all_statements_read [] = no_statement
all_statements_read (s ∷ ss) = statement_more (statement_read s) (all_statements_read ss)

pub all_handlers_read : (hs : List Handler) → AllHandle (map handling_of hs) (map handler_code hs)
all_handlers_read [] = no_handler
all_handlers_read (h ∷ hs) = handler_more (handler_read h) (all_handlers_read hs)
