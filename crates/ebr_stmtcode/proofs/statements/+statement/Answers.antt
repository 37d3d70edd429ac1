use Rattle.std.proofs.Common.{◌≡◌, suc, ◌+◌, List, ◌∷◌, ◌++◌, [], drop, map, refl, ap, subst, ◌∙◌, IfOk, arith, rules, append_assoc, append-nil}
use Rattle.std.proofs.lemmas.Grind.{common_steps}
use Rattle.std.proofs.lemmas.Result.{on_ok_weaker}
use Rattle.ebr_ast.specs.declared.statement.Stmt.TheViews.{the_lemmas}
use Rattle.ebr_code.specs.declared.instruction.Instruction.{Instruction, Do}
use Rattle.ebr_code.specs.declared.instruction.Operation.TheVariants as does
use Rattle.ebr_run.specs.Scope.{Env, part, with_counter}
use Rattle.ebr_run.specs.Statements.{in_rows, with_decls}
use Rattle.ebr_code.specs.Codes.{all, stmt_code, handler_code, handlers_code}
use Rattle.ebr_stmtcode.specs.inside.Choices.{branch_code, choices, choice, handling}
use Rattle.ebr_stmtcode.specs.inside.Sources.{source}
use Rattle.ebr_exprcode.proofs.Laws.{more_with}
use Rattle.ebr_stmtcode.proofs.Blocks.{stmt_code-out, branch_code-out, chosen_is, guarded_is, block_is, handling_is}
use Rattle.ebr_stmtcode.proofs.Envs.{part_left, handler_left, marked_left, counter_within, rows_within, decls_within}
use Rattle.ebr_stmtcode.proofs.statements.+statement.Goals as goal

pub statement-returns-in-Null-clause-code : goal.statement-returns-in-Null-clause-code
statement-returns-in-Null-clause-code t c = search (rules, the_lemmas, stmt_code-out, append_assoc, append-nil)

pub statement-returns-in-Assign-clause-code : goal.statement-returns-in-Assign-clause-code
statement-returns-in-Assign-clause-code t c = search (rules, the_lemmas, stmt_code-out, append_assoc, append-nil)

pub statement-returns-in-Block-clause-code : goal.statement-returns-in-Block-clause-code
statement-returns-in-Block-clause-code t c = search (rules, the_lemmas, stmt_code-out, append_assoc, append-nil)

pub statement-returns-in-Return-clause-code : goal.statement-returns-in-Return-clause-code
statement-returns-in-Return-clause-code t c = search (rules, the_lemmas, stmt_code-out, append_assoc, append-nil)

pub statement-returns-in-Raise-clause-code : goal.statement-returns-in-Raise-clause-code
statement-returns-in-Raise-clause-code t c = search (rules, the_lemmas, stmt_code-out, append_assoc, append-nil)

pub statement-returns-in-ForRange-clause-code : goal.statement-returns-in-ForRange-clause-code
statement-returns-in-ForRange-clause-code t c = search (rules, the_lemmas, stmt_code-out, append_assoc, append-nil)

pub statement-returns-in-ForRows-clause-code : goal.statement-returns-in-ForRows-clause-code
statement-returns-in-ForRows-clause-code t c = search (rules, the_lemmas, stmt_code-out, append_assoc, append-nil)

pub statement-returns-in-Exit-clause-code : goal.statement-returns-in-Exit-clause-code
statement-returns-in-Exit-clause-code t c = search (rules, the_lemmas, stmt_code-out, append_assoc, append-nil)

pub statement-returns-in-Continue-clause-code : goal.statement-returns-in-Continue-clause-code
statement-returns-in-Continue-clause-code t c = search (rules, the_lemmas, stmt_code-out, append_assoc, append-nil)

pub statement-returns-in-Call-clause-code : goal.statement-returns-in-Call-clause-code
statement-returns-in-Call-clause-code t c = search (rules, the_lemmas, stmt_code-out, append_assoc, append-nil)

pub statement-returns-in-Sql-clause-code : goal.statement-returns-in-Sql-clause-code
statement-returns-in-Sql-clause-code t c = search (rules, the_lemmas, stmt_code-out, append_assoc, append-nil)

pub statement-returns-in-Cursor-clause-code : goal.statement-returns-in-Cursor-clause-code
statement-returns-in-Cursor-clause-code t c = search (rules, the_lemmas, stmt_code-out, append_assoc, append-nil)

pub statement-returns-in-PutLine-clause-code : goal.statement-returns-in-PutLine-clause-code
statement-returns-in-PutLine-clause-code t c = search (rules, the_lemmas, stmt_code-out, append_assoc, append-nil)

pub statement-returns-in-RaiseApplicationError-clause-code : goal.statement-returns-in-RaiseApplicationError-clause-code
statement-returns-in-RaiseApplicationError-clause-code t c = search (rules, the_lemmas, stmt_code-out, append_assoc, append-nil)

pub statement-returns-in_ok-otherwise-in-If-clause-code : goal.statement-returns-in_ok-otherwise-in-If-clause-code
unfolding stmt_code
statement-returns-in_ok-otherwise-in-If-clause-code t c = search (rules, the_lemmas, stmt_code-out, append_assoc, append-nil, chosen_is)

pub branch-returns-clause-choice : goal.branch-returns-clause-choice
branch-returns-clause-choice t c = search (rules, branch_code-out)

pub steps-loop-at-preserved : goal.steps-loop-at-preserved
steps-loop-at-preserved t c =
    let e : drop c.loop-at.at c.as_slice-it-items.result.now ≡ c.it-item.result ∷ drop (c.loop-at.at + 1) c.as_slice-it-items.result.now = grind (arith, common_steps) in
    record {
      code = more_with (λ at xs. all at (map stmt_code xs) c.args.around.now) (λ at x. Do does.Step ∷ stmt_code x (part at c.args.around.now)) (λ at x. suc at) (λ s x xs. refl) _ _ _ _ _ _ _ _ e c.loop-at.invariant.code (search rules) (search rules);
      around = search rules;
    }

pub choices-loop-at-preserved : goal.choices-loop-at-preserved
choices-loop-at-preserved t c =
    let e : drop c.loop-at.at c.as_slice-it-items.result.now ≡ c.it-item.result ∷ drop (c.loop-at.at + 1) c.as_slice-it-items.result.now = grind (arith, common_steps) in
    record {
      choices = more_with (λ at xs. choices at (map branch_code xs) c.args.around.now) (λ at x. choice at (branch_code x) c.args.around.now ∷ []) (λ at x. suc at) (λ s x xs. refl) _ _ _ _ _ _ _ _ e c.loop-at.invariant.choices (search rules) (search rules);
      around = search rules;
    }

pub handlers-loop-at-preserved : goal.handlers-loop-at-preserved
handlers-loop-at-preserved t c =
    let e : drop c.loop-at.at c.as_slice-it-items.result.now ≡ c.it-item.result ∷ drop (c.loop-at.at + 1) c.as_slice-it-items.result.now = grind (arith, common_steps) in
    record {
      handlers = more_with (λ at xs. handlers_code at (map handler_code xs) c.args.around.now) (λ at x. handling at (handler_code x) c.args.around.now ∷ []) (λ at x. suc at) (λ s x xs. refl) _ _ _ _ _ _ _ _ e c.loop-at.invariant.handlers (search rules) (search rules);
      around = search rules;
    }

pub statement-returns-in_ok-body-in-Loop-clause-code : goal.statement-returns-in_ok-body-in-Loop-clause-code
statement-returns-in_ok-body-in-Loop-clause-code t c = search (rules, the_lemmas, stmt_code-out, append_assoc, append-nil)

pub statement-returns-in_ok-body-in-While-clause-code : goal.statement-returns-in_ok-body-in-While-clause-code
unfolding stmt_code
statement-returns-in_ok-body-in-While-clause-code t c = search (rules, the_lemmas, stmt_code-out, append_assoc, append-nil)

pub step-returns-clause-code : goal.step-returns-clause-code
step-returns-clause-code t c =
    on_ok_weaker c.statement-done.result
    (λ e. e
    ∙ ap (λ (xs : List Instruction). xs ++ stmt_code c.args.it.now c.begin.new.around) c.in_ok-begin.ensures.code
    ∙ append_assoc c.args.out.now (Do does.Step ∷ []) (stmt_code c.args.it.now c.begin.new.around)
    ∙ ap (λ (x : Env). c.args.out.now ++ Do does.Step ∷ stmt_code c.args.it.now x) c.in_ok-begin.ensures.around)
    c.statement-done.ensures.code

pub step-returns-clause-around : goal.step-returns-clause-around
step-returns-clause-around t c =
    on_ok_weaker c.statement-done.result
    (λ e. part_left c.args.at c.args.around.now c.begin.new.around c.statement-done.new.around c.leave_part.new.self c.in_ok-begin.ensures.around e c.leave_part.ensures)
    c.statement-done.ensures.around

pub body_at-returns-clause-code : goal.body_at-returns-clause-code
body_at-returns-clause-code t c =
    subst (λ (x : Env). IfOk c.statements-code.result (λ code. code ≡ all 0 (map stmt_code c.args.list.now) x)) c.in_ok-enter_part.ensures c.statements-code.ensures.code

pub body_at-returns-clause-around : goal.body_at-returns-clause-around
body_at-returns-clause-around t c =
    on_ok_weaker c.statements-code.result
    (λ e. part_left c.args.at c.args.around.now c.enter_part.new.self c.statements-code.new.around c.leave_part.new.self c.in_ok-enter_part.ensures e c.leave_part.ensures)
    c.statements-code.ensures.around

pub otherwise_of-returns-clause-code : goal.otherwise_of-returns-clause-code
otherwise_of-returns-clause-code t c =
    subst (λ (x : Env). IfOk c.steps-code.result (λ code. code ≡ all 0 (map stmt_code c.args.list.now) x)) c.in_ok-enter_part.ensures c.steps-code.ensures.code

pub otherwise_of-returns-clause-around : goal.otherwise_of-returns-clause-around
otherwise_of-returns-clause-around t c =
    on_ok_weaker c.steps-code.result
    (λ e. part_left 0 c.args.around.now c.enter_part.new.self c.steps-code.new.around c.leave_part.new.self c.in_ok-enter_part.ensures e c.leave_part.ensures)
    c.steps-code.ensures.around

pub counted-returns-clause-code : goal.counted-returns-clause-code
counted-returns-clause-code t c =
    subst (λ (x : Env). IfOk c.statements-code.result (λ code. code ≡ all 0 (map stmt_code c.args.list.now) x)) c.in_ok-add_counter.ensures c.statements-code.ensures.code

pub counted-returns-clause-around : goal.counted-returns-clause-around
counted-returns-clause-around t c =
    on_ok_weaker c.statements-code.result
    (λ e. marked_left c.args.around.now (with_counter c.args.name.now c.args.around.now) c.add_counter.new.self c.statements-code.new.around c.back.new.self c.mark-mark.result
    c.mark-mark.ensures (counter_within c.args.name.now c.args.around.now) c.in_ok-add_counter.ensures e c.back.ensures)
    c.statements-code.ensures.around

pub over_rows-returns-clause-code : goal.over_rows-returns-clause-code
over_rows-returns-clause-code t c =
    subst (λ (x : Env). IfOk c.statements-code.result (λ code. code ≡ all 0 (map stmt_code c.args.list.now) x)) c.in_ok-enter_rows.ensures c.statements-code.ensures.code

pub over_rows-returns-clause-around : goal.over_rows-returns-clause-around
over_rows-returns-clause-around t c =
    on_ok_weaker c.statements-code.result
    (λ e. marked_left c.args.around.now (in_rows c.args.name.now (source c.args.from.now) c.args.around.now) c.enter_rows.new.around c.statements-code.new.around c.back.new.self c.mark-mark.result
    c.mark-mark.ensures (rows_within c.args.name.now (source c.args.from.now) c.args.around.now) c.in_ok-enter_rows.ensures e c.back.ensures)
    c.statements-code.ensures.around

pub handler-returns-clause-around : goal.handler-returns-clause-around
handler-returns-clause-around t c =
    handler_left (suc c.args.at) c.args.around.now c.enter_handler.new.around c.statements.new.around c.leave_handler.new.self c.leave_part.new.self
    c.in_ok-enter_handler.ensures c.in_ok-body.ensures.around c.leave_handler.ensures c.leave_part.ensures

pub handler-returns-clause-handler : goal.handler-returns-clause-handler
handler-returns-clause-handler t c =
    handling_is c.args.it.now c.args.at c.args.around.now c.enter_handler.new.around c.leave_part.new.self c.in_ok-body.body c.in_ok-caught.caught
    c.in_ok-enter_handler.ensures c.in_ok-body.ensures.code
    (handler_left (suc c.args.at) c.args.around.now c.enter_handler.new.around c.statements.new.around c.leave_handler.new.self c.leave_part.new.self
    c.in_ok-enter_handler.ensures c.in_ok-body.ensures.around c.leave_handler.ensures c.leave_part.ensures)
    c.in_ok-caught.ensures

pub guarded_block-returns-clause-code : goal.guarded_block-returns-clause-code
guarded_block-returns-clause-code t c =
    on_ok_weaker c.guard.result
    (λ e. guarded_is c.args.it.now c.args.around.now c.body_at.new.around c.handlers.new.around c.args.out.now c.guard.new.out c.in_ok-body.body c.handlers-2.result c.in_ok-found.found
    c.in_ok-body.ensures.code c.in_ok-body.ensures.around c.in_ok-found.ensures.handlers c.in_ok-found.ensures.around c.handlers-2.ensures e)
    c.guard.ensures

pub guarded_block-returns-clause-around : goal.guarded_block-returns-clause-around
guarded_block-returns-clause-around t c = on_ok_weaker c.guard.result (λ e. c.in_ok-found.ensures.around ∙ c.in_ok-body.ensures.around) c.guard.ensures

pub block-returns-clause-code : goal.block-returns-clause-code
block-returns-clause-code t c =
    on_ok_weaker c.guarded_block-done.result
    (λ e. block_is c.args.it.now c.args.around.now c.declarations.new.around c.as_slice.result.now c.args.out.now c.declarations.new.out c.guarded_block-done.new.out
    c.as_slice.ensures c.in_ok-declarations.ensures.code c.in_ok-declarations.ensures.around e)
    c.guarded_block-done.ensures.code

pub block-returns-clause-around : goal.block-returns-clause-around
block-returns-clause-around t c =
    on_ok_weaker c.guarded_block-done.result
    (λ e. marked_left c.args.around.now (with_decls c.as_slice.result.now c.args.around.now) c.declarations.new.around c.guarded_block-done.new.around c.back.new.self c.mark-mark.result
    c.mark-mark.ensures (decls_within c.as_slice.result.now c.args.around.now) c.in_ok-declarations.ensures.around e c.back.ensures)
    c.guarded_block-done.ensures.around
