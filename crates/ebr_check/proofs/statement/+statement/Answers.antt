use Rattle.std.proofs.Common.{◌≡◌, ◌+◌, ◌∷◌, ◌++◌, [], Some, drop, map, refl, sym, subst, ◌∙◌, arith, rules}
use Rattle.std.proofs.lemmas.Result.{on_ok_weaker}
use Rattle.std.proofs.lemmas.Grind.{common_steps}
use Rattle.ebr_ast.specs.declared.statement.Stmt.TheViews.{the_lemmas}
use Rattle.ebr_sqlcheck.specs.declared.value_type.ValueType.TheVariants as type
use Rattle.ebr_scope.specs.Meanings.{Constant, Record, entry, with_fields}
use Rattle.ebr_scope.specs.Lent.{env}
use Rattle.ebr_validity.specs.Sites.{Loops}
use Rattle.ebr_rules.proofs.Laws.{noted_append, more}
use Rattle.ebr_validity.specs.Statements.{in_statement, in_branch, in_handler, inside_of, each, range_sites, rows_sites, rows_fields}
use Rattle.ebr_check.proofs.Laws.{statement-out, branch-out, handler-out}
use Rattle.ebr_check.proofs.Blocks.{block_noted, loop_noted, handlers_noted}
use Rattle.ebr_check.proofs.Within.{IsWithin, cut_back, decls_within, one}
use Rattle.ebr_check.proofs.statement.+statement.Goals as goal

pub statements-loop-it-preserved : goal.statements-loop-it-preserved
statements-loop-it-preserved t c =
    let e : drop c.loop-it.it-index c.as_slice-it-items.result.now ≡ c.it-item.result ∷ drop (c.loop-it.it-index + 1) c.as_slice-it-items.result.now = grind (arith, common_steps) in
    record {
      least = more (λ xs. each (map in_statement xs) (env c.args.place.now c.args.known.now)) (λ x. in_statement x (env c.args.place.now c.args.known.now)) (λ x xs. refl) _ _ _ _ _ _ e c.loop-it.invariant.least (search rules);
      known = search rules;
    }

pub branches-loop-it-preserved : goal.branches-loop-it-preserved
branches-loop-it-preserved t c =
    let e : drop c.loop-it.it-index c.as_slice-it-items.result.now ≡ c.it-item.result ∷ drop (c.loop-it.it-index + 1) c.as_slice-it-items.result.now = grind (arith, common_steps) in
    record {
      least = more (λ xs. each (map in_branch xs) (env c.args.place.now c.args.known.now)) (λ x. in_branch x (env c.args.place.now c.args.known.now)) (λ x xs. refl) _ _ _ _ _ _ e c.loop-it.invariant.least (search rules);
      known = search rules;
    }

pub each_handler-loop-it-preserved : goal.each_handler-loop-it-preserved
each_handler-loop-it-preserved t c =
    let e : drop c.loop-it.it-index c.as_slice-it-items.result.now ≡ c.it-item.result ∷ drop (c.loop-it.it-index + 1) c.as_slice-it-items.result.now = grind (arith, common_steps) in
    record {
      least = more (λ xs. each (map inside_of (map in_handler xs)) (env c.args.place.now c.args.known.now)) (λ x. inside_of (in_handler x) (env c.args.place.now c.args.known.now)) (λ x xs. refl) _ _ _ _ _ _ e c.loop-it.invariant.least (search rules);
      known = search rules;
    }

pub statement-returns-in-Null-clause-least : goal.statement-returns-in-Null-clause-least
statement-returns-in-Null-clause-least t c = search (rules, the_lemmas, statement-out, noted_append)

pub statement-returns-in-Assign-clause-least : goal.statement-returns-in-Assign-clause-least
statement-returns-in-Assign-clause-least t c = search (rules, the_lemmas, statement-out, noted_append)

pub statement-returns-in-Block-clause-least : goal.statement-returns-in-Block-clause-least
statement-returns-in-Block-clause-least t c = search (rules, the_lemmas, statement-out, noted_append)

pub statement-returns-in-Return-clause-least : goal.statement-returns-in-Return-clause-least
statement-returns-in-Return-clause-least t c = search (rules, the_lemmas, statement-out, noted_append)

pub statement-returns-in-Raise-clause-least : goal.statement-returns-in-Raise-clause-least
statement-returns-in-Raise-clause-least t c = search (rules, the_lemmas, statement-out, noted_append)

pub statement-returns-in-Loop-clause-least : goal.statement-returns-in-Loop-clause-least
statement-returns-in-Loop-clause-least t c = search (rules, the_lemmas, statement-out, noted_append)

pub statement-returns-in-While-clause-least : goal.statement-returns-in-While-clause-least
statement-returns-in-While-clause-least t c = search (rules, the_lemmas, statement-out, noted_append)

pub statement-returns-in-Exit-clause-least : goal.statement-returns-in-Exit-clause-least
statement-returns-in-Exit-clause-least t c = search (rules, the_lemmas, statement-out, noted_append)

pub statement-returns-in-Continue-clause-least : goal.statement-returns-in-Continue-clause-least
statement-returns-in-Continue-clause-least t c = search (rules, the_lemmas, statement-out, noted_append)

pub statement-returns-in-Call-clause-least : goal.statement-returns-in-Call-clause-least
statement-returns-in-Call-clause-least t c = search (rules, the_lemmas, statement-out, noted_append)

pub statement-returns-in-Sql-clause-least : goal.statement-returns-in-Sql-clause-least
statement-returns-in-Sql-clause-least t c = search (rules, the_lemmas, statement-out, noted_append)

pub statement-returns-in-Cursor-clause-least : goal.statement-returns-in-Cursor-clause-least
statement-returns-in-Cursor-clause-least t c = search (rules, the_lemmas, statement-out, noted_append)

pub statement-returns-in-PutLine-clause-least : goal.statement-returns-in-PutLine-clause-least
statement-returns-in-PutLine-clause-least t c = search (rules, the_lemmas, statement-out, noted_append)

pub statement-returns-in-RaiseApplicationError-clause-least : goal.statement-returns-in-RaiseApplicationError-clause-least
statement-returns-in-RaiseApplicationError-clause-least t c = search (rules, the_lemmas, statement-out, noted_append)

pub statement-returns-in_ok-branches-in-If-clause-least : goal.statement-returns-in_ok-branches-in-If-clause-least
statement-returns-in_ok-branches-in-If-clause-least t c = search (rules, the_lemmas, statement-out, noted_append)

pub branch-returns-clause-least : goal.branch-returns-clause-least
branch-returns-clause-least t c = search (rules, the_lemmas, branch-out, noted_append)

pub handler-returns-clause-least : goal.handler-returns-clause-least
handler-returns-clause-least t c = search (rules, the_lemmas, handler-out, noted_append)

pub statement-returns-in-ForRange-clause-least : goal.statement-returns-in-ForRange-clause-least
statement-returns-in-ForRange-clause-least t c = search (rules, the_lemmas, statement-out)

pub statement-returns-in-ForRows-clause-least : goal.statement-returns-in-ForRows-clause-least
statement-returns-in-ForRows-clause-least t c = search (rules, the_lemmas, statement-out)

pub for_range-returns-clause-least : goal.for_range-returns-clause-least
for_range-returns-clause-least t c =
    loop_noted (range_sites c.args.range.now (env c.args.place.now c.args.known.now)) c.args.body.now c.args.place.now c.within_loop-inner.result
    c.args.known.now c.add_variable.new.known (entry c.args.range.now.name (Constant (Some type.Number)) ∷ c.args.known.now)
    c.args.least.now c.add_variable.new.least c.statements.new.least
    c.in_ok-add_variable.ensures.least c.in_ok-add_variable.ensures.known c.within_loop-inner.ensures c.in_ok-statements.ensures.least

pub for_range-returns-clause-known : goal.for_range-returns-clause-known
for_range-returns-clause-known t c =
    c.cut.ensures
    ∙ cut_back c.args.known.now c.statements.new.known c.depth-depth.result
    (subst (IsWithin c.args.known.now) (sym (c.in_ok-statements.ensures.known ∙ c.in_ok-add_variable.ensures.known)) (one _ c.args.known.now))
    c.depth-depth.ensures

pub for_rows-returns-clause-least : goal.for_rows-returns-clause-least
for_rows-returns-clause-least t c =
    loop_noted (rows_sites c.args.rows_of.now.from (env c.args.place.now c.args.known.now) ++ Loops (rows_fields c.args.rows_of.now.from (env c.args.place.now c.args.known.now)) ∷ [])
    c.args.body.now c.args.place.now c.within_loop-inner.result
    c.args.known.now c.add_record.new.known (with_fields c.args.rows_of.now.record Record (rows_fields c.args.rows_of.now.from (env c.args.place.now c.args.known.now)) ∷ c.args.known.now)
    c.args.least.now c.add_record.new.least c.statements.new.least
    c.in_ok-add_record.ensures.least c.in_ok-add_record.ensures.known c.within_loop-inner.ensures c.in_ok-statements.ensures.least

pub for_rows-returns-clause-known : goal.for_rows-returns-clause-known
for_rows-returns-clause-known t c =
    c.cut.ensures
    ∙ cut_back c.args.known.now c.statements.new.known c.depth-depth.result
    (subst (IsWithin c.args.known.now) (sym (c.in_ok-statements.ensures.known ∙ c.in_ok-add_record.ensures.known)) (one _ c.args.known.now))
    c.depth-depth.ensures

pub handlers-returns-clause-least : goal.handlers-returns-clause-least
handlers-returns-clause-least t c =
    on_ok_weaker c.each_handler.result
    (handlers_noted c.args.list.now c.as_slice.result.now (env c.args.place.now c.args.known.now) c.args.least.now c.handles.new.least c.each_handler.new.least
    c.as_slice.ensures c.in_ok-handles.ensures)
    c.each_handler.ensures.least

pub block-returns-clause-least : goal.block-returns-clause-least
block-returns-clause-least t c =
    block_noted c.args.it.now c.as_slice-list.result.now c.args.place.now c.within_block-inner.result c.args.known.now c.declarations.new.known c.statements.new.known
    c.args.least.now c.declares.new.least c.pragmas.new.least c.declarations.new.least c.statements.new.least c.handlers.new.least
    c.as_slice-list.ensures c.in_ok-declares.ensures c.in_ok-pragmas.ensures c.in_ok-declarations.ensures.least c.in_ok-declarations.ensures.known
    c.within_block-inner.ensures c.in_ok-statements.ensures.least c.in_ok-statements.ensures.known c.in_ok-handlers.ensures.least

pub block-returns-clause-known : goal.block-returns-clause-known
block-returns-clause-known t c =
    c.cut.ensures
    ∙ cut_back c.args.known.now c.handlers.new.known c.depth-depth.result
    (subst (IsWithin c.args.known.now) (sym (c.in_ok-handlers.ensures.known ∙ (c.in_ok-statements.ensures.known ∙ c.in_ok-declarations.ensures.known)))
    (decls_within c.as_slice-list.result.now (env c.args.place.now c.args.known.now)))
    c.depth-depth.ensures
