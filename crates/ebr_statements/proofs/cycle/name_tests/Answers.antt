use Rattle.std.proofs.Common.{◌∙◌, sym, ap}
use Rattle.std.specs.List.{list_any}
use Rattle.std.proofs.lemmas.Result.{err_from_is_err_and}
use Rattle.ebr_exec.specs.Places.{is_changing}
use Rattle.ebr_statements.proofs.Naming.{none_mutating, some_mutating, unchecked}
use Rattle.ebr_statements.proofs.cycle.name_tests.Goals as goal

pub returns-in_err-check_sql-clause-answer : goal.returns-in_err-check_sql-clause-answer
returns-in_err-check_sql-clause-answer c = λ names p seen own around.
    let e = err_from_is_err_and c.from_residual.result c.from_residual.ensures.1 in
    rw (e.1, e.2) (unchecked names p c.args.v.now c.args.t c.args.changing.now c.args.s.now c.args.binds.now seen own around c.in_err-check_sql.field-0.0 c.in_err-check_sql.ensures)

pub returns-in_err-tables-clause-answer : goal.returns-in_err-tables-clause-answer
returns-in_err-tables-clause-answer c = λ names p seen own around.
    let e = err_from_is_err_and c.from_residual-in_err-tables.result c.from_residual-in_err-tables.ensures.1 in
    rw (e.1, e.2) tt

pub returns-then-is_mutating-clause-answer : goal.returns-then-is_mutating-clause-answer
returns-then-is_mutating-clause-answer c = λ names p seen own around.
    some_mutating names p c.args.v.now c.args.t c.args.changing.now c.args.s.now c.args.binds.now seen own around _ c.in_ok-check_sql.ensures
    (ap (λ ts. list_any (is_changing c.args.t ts) c.args.changing.now) (sym (c.as_slice.ensures ∙ c.in_ok-tables.ensures)) ∙ sym c.is_mutating.ensures ∙ c.if-is_mutating.true)

pub returns-clause-answer : goal.returns-clause-answer
returns-clause-answer c = λ names p seen own around.
    none_mutating names p c.args.v.now c.args.t c.args.changing.now c.args.s.now c.args.binds.now seen own around _ c.in_ok-check_sql.ensures
    (ap (λ ts. list_any (is_changing c.args.t ts) c.args.changing.now) (sym (c.as_slice.ensures ∙ c.in_ok-tables.ensures)) ∙ sym c.is_mutating.ensures ∙ c.if-is_mutating.false)
