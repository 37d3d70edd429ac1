use Rattle.std.proofs.Common.{◌≡◌, [], Some, None, Ok, unwrap_or, subst, rules}
use Rattle.std.specs.Prelude.{slice_get}
use Rattle.std.proofs.lemmas.Result.{err_from_is_err_and}
use Rattle.ebr_dml.specs.inside.Apart.{FoundApart}
use Rattle.ebr_dml.proofs.Stepping.{step-end, seen-now, step-before, step-refused-first, step-refused-after, step-after, step-ready}
use Rattle.ebr_dml.proofs.dml.Dml.step.Goals as goal

pub returns-in_default-clause-stepped : goal.returns-in_default-clause-stepped
returns-in_default-clause-stepped c =
    let i = c.self.inside in
    let rows = c.in-Ok.rows in
    let is : i.found ≡ Ok rows = search rules in
    let none : slice_get rows i.at ≡ None = search rules in
    step-end c.args.tx.now.contents c.args.after i.plan i.t i.binds i.found i.at i.begun c.args.self.now c.self.view_is rows is none

pub after-requires-clause-seen : goal.after-requires-clause-seen
after-requires-clause-seen c =
    let i = c.self.inside in
    let rows = c.in-Ok.rows in
    let row = c.in-Some.row.now in
    let is : i.found ≡ Ok rows = search rules in
    let some : slice_get rows i.at ≡ Some row = search rules in
    let same : c.get-then-self.result.now ≡ i.plan = search rules in
    seen-now c.args.tx.now.contents c.args.after i.plan i.t i.binds i.found i.at i.begun c.args.self.now c.self.view_is rows is row some c.get-then-self.result.now same c.requires

pub returns-in_err-step-clause-stepped : goal.returns-in_err-step-clause-stepped
returns-in_err-step-clause-stepped c =
    let i = c.self.inside in
    let rows = c.in-Ok.rows in
    let row = c.in-Some.row.now in
    let is : i.found ≡ Ok rows = search rules in
    let some : slice_get rows i.at ≡ Some row = search rules in
    let same : c.get-then-self.result.now ≡ i.plan = search rules in
    let left : c.left-new.result ≡ unwrap_or c.args.after [] = search rules in
    let told = step-refused-after c.args.tx.now.contents c.args.after i.plan i.t i.binds i.found i.at i.begun c.args.self.now c.self.view_is rows is row some
    c.get-then-self.result.now same c.left-new.result left c.after.new.tx.contents c.in_err-step.field-0.0 c.if-self.true c.in_err-step.ensures.changed in
    let p = err_from_is_err_and c.from_residual.result c.from_residual.ensures.1 in
    rw (p.1, p.2) told

pub returns-in_err-step-2-clause-stepped : goal.returns-in_err-step-2-clause-stepped
returns-in_err-step-2-clause-stepped c =
    let i = c.self.inside in
    let rows = c.in-Ok.rows in
    let row = c.in-Some.row.now in
    let is : i.found ≡ Ok rows = search rules in
    let some : slice_get rows i.at ≡ Some row = search rules in
    let same : c.get-else-self.result.now ≡ i.plan = search rules in
    let told = step-refused-first c.args.tx.now.contents c.args.after i.plan i.t i.binds i.found i.at i.begun c.args.self.now c.self.view_is rows is row some
    c.get-else-self.result.now same c.in_err-step-2.field-0.0 c.if-self.false (search rules) in
    let p = err_from_is_err_and c.from_residual-in_err-step-2.result c.from_residual-in_err-step-2.ensures.1 in
    rw (p.1, p.2) told

pub returns-in_ok-step-clause-stepped : goal.returns-in_ok-step-clause-stepped
returns-in_ok-step-clause-stepped c =
    let i = c.self.inside in
    let rows = c.in-Ok.rows in
    let row = c.in-Some.row.now in
    let is : i.found ≡ Ok rows = search rules in
    let some : slice_get rows i.at ≡ Some row = search rules in
    let same : c.get-then-self.result.now ≡ i.plan = search rules in
    let left : c.left-new.result ≡ unwrap_or c.args.after [] = search rules in
    step-after c.args.tx.now.contents c.args.after i.plan i.t i.binds i.found i.at i.begun c.args.self.now c.self.view_is rows is row some
    c.get-then-self.result.now same c.left-new.result left c.after.new.tx.contents c.in_ok-step.step c.if-self.true c.in_ok-step.ensures.changed

pub returns-in_ok-step-clause-ready : goal.returns-in_ok-step-clause-ready
returns-in_ok-step-clause-ready c =
    let i = c.self.inside in
    let rows = c.in-Ok.rows in
    let row = c.in-Some.row.now in
    let is : i.found ≡ Ok rows = search rules in
    let some : slice_get rows i.at ≡ Some row = search rules in
    let same : c.get-then-self.result.now ≡ i.plan = search rules in
    let left : c.left-new.result ≡ unwrap_or c.args.after [] = search rules in
    step-ready c.args.tx.now.contents c.args.after i.plan i.t i.binds i.found i.at i.begun c.args.self.now c.self.view_is rows is row some
    c.get-then-self.result.now same c.left-new.result left c.after.new.tx.contents c.in_ok-step.step c.requires (subst FoundApart is c.self.invariant)
    c.in_ok-step.ensures.stays c.in_ok-step.ensures.changed

pub returns-in_ok-step-2-clause-stepped : goal.returns-in_ok-step-2-clause-stepped
returns-in_ok-step-2-clause-stepped c =
    let i = c.self.inside in
    let rows = c.in-Ok.rows in
    let row = c.in-Some.row.now in
    let is : i.found ≡ Ok rows = search rules in
    let some : slice_get rows i.at ≡ Some row = search rules in
    let same : c.get-else-self.result.now ≡ i.plan = search rules in
    step-before c.args.tx.now.contents c.args.after i.plan i.t i.binds i.found i.at i.begun c.args.self.now c.self.view_is rows is row some
    c.get-else-self.result.now same c.in_ok-step-2.step c.if-self.false (search rules)
