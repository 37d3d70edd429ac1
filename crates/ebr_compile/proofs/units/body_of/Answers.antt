use Rattle.std.proofs.Common.{◌≡◌, option_map, refl, ap, subst, ◌∙◌, IfOk}
use Rattle.std.proofs.lemmas.Result.{on_ok_weaker}
use Rattle.ebr_ast.specs.declared.view.EditionView.{EditionView}
use Rattle.ebr_run.specs.Scope.{Env, parameter_type, with_parameters}
use Rattle.ebr_code.specs.Codes.{block_code}
use Rattle.ebr_compile.proofs.Frames.{subprogram_left, within_is, with_result}
use Rattle.ebr_compile.proofs.units.body_of.Goals as goal

pub returns-clause-code : goal.returns-clause-code
returns-clause-code c =
    let e1 = c.enter_frame-frame.new.self in
    let e2 = with_parameters c.args.head.now.parameters e1 in
    let g = c.in_ok-gives.ensures ∙ ap (λ (v : EditionView). option_map (parameter_type v) c.args.head.now.result) c.seen.ensures in
    subst (λ (x : Env). IfOk c.behind_parameters-code.result (λ code. code ≡ block_code c.args.body.now x))
    (within_is c.args.head.now c.args.around.now e1 e2 (with_result c.in_ok-gives.gives e2) c.in_ok-gives.gives g c.enter_frame-frame.ensures.entered refl refl)
    c.behind_parameters-code.ensures.code

pub returns-clause-around : goal.returns-clause-around
returns-clause-around c =
    let e1 = c.enter_frame-frame.new.self in
    let e2 = with_parameters c.args.head.now.parameters e1 in
    on_ok_weaker c.behind_parameters-code.result
    (λ e. subprogram_left c.args.head.now c.args.around.now e1 e2 (with_result c.in_ok-gives.gives e2) c.behind_parameters-code.new.around c.set_result.new.self c.back.new.self c.leave_frame.new.self
    c.mark-mark.result c.enter_frame-frame.result c.in_ok-gives.gives c.result-outer.result
    c.result-outer.ensures c.mark-mark.ensures c.enter_frame-frame.ensures.frame c.enter_frame-frame.ensures.entered refl refl e c.set_result.ensures c.back.ensures c.leave_frame.ensures)
    c.behind_parameters-code.ensures.around
