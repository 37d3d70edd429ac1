use Rattle.std.proofs.Common.{◌++◌, map, ap, ◌∙◌}
use Rattle.std.proofs.lemmas.Result.{on_ok_weaker}
use Rattle.ebr_run.specs.Scope.{Env}
use Rattle.ebr_code.specs.Codes.{guarded_code, stmt_code, handler_code}
use Rattle.ebr_compile.proofs.Frames.{framed}
use Rattle.ebr_compile.proofs.packages.initial_part.Goals as goal

pub returns : goal.returns
returns c =
    on_ok_weaker c.guarded.result
    (λ e. e ∙ ap (λ (x : Env). c.args.out.now ++ guarded_code (map stmt_code c.args.it.now.statements) (map handler_code c.args.it.now.handlers) x) (c.enter_frame.ensures.entered ∙ ap framed c.in_ok-enter_part.ensures))
    c.guarded.ensures
