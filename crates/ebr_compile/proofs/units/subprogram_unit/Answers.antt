use Rattle.std.proofs.Common.{◌≡◌, ◌∙◌, ap, sym, subst, Some, IfOk}
use Rattle.ebr_ast.specs.Views.{unit_key}
use Rattle.ebr_run.specs.Units as run
use Rattle.ebr_code.specs.Units as spec
use Rattle.ebr_compile.proofs.units.subprogram_unit.Goals as goal

pub returns : goal.returns
returns c =
    subst (λ r. IfOk r (λ unit. unit ≡ spec.of_one (spec.subprogram_code (run.outside c.args.seen.now.view (Some (unit_key c.args.it.now.head.name))) c.args.it.now))) (sym c.without.ensures)
    (subst (λ e. IfOk c.alone_unit-unit.result (λ unit. unit ≡ spec.of_one (spec.subprogram_code e c.args.it.now)))
    (c.outside-around.ensures ∙ ap (λ k. run.outside c.args.seen.now.view (Some k)) c.in_ok-key.ensures)
    c.alone_unit-unit.ensures)
