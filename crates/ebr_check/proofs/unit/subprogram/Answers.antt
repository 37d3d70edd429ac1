use Rattle.std.proofs.Common.{sym, subst, ap, ◌∙◌}
use Rattle.ebr_scope.specs.Declarations.{with_parameters}
use Rattle.ebr_scope.specs.Lent.{env}
use Rattle.ebr_rules.specs.Noted.{noted}
use Rattle.ebr_validity.specs.Statements.{in_body}
use Rattle.ebr_check.proofs.Within.{IsWithin, cut_back, parameters_within}
use Rattle.ebr_check.proofs.Parts.{subprogram_noted}
use Rattle.ebr_check.proofs.unit.subprogram.Goals as goal

pub returns-clause-least : goal.returns-clause-least
returns-clause-least c =
    subprogram_noted c.args.it.now (env c.args.place.now c.args.known.now) c.add_parameters.new.known c.result_type.result c.args.least.now c.head.new.least c.block.new.least
    c.in_ok-head.ensures
    (c.in_ok-add_parameters.ensures ∙ ap (λ ps. with_parameters c.args.place.now.seen.now.view ps c.args.known.now) c.as_slice.ensures)
    c.result_type.ensures
    (c.in_ok-block.ensures.least ∙ ap (λ p. noted (in_body c.args.it.now.body (env p c.add_parameters.new.known)) c.head.new.least) c.within_subprogram-inner.ensures)

pub returns-clause-known : goal.returns-clause-known
returns-clause-known c =
    c.cut.ensures
    ∙ cut_back c.args.known.now c.block.new.known c.depth-depth.result
    (subst (IsWithin c.args.known.now) (sym (c.in_ok-block.ensures.known ∙ c.in_ok-add_parameters.ensures)) (parameters_within c.args.place.now.seen.now.view c.as_slice.result.now c.args.known.now))
    c.depth-depth.ensures
