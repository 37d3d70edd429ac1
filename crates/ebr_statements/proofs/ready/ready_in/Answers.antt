use Rattle.std.proofs.Common.{◌≡◌, Some, sym, ap, ◌∙◌}
use Rattle.std.specs.Option.{option_copied}
use Rattle.std.specs.Prelude.{option_map}
use Rattle.std.proofs.lemmas.Result.{err_from_is_err_and}
use Rattle.ebr_ast.specs.Views.{object_of}
use Rattle.ebr_code.specs.Units.{unit_code}
use Rattle.ebr_run.specs.Units.{valid_unit}
use Rattle.ebr_statements.proofs.Readying.{is_ready, not_ready}
use Rattle.ebr_statements.proofs.ready.ready_in.Goals as goal

pub returns-in_err-origin-clause-ready : goal.returns-in_err-origin-clause-ready
returns-in_err-origin-clause-ready c =
    let there : object_of c.args.f.now.key c.args.book.objects ≡ Some c.in-Some-object_of.object.now = sym c.object_of.ensures ∙ ap (λ o. option_copied o) c.in-Some-object_of.is in
    let code : option_map (unit_code c.args.book) (valid_unit c.args.book c.args.f.now.key) ≡ Some c.in-Some.unit.now = sym c.unit_of.ensures ∙ ap (λ o. option_copied o) c.in-Some.is in
    let p = err_from_is_err_and c.from_residual-in_err-origin.result c.from_residual-in_err-origin.ensures.1 in rw (p.1, p.2)
    (λ view seen.
    not_ready view c.args.book c.args.f.now.edition c.args.f.now.key c.in-Some-object_of.object.now c.in-Some.unit.now there code
    c.in_ok-object-in-Some-object_of.object c.in_err-origin.field-0.0 c.in_ok-object-in-Some-object_of.ensures (c.in_err-origin.ensures c.args.f.now.edition))

pub returns-clause-ready : goal.returns-clause-ready
returns-clause-ready c = λ view seen.
    let there : object_of c.args.f.now.key c.args.book.objects ≡ Some c.in-Some-object_of.object.now = sym c.object_of.ensures ∙ ap (λ o. option_copied o) c.in-Some-object_of.is in
    let code : option_map (unit_code c.args.book) (valid_unit c.args.book c.args.f.now.key) ≡ Some c.in-Some.unit.now = sym c.unit_of.ensures ∙ ap (λ o. option_copied o) c.in-Some.is in
    is_ready view c.args.book c.args.f.now.edition c.args.f.now.key c.in-Some-object_of.object.now c.in-Some.unit.now there code seen
    c.in_ok-object-in-Some-object_of.object c.in_ok-unit-in-Some.unit (c.in_ok-origin.origin, c.in_ok-origin.places) c.in_ok-object-in-Some-object_of.ensures c.in_ok-unit-in-Some.ensures (c.in_ok-origin.ensures c.args.f.now.edition)
