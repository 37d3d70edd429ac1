use Rattle.std.proofs.Common.{◌≡◌, Some, None, find, option_map, ap, sym, ◌∙◌, rules}
use Rattle.ebr_run.specs.Scope as spec
use Rattle.ebr_places.specs.Lent.{part}
use Rattle.ebr_scope.proofs.Entries.{found}
use Rattle.ebr_places.proofs.lookup.part_meant.Goals as goal

pub returns-in-Some : goal.returns-in-Some
returns-in-Some c =
    let f : Some c.in-Some.part.now ≡ find (λ p. spec.is_part c.args.name.now (part p)) c.args.parts.now = search rules in
    let v : c.unbounded.result ≡ option_map spec.unbounded c.in-Some.part.now.ty = search rules in
    rw v (ap (λ o. option_map spec.part_variable (option_map part o)) f
    ∙ ap (option_map spec.part_variable) (sym (found part (spec.is_part c.args.name.now) c.args.parts.now)))

pub returns-in-None : goal.returns-in-None
returns-in-None c =
    let f : None ≡ find (λ p. spec.is_part c.args.name.now (part p)) c.args.parts.now = search rules in
    ap (λ o. option_map spec.part_variable (option_map part o)) f
    ∙ ap (option_map spec.part_variable) (sym (found part (spec.is_part c.args.name.now) c.args.parts.now))
