use Rattle.std.proofs.Common.{◌≡◌, ◌≤◌, None, ◌+◌, ap, sym, subst, ◌∙◌, arith}
use Rattle.std.specs.Option.{option_copied}
use Rattle.std.specs.List.{slice_get}
use Rattle.ebr_editions.specs.Editions.{Editions, edition_of}
use Rattle.ebr_editions.proofs.Line.{edition_of-at, edition_of-below}
use Rattle.ebr_editions.proofs.chain.Chain.entry.Goals as goal

pub returns-in_err-at-clause-entry : goal.returns-in_err-at-clause-entry
returns-in_err-at-clause-entry c =
    let low : c.args.e.0 ≤ 0 = omega (arith, c.in_err-at.ensures) in
    ap option_copied c.from_residual.ensures
    ∙ sym (subst (λ (v : Editions). edition_of v.made c.args.e ≡ None) c.self.view_is (edition_of-below 0 _ c.args.e c.self.invariant.line.numbered low))

pub returns-clause-entry : goal.returns-clause-entry
returns-clause-entry c =
    let place : c.args.e.0 ≡ 1 + c.in_ok-at.at = omega (arith, c.in_ok-at.ensures) in
    c.entry_at.ensures ∙ ap (λ xs. slice_get xs c.in_ok-at.at) c.deref.ensures.value
    ∙ sym (subst (λ (v : Editions). edition_of v.made c.args.e ≡ slice_get c.self.inside.made.items c.in_ok-at.at) c.self.view_is (edition_of-at 0 c.in_ok-at.at _ c.args.e c.self.invariant.line.numbered place))
