use Rattle.std.proofs.Common.{refl, sym, ap, ◌∙◌}
use Rattle.ebr_validity.specs.Verdict.{is_valid}
use Rattle.ebr_core.specs.Machine.{lists_of, creation_answer}
use Rattle.ebr_core.proofs.HeldAgain.{viewed}
use Rattle.ebr_core.proofs.define.creation_answer.Goals as goal

pub returns-then-branch : goal.returns-then-branch
returns-then-branch g c = λ db h.
    let seen = c.in_ok-view.ensures.view (lists_of db) h.own_keys h.views_are h.catalogue_is in (
      ap creation_answer (sym c.if-branch.true ∙ c.in_ok-passes.ensures ∙ ap (λ v. is_valid v c.args.unit.now) (c.get.ensures ∙ seen.is)),
      viewed g.K.Keep.as_keeper c.args.current.now _ db h refl refl (c.of.ensures.current (lists_of db) h.own_keys h.views_are h.catalogue_is),
      refl,
    )

pub returns : goal.returns
returns g c = λ db h.
    let seen = c.in_ok-view.ensures.view (lists_of db) h.own_keys h.views_are h.catalogue_is in (
      ap creation_answer (sym c.if-branch.false ∙ c.in_ok-passes.ensures ∙ ap (λ v. is_valid v c.args.unit.now) (c.get.ensures ∙ seen.is)),
      viewed g.K.Keep.as_keeper c.args.current.now _ db h refl refl (c.of.ensures.current (lists_of db) h.own_keys h.views_are h.catalogue_is),
      refl,
    )
