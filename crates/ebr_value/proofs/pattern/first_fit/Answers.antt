use Rattle.std.proofs.Common.{◌≡◌, ◌≤◌, ◌+◌, drop, length, true, false, sym, ap, ◌∙◌, arith, length-drop}
use borrow.Author.Count.{below_more}
use Rattle.ebr_value.specs.inside.Parts.{fits}
use Rattle.ebr_value.proofs.Places.{place_found}
use Rattle.ebr_value.proofs.Likeness.{fits-length}
use Rattle.ebr_value.proofs.Stretches.{none_found, passed, ends_before}
use Rattle.ebr_value.proofs.pattern.first_fit.Goals as goal

pub returns-in_default-clause-value : goal.returns-in_default-clause-value
returns-in_default-clause-value c =
    sym (none_found _ _ _ _ _ _ _ c.longest_stretch-start.ensures.stretch c.rest_from.ensures c.new-finder.ensures c.loop-place.invariant.below c.in_default.ensures)

pub returns-then-fits-clause-value : goal.returns-then-fits-clause-value
returns-then-fits-clause-value c =
    let p = passed _ _ _ _ _ _ _ c.longest_stretch-start.ensures.stretch c.rest_from.ensures c.new-finder.ensures c.loop-place.invariant.below c.in-Some.skipped c.in-Some.ensures in
    let h : fits c.args.part.now (drop (c.loop-place.place + c.in-Some.skipped) c.args.text.now) ≡ true = ap (fits c.args.part.now) (sym c.rest_from-in-loop-place.ensures) ∙ sym c.fits.ensures ∙ c.if-fits.true in
    let l : c.loop-place.place + c.in-Some.skipped ≤ length c.args.text.now = omega (arith, c.in-Some.ensures.1.fits, ap length c.rest_from.ensures, length-drop (c.loop-place.place + c.longest_stretch-start.result.0) c.args.text.now) in
    sym (place_found (fits c.args.part.now) c.args.text.now (c.loop-place.place + c.in-Some.skipped) l p h)

pub returns-then-fits-clause-within : goal.returns-then-fits-clause-within
returns-then-fits-clause-within c =
    let h : fits c.args.part.now c.rest_from-in-loop-place.result.now ≡ true = sym c.fits.ensures ∙ c.if-fits.true in
    let l : c.loop-place.place + c.in-Some.skipped ≤ length c.args.text.now = omega (arith, c.in-Some.ensures.1.fits, ap length c.rest_from.ensures, length-drop (c.loop-place.place + c.longest_stretch-start.result.0) c.args.text.now) in
    omega (arith, fits-length c.args.part.now c.rest_from-in-loop-place.result.now h, ap length c.rest_from-in-loop-place.ensures, length-drop (c.loop-place.place + c.in-Some.skipped) c.args.text.now)

pub loop-place-preserved : goal.loop-place-preserved
loop-place-preserved c =
    let p = passed _ _ _ _ _ _ _ c.longest_stretch-start.ensures.stretch c.rest_from.ensures c.new-finder.ensures c.loop-place.invariant.below c.in-Some.skipped c.in-Some.ensures in
    let h : fits c.args.part.now (drop (c.loop-place.place + c.in-Some.skipped) c.args.text.now) ≡ false = ap (fits c.args.part.now) (sym c.rest_from-in-loop-place.ensures) ∙ sym c.fits.ensures ∙ c.if-fits.false in
    record {
      below = below_more (λ k. fits c.args.part.now (drop k c.args.text.now) ≡ false) (c.loop-place.place + c.in-Some.skipped) p h;
      within = omega (arith, c.in-Some.ensures.1.fits, ap length c.rest_from.ensures, length-drop (c.loop-place.place + c.longest_stretch-start.result.0) c.args.text.now);
    }

pub returns-clause-value : goal.returns-clause-value
returns-clause-value c = sym (ends_before c.args.part.now c.args.text.now c.loop-place.place (omega arith) c.loop-place.invariant.below)
