use Rattle.std.proofs.Common.{◌<◌, length, arith, sym, ◌∙◌}
use Rattle.ebr_value.proofs.Likeness.{whole_there, whole_not, part_within, first_not, first_there}
use Rattle.ebr_value.proofs.pattern.like.Goals as goal

pub returns-then-fits : goal.returns-then-fits
returns-then-fits c = whole_there c.args.pattern.now c.args.text.now c.part_length-first.result c.part_length-first.ensures.value c.if-first-pattern.true (sym c.fits.ensures ∙ c.if-fits.true)

pub returns-else-fits : goal.returns-else-fits
returns-else-fits c = c.if-fits.false ∙ sym (whole_not c.args.pattern.now c.args.text.now c.part_length-first.result c.part_length-first.ensures.value c.if-first-pattern.true (sym c.fits.ensures ∙ c.if-fits.false))

pub returns-then-not-fits : goal.returns-then-not-fits
returns-then-not-fits c =
    let l : c.part_length-first.result < length c.args.pattern.now = omega arith in
    sym (first_not c.args.pattern.now c.args.text.now c.part_length-first.result c.part_length-first.ensures.value l (sym c.fits-2.ensures ∙ c.if-not-fits.true))

pub rest_from-rest-requires : goal.rest_from-rest-requires
rest_from-rest-requires c = part_within c.args.pattern.now c.args.text.now c.part_length-first.result c.part_length-first.ensures.within (sym c.fits-2.ensures ∙ c.if-not-fits.false)

pub returns : goal.returns
returns c =
    let l : c.part_length-first.result < length c.args.pattern.now = omega arith in
    c.like_after.ensures ∙ first_there c.args.pattern.now c.args.text.now c.rest_from-more.result.now c.rest_from-rest.result.now c.part_length-first.result c.part_length-first.ensures.value l (sym c.fits-2.ensures ∙ c.if-not-fits.false) c.rest_from-more.ensures c.rest_from-rest.ensures
