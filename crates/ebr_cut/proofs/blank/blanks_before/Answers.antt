use Rattle.std.proofs.Common.{◌+◌, ap, sym, ◌∙◌, arith}
use Rattle.ebr_cut.proofs.Lengths.{no_blanks, positive, known_at, blanks_more, blanks_within}
use Rattle.ebr_cut.proofs.blank.blanks_before.Goals as goal

pub returns-then-length-eq0 : goal.returns-then-length-eq0
returns-then-length-eq0 c = no_blanks c.args.rest.now c.blank_ahead-length.result c.blank_ahead-length.ensures.value c.if-length-eq0.true

pub returns-else-length-eq0 : goal.returns-else-length-eq0
returns-else-length-eq0 c =
    let m = c.blank_ahead-length.result in
    let some = positive m c.if-length-eq0.false in
    ap (λ k. m + k) (known_at c.args.lengths.now c.args.rest.now m c.requires.known some c.blank_ahead-length.ensures.within)
    ∙ sym (blanks_more c.args.rest.now m c.blank_ahead-length.ensures.value some)

pub overflow_add-result : goal.overflow_add-result
overflow_add-result c =
    let m = c.blank_ahead-length.result in
    let some = positive m c.if-length-eq0.false in
    let behind = known_at c.args.lengths.now c.args.rest.now m c.requires.known some c.blank_ahead-length.ensures.within in
    let all = blanks_more c.args.rest.now m c.blank_ahead-length.ensures.value some in
    omega (arith, behind, all, blanks_within c.args.rest.now, c.requires.small)
