use Rattle.std.proofs.Common.{get_or, ap, ◌∙◌}
use Rattle.ebr_value.proofs.Relations.{number_tells, place_tells}
use Rattle.ebr_value.proofs.calls.function.Goals as goal

pub returns-in-len1-clause-numeral : goal.returns-in-len1-clause-numeral
returns-in-len1-clause-numeral c = λ text ef ea.
    number_tells c.of_one.result c.answer_of.result c.args.f c.a-item.result c.args.place text c.of_one.ensures.value c.of_one.ensures.memory c.answer_of.ensures ef (c.a-item.is ∙ ap (λ xs. get_or xs 0 c.a-item.result) ea)

pub returns-in-len2-clause-place : goal.returns-in-len2-clause-place
returns-in-len2-clause-place c = λ text y ef e l.
    place_tells c.of_two.result c.answer_of-in-len2.result c.args.f c.a-item-then-args-lt3.result c.b-item.result text y c.of_two.ensures.value c.of_two.ensures.memory c.answer_of-in-len2.ensures ef
    (c.a-item-then-args-lt3.is ∙ ap (λ xs. get_or xs 0 c.a-item-then-args-lt3.result) e)
    (c.b-item.is ∙ ap (λ xs. get_or xs 1 c.b-item.result) e)
    l
