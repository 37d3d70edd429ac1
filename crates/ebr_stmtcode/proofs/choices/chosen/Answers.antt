use Rattle.std.proofs.Common.{sym, ap, ◌∙◌}
use Rattle.ebr_stmtcode.specs.inside.Choices.{chosen}
use Rattle.ebr_stmtcode.proofs.Blocks.{chosen_last}
use Rattle.ebr_stmtcode.proofs.choices.chosen.Goals as goal

pub loop-choice-preserved : goal.loop-choice-preserved
loop-choice-preserved c =
    ap (chosen c.pop.new.self.items) c.in_ok-code.ensures
    ∙ sym (chosen_last c.pop.new.self.items c.in-Some.choice c.loop-choice.code)
    ∙ ap (λ cs. chosen cs c.loop-choice.code) (sym c.in-Some.ensures.items)
    ∙ c.loop-choice.invariant
