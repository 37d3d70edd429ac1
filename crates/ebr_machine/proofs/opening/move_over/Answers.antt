use Rattle.std.proofs.Common.{◌≡◌, ◌≤◌, [], length, rules, ap, ◌∙◌}
use Rattle.ebr_memory.specs.Levels.{with_top}
use Rattle.ebr_machine.proofs.Arguments.{moved, moved_all}
use Rattle.ebr_machine.proofs.opening.move_over.Goals as goal

pub returns-clause-variables : goal.returns-clause-variables
returns-clause-variables c =
    let n = c.args.count in
    let vs = c.args.operands.now.top in
    let to = c.args.variables.now in
    let all : c.loop-at.variables ≡ with_top (moved n vs to.top) to = search rules in
    let empty : to.top ≡ [] = search rules in
    let enough : n ≤ length vs = search rules in
    all ∙ ap (λ xs. with_top (moved n vs xs) to) empty ∙ ap (λ xs. with_top xs to) (moved_all n vs enough)
