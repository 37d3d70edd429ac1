use Rattle.std.proofs.Common.{rules, ◌≡◌, ◌<◌, ◌∙◌, ◌∷◌, length, ap, sym}
use Rattle.ebr_code.specs.Instructions.{holding}
use Rattle.ebr_run.specs.Statements.{only_row}
use Rattle.ebr_running.specs.Rest.{stand, later_of, state_of}
use Rattle.ebr_running.proofs.OnlyRow.{several_rows}
use Rattle.ebr_running.proofs.running.Running.take_row.Goals as goal

pub returns-then-others-gt0 : goal.returns-then-others-gt0
returns-then-others-gt0 c types fits calls asks given =
    let σ = state_of c.args.self.now asks given in
    let split : c.args.rows.now ≡ c.in-Some.row.now ∷ c.in-Some.others.now = search rules in
    let more : 0 < length c.in-Some.others.now = search rules in
    c.raise-then-others-gt0.ensures.moves calls asks given
    ∙ ap (stand calls (later_of c.args.self.now)) (sym (ap (λ rs. only_row types rs holding σ) split ∙ several_rows types c.in-Some.row.now c.in-Some.others.now holding σ more))
