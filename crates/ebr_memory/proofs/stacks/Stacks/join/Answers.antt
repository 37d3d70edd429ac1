use Rattle.std.proofs.Common.{◌≡◌, ◌∙◌, length, reverse, ap, arith}
use Rattle.ebr_memory.specs.Levels.{joined, stacks}
use Rattle.ebr_memory.proofs.Cuts.{stacks_under}
use Rattle.ebr_memory.proofs.stacks.Stacks.join.Goals as goal

pub returns : goal.returns
returns g c =
    let items = c.self.inside.items.items in
    let bases = c.self.inside.bases.items in
    let left = c.pop.new.self.items in
    let l : length left ≡ c.pop.new.self.len = omega (arith, c.pop.new.self.ok.0) in
    ap (λ b. stacks b (reverse left) items) c.unwrap_or-self-inside.ensures
    ∙ stacks_under c.self.inside.base c.self.inside.bases.len c.pop.new.self.len bases left c.pop.result items c.pop.ensures.items c.pop.ensures.cases l c.self.invariant
    ∙ ap joined c.self.view_is
