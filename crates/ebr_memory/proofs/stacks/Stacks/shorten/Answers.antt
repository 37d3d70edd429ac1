use Rattle.std.proofs.Common.{◌≡◌, ◌+◌, ◌-◌, ◌∙◌, length, take, drop, reverse, ap, arith}
use Rattle.std.proofs.lemmas.List.{length-drop}
use Rattle.ebr_memory.specs.Levels.{stacks, with_top}
use Rattle.ebr_memory.proofs.Cuts.{stacks_cut}
use Rattle.ebr_memory.proofs.stacks.Stacks.shorten.Goals as goal

pub returns : goal.returns
returns g c =
    let items = c.self.inside.items.items in
    let base = c.self.inside.base in
    let bases = reverse c.self.inside.bases.items in
    let d = length-drop base items in
    let height : c.saturating_sub.result ≡ length (drop base items) - c.args.count = omega (arith, c.saturating_sub.ensures, c.len.ensures, c.self.inside.items.ok.0, d) in
    ap (stacks base bases) (c.truncate.ensures.items ∙ ap (λ n. take (base + n) items) height) ∙ stacks_cut base bases items c.args.count ∙ ap (λ l. with_top (drop c.args.count l.top) l) c.self.view_is
