use Rattle.std.proofs.Common.{◌≡◌, ◌+◌, ◌-◌, ◌∙◌, length, take, drop, reverse, ap, arith}
use Rattle.std.proofs.lemmas.List.{length-drop}
use Rattle.ebr_memory.proofs.Cuts.{stacks_taken}
use Rattle.ebr_memory.proofs.stacks.Stacks.last.Goals as goal

pub returns : goal.returns
returns g c =
    let items = c.self.inside.items.items in
    let base = c.self.inside.base in
    let d = length-drop base items in
    let height : c.saturating_sub.result ≡ length (drop base items) - c.args.count = omega (arith, c.saturating_sub.ensures, c.len.ensures, c.self.inside.items.ok.0, d) in
    c.rest_from.ensures ∙ ap (drop (base + c.saturating_sub.result)) c.as_slice.ensures.value ∙ ap (λ n. drop (base + n) items) height ∙ stacks_taken base items c.args.count ∙ ap (λ l. reverse (take c.args.count l.top)) c.self.view_is
