use Rattle.std.proofs.Common.{◌≡◌, ap, length, rules, ◌∙◌}
use Rattle.ebr_changes.specs.Filed.{Filed}
use Rattle.ebr_changes.proofs.FiledLemmas.{same_length}
use Rattle.ebr_changes.proofs.changes.Changes.len.Goals as goal

pub returns-clause-entries : goal.returns-clause-entries
returns-clause-entries c =
    let len : c.len.result ≡ length c.self.inside.changes.items = search rules in
    len ∙ same_length c.self.inside.changes.items c.self.inside.index.pending c.self.invariant.rows ∙ ap (λ (s : Filed). length s.entries) c.self.view_is
