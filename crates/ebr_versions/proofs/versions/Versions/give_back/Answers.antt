use Rattle.std.proofs.Common.{◌≡◌, length, rules}
use Rattle.ebr_versions.proofs.Indexing.{stored_kept}
use Rattle.ebr_versions.proofs.versions.Versions.give_back.Goals as goal

pub invariant_of-self : goal.invariant_of-self
invariant_of-self c =
    let count : c.len-count.result ≡ length c.self.inside.commits.items = search rules in
    stored_kept c.self.inside.commits.items c.self.inside.tables c.self.inside.index c.withdraw.new.self c.len-count.result count c.self.invariant c.withdraw.ensures.keeps
