use Rattle.std.proofs.Common.{◌≡◌, false, sym, subst}
use Rattle.ebr_versions.specs.Keys.{is_added}
use Rattle.ebr_versions.specs.Store.{Store}
use Rattle.ebr_versions.proofs.Indexing.{stored_with_table}
use Rattle.ebr_versions.proofs.versions.Versions.add_table.Goals as goal

pub invariant_of-self-2 : goal.invariant_of-self-2
invariant_of-self-2 c =
    let new = subst (λ (s : Store). is_added s.tables c.args.t ≡ false) (sym c.self.view_is) c.requires in
    stored_with_table c.self.inside.commits.items c.self.inside.tables (record { id = c.args.t; key = c.args.key }) c.self.inside.index c.add.new.self c.self.invariant new c.in_ok-add.ensures.ok
