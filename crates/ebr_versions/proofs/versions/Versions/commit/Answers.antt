use Rattle.std.proofs.Common.{[], ◌∷◌, ◌++◌, sym, subst}
use Rattle.ebr_versions.specs.Store.{Store, HasRoom, OfAdded}
use Rattle.ebr_versions.specs.Keys.{KeysDiffer}
use Rattle.ebr_versions.proofs.Indexing.{stored_committed}
use Rattle.ebr_versions.proofs.versions.Versions.commit.Goals as goal

pub invariant_of-self : goal.invariant_of-self
unfolding HasRoom
invariant_of-self c =
    let room = subst (λ (s : Store). HasRoom s c.args.changes) (sym c.self.view_is) c.requires.room in
    let added = subst (λ (s : Store). OfAdded s.tables c.args.changes) (sym c.self.view_is) c.requires.added in
    let keys = subst (λ (s : Store). KeysDiffer (s.commits ++ c.args.changes ∷ []) s.tables) (sym c.self.view_is) c.requires.keys in
    stored_committed c.self.inside.commits.items c.self.inside.tables c.args.changes c.self.inside.index c.push_reserved.new.self.items c.publish.new.self c.self.invariant
    room.0 room.2 added keys c.push_reserved.ensures.items c.publish.ensures
