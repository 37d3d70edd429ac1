use Rattle.std.proofs.Common.{◌≡◌, None, Some, ap, sym, ◌∙◌}
use Rattle.ebr_locks.specs.Locks.{LockTable, HasRoom, holder_of}
use Rattle.ebr_locks.proofs.PlaceLemmas.{place_found}
use Rattle.ebr_locks.proofs.locks.Locks.take.Goals as goal

pub returns-in-None-clause-held : goal.returns-in-None-clause-held
unfolding HasRoom
returns-in-None-clause-held c =
    let none : holder_of c.args.row c.args.self.now.taken ≡ None = sym c.holder.ensures.holder ∙ c.in-None.is in
    let place : c.self.inside.place ≡ Some (c.args.row, c.args.tx) = ap (λ (s : LockTable). s.room.place) c.self.view_is ∙ (c.requires none).0 in
    place_found c.self.inside.list c.self.inside.place c.args.row c.args.tx c.self.invariant place (ap (λ (s : LockTable). holder_of c.args.row s.taken) c.self.view_is ∙ none)
