use Rattle.std.proofs.Common.{ap, sym, subst, ◌∙◌}
use Rattle.ebr_locks.specs.Locks.{LockTable, is_held_in}
use Rattle.ebr_locks.specs.inside.Filed.{IsPlaced, taken_of}
use Rattle.ebr_locks.proofs.PlaceLemmas.{held_but}
use Rattle.ebr_locks.proofs.locks.Locks.holds_in.Goals as goal

pub returns-in-Some : goal.returns-in-Some
returns-in-Some c =
    c.holds_other_in.ensures ∙ held_but c.args.table c.args.but c.self.inside.list c.in-Some.lock (subst (λ p. IsPlaced c.self.inside.list p) c.in-Some.is c.self.invariant)
    ∙ ap (λ p. is_held_in c.args.table c.args.but (taken_of c.self.inside.list p)) (sym c.in-Some.is) ∙ ap (λ (s : LockTable). is_held_in c.args.table c.args.but s.taken) c.self.view_is
