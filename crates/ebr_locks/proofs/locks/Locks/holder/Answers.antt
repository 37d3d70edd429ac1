use Rattle.std.proofs.Common.{ap, sym, subst, ◌∙◌}
use Rattle.ebr_locks.specs.Locks.{LockTable, AreLocks, holder_of}
use Rattle.ebr_locks.proofs.PlaceLemmas.{holder_place, holder_taken, locks_taken}
use Rattle.ebr_locks.proofs.locks.Locks.holder.Goals as goal

pub returns-then-has_place-clause-holder : goal.returns-then-has_place-clause-holder
returns-then-has_place-clause-holder c =
    holder_place c.self.inside.list c.self.inside.place c.self.invariant c.args.row (sym c.has_place.ensures ∙ c.if-has_place.true)
    ∙ ap (λ (s : LockTable). holder_of c.args.row s.taken) c.self.view_is

pub returns-then-has_place-clause-kept : goal.returns-then-has_place-clause-kept
returns-then-has_place-clause-kept c = subst (λ (s : LockTable). AreLocks s.taken) c.self.view_is (locks_taken c.self.inside.list c.self.inside.place c.self.invariant)

pub returns-clause-holder : goal.returns-clause-holder
returns-clause-holder c =
    c.holder.ensures ∙ holder_taken c.self.inside.list c.self.inside.place c.self.invariant c.args.row (sym c.has_place.ensures ∙ c.if-has_place.false)
    ∙ ap (λ (s : LockTable). holder_of c.args.row s.taken) c.self.view_is

pub returns-clause-kept : goal.returns-clause-kept
returns-clause-kept c = subst (λ (s : LockTable). AreLocks s.taken) c.self.view_is (locks_taken c.self.inside.list c.self.inside.place c.self.invariant)
