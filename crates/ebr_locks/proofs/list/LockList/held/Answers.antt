use Rattle.std.proofs.Common.{List, length, sym, ap, ◌∙◌}
use Rattle.ebr_locks.specs.Locks.{Lock, locks_of}
use Rattle.ebr_locks.proofs.ListLemmas.{few_entries}
use Rattle.ebr_locks.proofs.OwnedLemmas.{numbers-length}
use Rattle.ebr_locks.proofs.list.LockList.held.Goals as goal

pub returns-in-Some : goal.returns-in-Some
returns-in-Some c =
    (c.in-Some.ensures.some c.self.inside.taken.entries (few_entries c.self.inside.taken.entries c.self.invariant.locks.count) c.self.invariant.owners_are).count
    ∙ numbers-length c.args.tx c.self.inside.taken.entries ∙ ap (λ (ls : List Lock). length (locks_of c.args.tx ls)) c.self.view_is

pub returns-in-None : goal.returns-in-None
returns-in-None c =
    sym (ap length (c.in-None.ensures.none c.self.inside.taken.entries (few_entries c.self.inside.taken.entries c.self.invariant.locks.count) c.self.invariant.owners_are))
    ∙ numbers-length c.args.tx c.self.inside.taken.entries ∙ ap (λ (ls : List Lock). length (locks_of c.args.tx ls)) c.self.view_is
