use Rattle.std.proofs.Common.{◌≡◌}
use Rattle.ebr_turntests.proofs.book.Book.append.Given as goal

abbrev pub invariant-loop : goal.invariant-loop
invariant-loop g l =
    (l.self.entries.items ≡ l.fn.self.entries.items) × ((goal.iterator-loop g).can_next l.iterator' × (goal.iterator-loop g).is_finite l.iterator')
