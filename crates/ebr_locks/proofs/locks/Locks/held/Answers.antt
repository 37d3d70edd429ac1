use Rattle.std.proofs.Common.{arith}
use Rattle.ebr_locks.proofs.PlaceLemmas.{count_taken}
use Rattle.ebr_locks.proofs.Released.{held-le}
use Rattle.ebr_locks.proofs.locks.Locks.held.Goals as goal

pub overflow_cast-result : goal.overflow_cast-result
overflow_cast-result c =
    omega (arith, c.held.ensures, c.places.ensures, count_taken c.self.inside.list c.self.inside.place c.self.invariant c.args.tx, held-le c.args.tx c.self.inside.list, c.self.invariant.locks.count)
