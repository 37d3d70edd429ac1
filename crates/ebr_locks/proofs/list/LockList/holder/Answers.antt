use Rattle.std.proofs.Common.{refl, ap, ◌∙◌, arith}
use Rattle.std.specs.Map.{values_of}
use Rattle.ebr_locks.specs.Locks.{holder_of}
use Rattle.ebr_locks.proofs.FiledLemmas.{holder_fits, holder_found, holder_not_found}
use Rattle.ebr_locks.proofs.list.LockList.holder.Goals as goal

pub overflow_cast-result : goal.overflow_cast-result
overflow_cast-result c =
    omega (arith, holder_fits c.self.inside.rows (values_of c.self.inside.taken.entries) c.self.invariant.rows_are c.self.invariant.fit c.self.invariant.locks.once c.args.row c.in-Some.first c.spot.result c.spot.ensures c.in-Some.ensures.some)

pub returns-in-Some : goal.returns-in-Some
returns-in-Some c =
    holder_found c.self.inside.rows (values_of c.self.inside.taken.entries) c.self.invariant.rows_are c.self.invariant.fit c.self.invariant.locks.once c.args.row c.in-Some.first c.spot.result (record { session = record { 0 = c.in-Some.first.list }; depth = c.in-Some.first.place }) c.spot.ensures c.in-Some.ensures.some refl (λ low. refl)
    ∙ ap (holder_of c.args.row) c.self.view_is

pub returns-in-None : goal.returns-in-None
returns-in-None c =
    holder_not_found c.self.inside.rows (values_of c.self.inside.taken.entries) c.self.invariant.rows_are c.self.invariant.fit c.self.invariant.locks.once c.args.row c.spot.result c.spot.ensures c.in-None.ensures.none
    ∙ ap (holder_of c.args.row) c.self.view_is
