use Rattle.std.proofs.Common.{◌≡◌, ◌<◌, false, List, length, ap, subst, sym, ◌∙◌}
use Rattle.ebr_base.specs.declared.numbers.TheConstants.{MAX_COUNT}
use Rattle.std.specs.Map.{values_of}
use Rattle.ebr_locks.specs.Locks.{Lock, is_locked}
use Rattle.ebr_locks.specs.inside.Filed.{row_spot}
use Rattle.ebr_locks.proofs.FiledLemmas.{adds_spot, removes_spot, leaves_spots, row_spots}
use Rattle.ebr_locks.proofs.ListLemmas.{filed_more, filed_same}
use Rattle.ebr_locks.proofs.list.LockList.push.Goals as goal

pub invariant_of-self-in-Ok : goal.invariant_of-self-in-Ok
invariant_of-self-in-Ok c =
    let free : is_locked c.args.lock.0 (values_of c.self.inside.taken.entries) ≡ false = ap (is_locked c.args.lock.0) c.self.view_is ∙ c.requires.free in
    let few : length (values_of c.self.inside.taken.entries) < MAX_COUNT = subst (λ (ls : List Lock). length ls < MAX_COUNT) (sym c.self.view_is) c.requires.few in
    filed_more c.in-Some.number c.args.lock c.self.inside.taken.entries c.file_rest.new.taken.entries c.self.inside.rows c.self.inside.tables c.self.inside.owners c.add.new.self c.file_rest.new.tables c.file_rest.new.owners c.self.invariant
    c.in-Ok.ensures.taken c.in-Ok.ensures.rising free few c.row_spot.ensures.fits
    (adds_spot c.args.lock row_spot c.row_spot.result c.row_spot.ensures.spot c.self.inside.rows c.add.new.self c.in_ok-add.ensures.ok) c.in-Ok.ensures.tables c.in-Ok.ensures.owners

pub invariant_of-self-in-Err : goal.invariant_of-self-in-Err
invariant_of-self-in-Err c =
    let free : is_locked c.args.lock.0 (values_of c.self.inside.taken.entries) ≡ false = ap (is_locked c.args.lock.0) c.self.view_is ∙ c.requires.free in
    filed_same c.args.lock c.self.inside.taken.entries c.file_rest.new.taken.entries c.self.inside.rows c.self.inside.tables c.self.inside.owners c.remove.new.self c.file_rest.new.tables c.file_rest.new.owners c.self.invariant
    c.in-Err.ensures.taken_stays free
    (leaves_spots c.args.lock row_spot c.self.inside.rows c.add.new.self c.remove.new.self
    (adds_spot c.args.lock row_spot c.row_spot.result c.row_spot.ensures.spot c.self.inside.rows c.add.new.self c.in_ok-add.ensures.ok)
    (removes_spot c.args.lock row_spot (row_spots c.args.lock) c.row_spot-in-Err.result c.row_spot-in-Err.ensures.spot c.add.new.self c.remove.new.self c.remove.ensures))
    c.in-Err.ensures.tables_stay c.in-Err.ensures.owners_stay
