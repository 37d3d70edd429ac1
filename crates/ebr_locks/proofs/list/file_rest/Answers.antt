use Rattle.ebr_locks.specs.inside.Filed.{table_spot}
use Rattle.ebr_locks.proofs.FiledLemmas.{adds_spot, removes_spot, leaves_spots, table_spots}
use Rattle.ebr_locks.proofs.list.file_rest.Goals as goal

pub returns-in-Ok-clause-tables : goal.returns-in-Ok-clause-tables
returns-in-Ok-clause-tables c = adds_spot c.args.lock.now table_spot c.table_spot.result c.table_spot.ensures c.args.tables.now c.add.new.self c.in_ok-add.ensures.ok

pub returns-in-Err-clause-tables_stay : goal.returns-in-Err-clause-tables_stay
returns-in-Err-clause-tables_stay c =
    leaves_spots c.args.lock.now table_spot c.args.tables.now c.add.new.self c.remove.new.self
    (adds_spot c.args.lock.now table_spot c.table_spot.result c.table_spot.ensures c.args.tables.now c.add.new.self c.in_ok-add.ensures.ok)
    (removes_spot c.args.lock.now table_spot (table_spots c.args.lock.now) c.table_spot-in-Err.result c.table_spot-in-Err.ensures c.add.new.self c.remove.new.self c.remove.ensures)
