use Rattle.std.proofs.Common.{◌≡◌, false, take}
use Rattle.ebr_tx.specs.Data.{some_other}
use Rattle.ebr_tx.specs.Conflicts.{gives_key_by}
use Rattle.ebr_tx.specs.inside.Filed.{transactions_of}
use Rattle.ebr_tx.proofs.keys.is_in_use.Given as goal

abbrev pub invariant-loop-x : goal.invariant-loop-x
invariant-loop-x l = some_other l.t (gives_key_by l.table l.places l.key) (transactions_of (take l.x-index l.live)) ≡ false
