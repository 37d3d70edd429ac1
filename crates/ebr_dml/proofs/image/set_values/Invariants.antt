use Rattle.std.proofs.Common.{◌≡◌, drop}
use Rattle.ebr_dml.specs.Images.{set_values}
use Rattle.ebr_dml.proofs.image.set_values.Given as goal

abbrev pub invariant-loop-set : goal.invariant-loop-set
invariant-loop-set l = set_values l.seen l.binds (drop l.set-index l.sets) l.values.items ≡ set_values l.seen l.binds l.sets l.fn.row
