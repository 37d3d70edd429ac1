use Rattle.std.proofs.Common.{◌≡◌, drop}
use Rattle.ebr_bodies.specs.Bodies.{put}
use Rattle.ebr_statements.proofs.row.put.Given as goal

abbrev pub invariant-loop-at : goal.invariant-loop-at
invariant-loop-at l = put (drop l.at l.places) (drop l.at l.values) l.items.items ≡ put l.places l.values l.fn.row
