use Rattle.std.proofs.Common.{◌≡◌, map, drop}
use Rattle.ebr_query.specs.Results.{all}
use Rattle.ebr_dml.specs.Plans.{set_of}
use Rattle.ebr_dml.specs.inside.Joined.{joined}
use Rattle.ebr_dml.proofs.planning.sets_of.Given as goal

abbrev pub invariant-loop-a : goal.invariant-loop-a
invariant-loop-a l = joined l.sets (all (map (set_of l.relation) (drop l.a-index l.list))) ≡ all (map (set_of l.relation) l.list)
