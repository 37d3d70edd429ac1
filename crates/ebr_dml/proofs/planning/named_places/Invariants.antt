use Rattle.std.proofs.Common.{◌≡◌, map, drop}
use Rattle.ebr_query.specs.Results.{all}
use Rattle.ebr_dml.specs.Plans.{place_named}
use Rattle.ebr_dml.specs.inside.Joined.{joined}
use Rattle.ebr_dml.proofs.planning.named_places.Given as goal

abbrev pub invariant-loop-name : goal.invariant-loop-name
invariant-loop-name l =
    joined l.places (all (map (place_named l.columns) (drop l.name-index l.names))) ≡ all (map (place_named l.columns) l.names)
