use Rattle.std.proofs.Common.{◌≡◌, drop, map}
use Rattle.ebr_query.specs.Results.{all, keyed}
use Rattle.ebr_query.specs.inside.Joined.{put_before}
use Rattle.ebr_query.specs.inside.Numbers.{rows_numbered, keyed_row}
use Rattle.ebr_query.proofs.sort.keyed.Given as goal

abbrev pub invariant-loop-n : goal.invariant-loop-n
invariant-loop-n l =
    put_before (map (keyed_row l.sources) l.found) (all (map (keyed l.keys l.binds) (rows_numbered l.sources (drop l.n-index l.numbers))))
    ≡ all (map (keyed l.keys l.binds) (rows_numbered l.sources l.numbers))
