use Rattle.std.proofs.Common.{◌≡◌, drop}
use Rattle.ebr_query.specs.Results.{keys_of}
use Rattle.ebr_query.specs.inside.Joined.{put_before}
use Rattle.ebr_query.proofs.sort.keys_of.Given as goal

abbrev pub invariant-loop-key : goal.invariant-loop-key
invariant-loop-key l = put_before l.values (keys_of (drop l.key-index l.keys) l.binds l.row) ≡ keys_of l.keys l.binds l.row
