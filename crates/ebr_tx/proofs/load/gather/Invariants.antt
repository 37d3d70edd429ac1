use Rattle.std.proofs.Common.{◌≡◌, take, drop, []}
use Rattle.ebr_tx.specs.inside.Loading.{all_follow, AreGathered}
use Rattle.ebr_tx.proofs.load.gather.Given as goal

-- the changes so far are gathered, and the others are still to follow them
abbrev pub invariant-loop-c : goal.invariant-loop-c
invariant-loop-c l = record {
  gathered : AreGathered l.versions.tables (take l.c-index l.changes) l.own l.rows;
  follow : all_follow l.versions.commits (take l.c-index l.changes) (drop l.c-index l.changes) ≡ all_follow l.versions.commits [] l.changes;
}
