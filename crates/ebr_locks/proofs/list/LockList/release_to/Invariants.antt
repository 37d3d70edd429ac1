use Rattle.std.proofs.Common.{◌≡◌, ◌<◌, ◌≤◌, length}
use Rattle.ebr_locks.specs.Locks.{locks_of, released}
use Rattle.ebr_locks.proofs.list.LockList.release_to.Given as goal

-- so many of the transaction's locks are left
abbrev pub invariant-loop-held : goal.invariant-loop-held
invariant-loop-held l = record {
  now : l.self ≡ released l.tx l.held l.initial.self;
  within : l.held ≤ length (locks_of l.tx l.initial.self);
  low : l.held < l.mark → l.held ≡ length (locks_of l.tx l.initial.self);
}

abbrev pub decreases-loop-held : goal.decreases-loop-held
decreases-loop-held l = l.held
