use Rattle.std.proofs.Common.{◌≡◌, ◌≤◌, ℕ, false}
use Rattle.ebr_tx.specs.Conflicts.{gives_key}
use Rattle.ebr_tx.specs.inside.Filed.{passes_at}
use Rattle.ebr_tx.proofs.keys.last_giver.Given as goal

-- no change from the end on gives the key
abbrev pub invariant-loop-place : goal.invariant-loop-place
invariant-loop-place l = (q : ℕ) → l.end ≤ q → passes_at (gives_key l.table l.places l.key) l.own.changes q ≡ false

abbrev pub decreases-loop-place : goal.decreases-loop-place
decreases-loop-place l = l.end
