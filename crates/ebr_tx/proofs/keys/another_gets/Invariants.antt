use Rattle.std.proofs.Common.{◌≡◌, ◌≤◌, ℕ, false}
use Rattle.ebr_tx.specs.inside.Filed.{passes_at}
use Rattle.ebr_tx.specs.inside.Keys.{gives_at_last}
use Rattle.ebr_tx.proofs.keys.another_gets.Given as goal

-- no change from the end on gives the key at last
abbrev pub invariant-loop-place : goal.invariant-loop-place
invariant-loop-place l = (q : ℕ) → l.end ≤ q → passes_at (gives_at_last l.own.changes l.table l.this l.places l.key) l.own.changes q ≡ false

abbrev pub decreases-loop-place : goal.decreases-loop-place
decreases-loop-place l = l.end
